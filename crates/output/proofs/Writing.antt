-- Writing goes on: what is left to write, written into the list as it is now, gives what the whole gives, written into the list as it was.
use Prim.Native.Nat.{ℕ, zero, suc, ◌+◌, ◌-◌, ◌*◌, ◌/◌, ◌%◌, ◌≤◌, ◌<◌}
use mathlib.Core.Path.{◌≡◌, refl, sym, ap, ap₂, ◌∙◌}
use mathlib.Core.List.{List, [], ◌∷◌, ◌++◌, append_assoc}
use native.Mathlib.Nat.{add-zero, add-suc, suc-add}
use native.Mathlib.Numerals.{add-one}
use native.Mathlib.Omega.{arith}
use lib.ListN.{length, get_or, take, drop, set, length-append, length-drop, length-set, drop_of_length-le}
use lib.Seq.{sets-eq, take_all, drop-cons, drop-set-lt, get_or-set_same, sets, length-sets}
use lib.Dec.{ltb}
use borrow.Author.Tests.{lt-ltb, le-ltb}
use borrow.Rule.Slice.PartMut.{put_mid}
use Rattle.std.proofs.lemmas.Slice.{put_mid-paste}
use Rattle.laws.proofs.Cases.{cond_cases}
use Rattle.model.specs.Packets.{arrivals_from}
use Rattle.model.specs.Record.{rows_of}
use Rattle.output.specs.Output.{digits_from, decimal, line_with, row_lines}
use Rattle.signs.specs.Signs.{cr, lf, comma}
use Rattle.output.specs.declared.write.RecordRows.{RecordRows}
use Rattle.output.specs.Writing.{Wrote, SameLengthsIn, row_at}

sets_append : (out : List ℕ) (at : ℕ) (first more : List ℕ) → sets out at (first ++ more) ≡ sets (sets out at first) (at + length first) more
sets_append out at [] more = ap (λ (n : ℕ). sets out n more) (sym (add-zero at))
sets_append out at (b ∷ first) more =
    sets_append (set out at b) (suc at) first more
    ∙ ap (λ (n : ℕ). sets (sets (set out at b) (suc at) first) n more) (suc-add at (length first) ∙ sym (add-suc at (length first)))

pub record Left (at : ℕ) (text out : List ℕ) (at' : ℕ) (text' out' : List ℕ) : Type 0 where
  pub is : sets out' at' text' ≡ sets out at text
  pub behind : at' + length text' ≡ at + length text
  pub long : length out' ≡ length out

pub left_all : (at : ℕ) (text out : List ℕ) → Left at text out at text out
left_all at text out = record { is = refl; behind = refl; long = refl }

module _ (at : ℕ) (text out : List ℕ) (at' : ℕ) (out' : List ℕ) where
  pub left_wrote : (first more text' : List ℕ) (next : ℕ) (out'' : List ℕ) → text' ≡ first ++ more
      → Left at text out at' text' out' → Wrote at' first out' next out'' → Left at text out next more out''
  left_wrote first more text' next out'' e L W =
      record {
        is =
            ap₂ (λ (o : List ℕ) (n : ℕ). sets o n more) W.written W.behind
            ∙ sym (sets_append out' at' first more)
            ∙ ap (sets out' at') (sym e)
            ∙ L.is;
        behind = omega (arith, W.behind, length-append first more, ap length e, L.behind);
        long = ap length W.written ∙ length-sets out' at' first ∙ L.long;
      }

  pub left_byte : (b : ℕ) (more text' : List ℕ) (next : ℕ) → text' ≡ b ∷ more → next ≡ at' + 1
      → Left at text out at' text' out' → Left at text out next more (set out' at' b)
  left_byte b more text' next e n L =
      record {
        is = ap (λ (k : ℕ). sets (set out' at' b) k more) (n ∙ add-one at') ∙ ap (sets out' at') (sym e) ∙ L.is;
        behind = omega (arith, n, ap length e, L.behind);
        long = length-set out' at' b ∙ L.long;
      }

  pub left_none : (text' : List ℕ) → text' ≡ [] → at' ≤ length out' → Left at text out at' text' out' → Wrote at text out at' out'
  left_none text' e fits L =
      record {
        inside = omega (arith, ap length e, L.behind, L.long);
        written = ap (sets out' at') (sym e) ∙ L.is;
        behind = omega (arith, ap length e, L.behind);
      }

pub wrote_same : {at next : ℕ} {text text' out out' after : List ℕ} → text ≡ text' → out ≡ out' → Wrote at text out next after → Wrote at text' out' next after
wrote_same {at} t o W = record { inside = omega (arith, W.inside, ap length t, ap length o); written = W.written ∙ ap₂ (λ (w l : List ℕ). sets l at w) t o; behind = W.behind ∙ ap (λ (w : List ℕ). at + length w) t }

pub wrote_fits : (at : ℕ) (text out : List ℕ) (next : ℕ) (after : List ℕ) → Wrote at text out next after → next ≤ length after
wrote_fits at text out next after W = omega (arith, W.inside, W.behind, ap length W.written, length-sets out at text)

-- bytes copied into a part of the list
pub wrote_part : (at : ℕ) (text out part : List ℕ) → at + length text ≤ length out → part ≡ text
    → Wrote at text out (at + length text) (put_mid at (at + length text - at) out part)
wrote_part at text out part fits copied =
    record {
      inside = fits;
      written =
          put_mid-paste at (at + length text - at) out part text (length text) copied (omega arith) refl
          ∙ ap (λ (l : List ℕ). take at out ++ l ++ drop (at + length text) out) (take_all (length text) text (omega arith))
          ∙ sym (sets-eq text out at fits);
      behind = refl;
    }

drop_set : (digits : List ℕ) (k b : ℕ) → k < length digits → drop k (set digits k b) ≡ b ∷ drop (suc k) digits
drop_set digits k b inside =
    drop-cons (set digits k b) k 0 (rw (length-set digits k b) inside)
    ∙ ap₂ (λ (c : ℕ) (more : List ℕ). c ∷ more) (get_or-set_same digits k b 0 inside) (drop-set-lt (suc k) digits k b (omega arith))

-- the loop over the digits, the last of them first: those that are left and those that stand in the list are the number's
abbrev pub Digits : ℕ → List ℕ → ℕ → ℕ → Type 0
Digits number digits left i = digits_from i left ++ drop i digits ≡ decimal number

module _ (number : ℕ) (digits : List ℕ) (left i : ℕ) (long : length digits ≡ 20) (some : 0 < i) (inside : i ≤ 20) (D : Digits number digits left i) where
  digits_turn : (k : ℕ) → i ≡ suc k → digits_from (suc k) left ++ drop (suc k) digits ≡ decimal number
  digits_turn k e = rw e at D

  pub digits_last : left < 10 → drop (i - 1) (set digits (i - 1) (48 + left % 10)) ≡ decimal number
  unfolding digits_from
  digits_last low =
      let k = i - 1 in
      let e : i ≡ suc k = omega arith in
      let small : left % 10 ≡ left = omega arith in
      drop_set digits k (48 + left % 10) (omega arith)
      ∙ ap (λ (n : ℕ). (48 + n) ∷ drop (suc k) digits) small
      ∙ (rw (lt-ltb left 10 low) at (digits_turn k e))

  pub digits_more : 10 ≤ left → Digits number (set digits (i - 1) (48 + left % 10)) (left / 10) (i - 1)
  unfolding digits_from
  digits_more high =
      let k = i - 1 in
      let e : i ≡ suc k = omega arith in
      ap (λ (more : List ℕ). digits_from k (left / 10) ++ more) (drop_set digits k (48 + left % 10) (omega arith))
      ∙ sym (append_assoc (digits_from k (left / 10)) ((48 + left % 10) ∷ []) (drop (suc k) digits))
      ∙ (rw (le-ltb left 10 high) at (digits_turn k e))

  -- what is lent of the list is all that stands there
  pub digits_part : left < 10 → take (20 - (i - 1)) (drop (i - 1) (set digits (i - 1) (48 + left % 10))) ≡ decimal number
  digits_part low =
      let there = set digits (i - 1) (48 + left % 10) in
      take_all (20 - (i - 1)) (drop (i - 1) there) (rw (length-drop (i - 1) there, length-set digits (i - 1) (48 + left % 10)) (omega arith)) ∙ digits_last low

pub digits_all : (number : ℕ) (digits : List ℕ) (left i : ℕ) → i ≡ 0 → Digits number digits left i → digits ≡ decimal number
unfolding digits_from
digits_all number digits left i e D = rw e at D

digits_length : (fuel n : ℕ) → length (digits_from fuel n) ≤ fuel
unfolding digits_from
digits_length zero n = omega arith
digits_length (suc fuel) n =
    cond_cases (λ (digits : List ℕ). length digits ≤ suc fuel) (ltb n 10) _ _
    (λ t. omega arith)
    (λ t. rw (length-append (digits_from fuel (n / 10)) ((48 + n % 10) ∷ [])) (omega (arith, digits_length fuel (n / 10))))

-- a number has at most twenty digits
pub decimal_length : (n : ℕ) → length (decimal n) ≤ 20
decimal_length n = digits_length 20 n

-- the loop over the numbers of a line
pub line_done : (numbers : List ℕ) (i : ℕ) → length numbers ≤ i → line_with (drop i numbers) ≡ cr ∷ lf ∷ []
unfolding line_with
line_done numbers i done = rw (drop_of_length-le numbers done) refl

line_comma : (numbers : List ℕ) (i : ℕ) → i + 1 < length numbers
    → line_with (drop i numbers) ≡ decimal (get_or numbers i 0) ++ comma ∷ line_with (drop (i + 1) numbers)
unfolding line_with
line_comma numbers i more =
    rw (add-one i, drop-cons numbers i 0 (omega arith), drop-cons numbers (suc i) 0 (omega arith)) refl

line_last : (numbers : List ℕ) (i : ℕ) → i < length numbers → length numbers ≤ i + 1
    → line_with (drop i numbers) ≡ decimal (get_or numbers i 0) ++ line_with (drop (i + 1) numbers)
unfolding line_with
line_last numbers i some last =
    rw (drop_of_length-le numbers {i = i + 1} last, drop-cons numbers i 0 some, drop_of_length-le numbers {i = suc i} (omega arith)) refl

module _ (at : ℕ) (numbers out : List ℕ) (end : ℕ) (out' : List ℕ) (i : ℕ) (L : Left at (line_with numbers) out end (line_with (drop i numbers)) out')
    (next : ℕ) (out'' : List ℕ) (W : Wrote end (decimal (get_or numbers i 0)) out' next out'') where
  pub line_turn : i + 1 < length numbers → Left at (line_with numbers) out (next + 1) (line_with (drop (i + 1) numbers)) (set out'' next comma)
  line_turn more =
      left_byte at (line_with numbers) out next out'' comma (line_with (drop (i + 1) numbers)) _ (next + 1) refl refl
      (left_wrote at (line_with numbers) out end out' (decimal (get_or numbers i 0)) _ _ next out'' (line_comma numbers i more) L W)

  pub line_end : i < length numbers → length numbers ≤ i + 1 → Left at (line_with numbers) out next (line_with (drop (i + 1) numbers)) out''
  line_end some last = left_wrote at (line_with numbers) out end out' (decimal (get_or numbers i 0)) _ _ next out'' (line_last numbers i some last) L W

  pub number_fits : next ≤ end + 20
  number_fits = omega (arith, W.behind, decimal_length (get_or numbers i 0))

  pub number_long : length out'' ≡ length out'
  number_long = ap length W.written ∙ length-sets out' end (decimal (get_or numbers i 0))

pub wrote_both : {at middle next : ℕ} {first second out between after : List ℕ} → Wrote at first out middle between → Wrote middle second between next after
    → Wrote at (first ++ second) out next after
wrote_both {at} {first = first} {second} {out} U W =
    record {
      inside = omega (arith, W.inside, U.behind, length-append first second, ap length U.written, length-sets out at first);
      written = W.written ∙ ap₂ (λ (n : ℕ) (o : List ℕ). sets o n second) U.behind U.written ∙ sym (sets_append out at first second);
      behind = omega (arith, U.behind, W.behind, length-append first second);
    }

-- a number of a line takes at most 21 bytes
line_length : (numbers : List ℕ) → length (line_with numbers) ≤ 21 * length numbers + 2
unfolding line_with
line_length [] = omega arith
line_length (n ∷ []) = rw (length-append (decimal n) (cr ∷ lf ∷ [])) (omega (arith, decimal_length n))
line_length (n ∷ m ∷ numbers) =
    rw (length-append (decimal n) (comma ∷ line_with (m ∷ numbers))) (omega (arith, decimal_length n, line_length (m ∷ numbers)))

-- the loop over the packets: the rows that are left
module _ (r : RecordRows) where
  abbrev pub rows_left : ℕ → List ℕ
  rows_left i = row_lines (rows_of (arrivals_from (i + 1) (drop i r.slots.now) (drop i r.values.now)) (drop i r.fates.now) (drop i r.whens.now) (drop i r.bys.now))

  module _ (same : SameLengthsIn r) where
    rows_turn : (i : ℕ) → i < length r.slots.now → rows_left i ≡ line_with (row_at r i) ++ rows_left (i + 1)
    unfolding row_lines rows_of arrivals_from
    rows_turn i more =
        rw (
          add-one (i + 1),
          add-one i,
          drop-cons r.slots.now i 0 more,
          drop-cons r.values.now i 0 (omega (arith, same.of_values)),
          drop-cons r.fates.now i 0 (omega (arith, same.of_fates)),
          drop-cons r.whens.now i 0 (omega (arith, same.of_whens)),
          drop-cons r.bys.now i 0 (omega (arith, same.of_bys)),
        ) refl

    pub rows_done : (i : ℕ) → length r.slots.now ≤ i → rows_left i ≡ []
    unfolding row_lines rows_of arrivals_from
    rows_done i done = rw (drop_of_length-le r.slots.now done) refl

    module _ (at : ℕ) (out : List ℕ) (end : ℕ) (out' : List ℕ) (i : ℕ) (more : i < length r.slots.now) (L : Left at (rows_left 0) out end (rows_left i) out')
        (next : ℕ) (out'' : List ℕ) (W : Wrote end (line_with (row_at r i)) out' next out'') where
      pub rows_again : Left at (rows_left 0) out next (rows_left (i + 1)) out''
      rows_again = left_wrote at (rows_left 0) out end out' (line_with (row_at r i)) (rows_left (i + 1)) _ next out'' (rows_turn i more) L W

      pub row_fits : next ≤ end + 128
      row_fits = omega (arith, W.behind, line_length (row_at r i))

      pub row_long : length out'' ≡ length out'
      row_long = ap length W.written ∙ length-sets out' end (line_with (row_at r i))
