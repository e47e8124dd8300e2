-- A field read byte by byte is the field read as a whole: what a field that has been read so far and the rest of it make together does not change when
-- one byte goes from the rest to what is read.
use Prim.Native.Nat.{ℕ, zero, suc, ◌+◌, ◌-◌, ◌*◌, ◌≤◌, ◌<◌}
use mathlib.Core.Path.{◌≡◌, refl, sym, ap, ◌∙◌}
use mathlib.Core.Bool.{Bool, true, false, cond, ◌&&◌, and-true, and-false, and-eq-true_iff}
use mathlib.Core.List.{List, [], ◌∷◌}
use native.Mathlib.Numerals.{add-one}
use Rattle.std.proofs.Math.Nat.{pow-suc, pow-le-pow_right}
use Rattle.std.proofs.Common.{◌^◌, lit<}
use native.Mathlib.Omega.{arith}
use lib.ListN.{length, get_or, drop, drop_of_length-le}
use lib.Seq.{drop-cons}
use lib.Dec.{leb, ltb, eqb}
use borrow.Author.Tests.{ltb-true, ltb-false, leb-true, leb-false, eqb-true, eqb-false, le-leb, lt-leb, eq-eqb, ne_eqb}
use Rattle.model.specs.Limits.{within}
use Rattle.laws.proofs.Cases.{eqb_cases, cond_cases}
use Rattle.checks.proofs.Tests.{within_to}
use Rattle.signs.specs.Signs.{quote}
use Rattle.field.specs.Fields.{lettered, same, all_digits, value_from, Closed as Closing, «open», closed, behind, up_to_quote, inside_or, held_in}
use Rattle.field.specs.declared.Stage.{Stage}
use Rattle.field.specs.declared.Stage.TheVariants.{Fresh, Bare, Open, Closed, Bad}
use Rattle.std.specs.Prelude.{Option, None, Some}
use Rattle.field.specs.declared.Kind.{Kind}
use Rattle.field.specs.declared.Kind.TheVariants.{Name, Number}
use Rattle.field.specs.declared.Field.{Field}
use Rattle.field.specs.Reading.{fresh_field, bad_field, staged, digit_taken, letter_taken, taken, field_by, field_after, whole_kind, kind_by, kind_at, is_fresh}

module _ (name : List ℕ) (f : Field) (stage : Stage) (is : f.stage ≡ stage) where
  pub field_by_lem : (b : ℕ) → field_after name b f ≡ field_by stage name b f
  unfolding field_after
  field_by_lem b = ap (λ (s : Stage). field_by s name b f) is

  pub kind_by_lem : kind_at name f ≡ kind_by stage name f
  unfolding kind_at
  kind_by_lem = ap (λ (s : Stage). kind_by s name f) is

too_many_lem : (d n : ℕ) → 7 ≤ d → within 1 7 (d + suc n) ≡ false
unfolding within
too_many_lem d n h = rw (lt-leb (d + suc n) 7 (omega arith), and-false) refl

ten_fits : (d : ℕ) → d < 7 → 10 ^ d ≤ 1000000
ten_fits d few = pow-le-pow_right {n = 10} (lit< tt) {i = d} {j = 6} (omega arith)

-- a number has at most seven digits and is no longer than they are
pub record SoundField (f : Field) : Type 0 where
  pub few : f.digits ≤ 7
  pub small : f.number < 10 ^ f.digits

staged_sound : (stage : Stage) (f : Field) → SoundField f → SoundField (staged stage f)
staged_sound stage f sound = record { few = sound.few; small = sound.small }

pub bad_sound : SoundField bad_field
bad_sound = record { few = omega arith; small = omega arith }

pub fresh_sound : SoundField fresh_field
fresh_sound = record { few = omega arith; small = omega arith }

within_none : (n : ℕ) → n ≡ 0 → within 1 7 n ≡ false
unfolding within
within_none n e = rw (lt-leb 1 n (omega arith)) refl

within_some : (n : ℕ) → 1 ≤ n → n ≤ 7 → within 1 7 n ≡ true
unfolding within
within_some n low high = rw (le-leb 1 n low, le-leb n 7 high) refl

absurd_zero : (d : ℕ) → (d ≡ 0 → ⊥) → 1 ≤ d + 0
absurd_zero zero h = absurd (h refl)
absurd_zero (suc d) h = omega arith

-- what k letters of a name, or d digits that make n, and the rest of what a field holds make together
unfoldable pub kind_after : List ℕ → ℕ → ℕ → ℕ → List ℕ → Option Kind
kind_after name k d n rest =
    cond (eqb d 0 && same rest (drop k name)) (Some Name)
    (cond (eqb k 0 && (within 1 7 (d + length rest) && all_digits rest)) (Some (Number (value_from n rest))) None)

abbrev pub held_with : List ℕ → Field → List ℕ → Option Kind
held_with name f rest = kind_after name f.letters f.digits f.number rest

abbrev closed_kind : List ℕ → Field → Closing → Option Kind
closed_kind name f «open» = None
closed_kind name f (closed inner) = held_with name f inner

abbrev after_closed : List ℕ → Field → List ℕ → Option Kind
after_closed name f [] = held_with name f []
after_closed name f (b ∷ rest) = None

abbrev pub field_from_by : Stage → List ℕ → Field → List ℕ → Option Kind
field_from_by Fresh name f rest = held_with name f (held_in rest)
field_from_by Bare name f rest = held_with name f rest
field_from_by Open name f rest = closed_kind name f (up_to_quote rest)
field_from_by Closed name f rest = after_closed name f rest
field_from_by Bad name f rest = None

-- what a field that has been read so far and its rest make together
unfoldable pub field_from : List ℕ → Field → List ℕ → Option Kind
field_from name f rest = field_from_by f.stage name f rest

from_by : (name : List ℕ) (f : Field) (stage : Stage) → f.stage ≡ stage → (rest : List ℕ) → field_from name f rest ≡ field_from_by stage name f rest
unfolding field_from
from_by name f stage is rest = ap (λ (s : Stage). field_from_by s name f rest) is

-- a name of letters: no digit, quote, comma, CR or LF is in it
abbrev pub Lettered : List ℕ → Type 0
Lettered name = (k : ℕ) → k < length name → 57 < get_or name k 0

pub letters_of : (name : List ℕ) → lettered name ≡ true → Lettered name
unfolding lettered
letters_of [] all k h = absurd (omega arith)
letters_of (b ∷ name) all zero h = ltb-true 57 b ((and-eq-true_iff (ltb 57 b) (lettered name)).0 all).0
letters_of (b ∷ name) all (suc k) h = letters_of name ((and-eq-true_iff (ltb 57 b) (lettered name)).0 all).1 k (omega arith)

module _ (name : List ℕ) (letters : Lettered name) where
  not_same : (b k : ℕ) (rest : List ℕ) → b ≤ 57 → same (b ∷ rest) (drop k name) ≡ false
  unfolding same
  not_same b k rest low =
      cond_cases (λ (t : Bool). same (b ∷ rest) (drop k name) ≡ false) (ltb k (length name)) true true
      (λ e. rw (drop-cons name k 0 (ltb-true _ _ e), ne_eqb b (get_or name k 0) (λ s. omega (arith, letters k (ltb-true _ _ e)))) refl)
      (λ e. rw (drop_of_length-le name (ltb-false _ _ e)) refl)

  -- nothing below a digit is in a name or in a number
  pub low_none : (b k d n : ℕ) (rest : List ℕ) → b < 48 → kind_after name k d n (b ∷ rest) ≡ None
  unfolding kind_after all_digits within
  low_none b k d n rest low =
      rw (not_same b k rest (omega arith), lt-leb 48 b low, and-false, and-false, and-false) refl

  letter_none : (b k d n : ℕ) (rest : List ℕ) → within 48 57 b ≡ false → eqb d 0 && same (b ∷ rest) (drop k name) ≡ false
      → kind_after name k d n (b ∷ rest) ≡ None
  unfolding kind_after all_digits
  letter_none b k d n rest no_digit other = rw (other, no_digit, and-false, and-false) refl

  digit_kind : (b k d n : ℕ) (rest : List ℕ) → within 48 57 b ≡ true
      → kind_after name k d n (b ∷ rest) ≡ cond (eqb k 0 && (within 1 7 (d + suc (length rest)) && all_digits rest)) (Some (Number (value_from (n * 10 + (b - 48)) rest))) None
  unfolding kind_after all_digits value_from
  digit_kind b k d n rest is_digit =
      rw (not_same b k rest (within_to 48 57 b is_digit), and-false, is_digit) refl

  -- one byte more of what a field holds: the line is bad whatever follows, or the byte is taken
  module _ (stage : Stage) (b : ℕ) (f : Field) (sound : SoundField f) (G : Field → Type 0)
      (none : ((rest : List ℕ) → held_with name f (b ∷ rest) ≡ None) → G bad_field)
      (some : (g : Field) → g.stage ≡ stage → SoundField g → ((rest : List ℕ) → held_with name f (b ∷ rest) ≡ held_with name g rest) → G g) where
    digit_cases : within 48 57 b ≡ true → G (digit_taken stage b f)
    unfolding digit_taken kind_after
    digit_cases is_digit =
        let k = f.letters in
        let d = f.digits in
        let n = f.number in
        cond_cases G (ltb 0 k) _ _
        (λ e. none (λ rest. digit_kind b k d n rest is_digit ∙ rw (ne_eqb k 0 (λ s. omega (arith, ltb-true 0 k e))) refl))
        (λ e. cond_cases G (leb 7 d) _ _
        (λ e7. none (λ rest. digit_kind b k d n rest is_digit ∙ rw (too_many_lem d (length rest) (leb-true 7 d e7), and-false) refl))
        (λ e7. cond_cases G (leb 1000000 n) _ _
        (λ big. absurd (omega (arith, leb-true 1000000 n big, leb-false 7 d e7, sound.small, ten_fits d (leb-false 7 d e7))))
        (λ big. some (record { stage = stage; letters = k; digits = d + 1; number = n * 10 + (b - 48) }) refl
        (record { few = omega (arith, leb-false 7 d e7); small = rw (add-one, pow-suc 10 d) (omega (arith, sound.small, within_to 48 57 b is_digit)) })
        (λ rest.
        let more : d + suc (length rest) ≡ d + 1 + length rest = omega arith in
        digit_kind b k d n rest is_digit ∙ rw (ne_eqb (d + 1) 0 (λ s. omega arith), more) refl))))

    letter_cases : within 48 57 b ≡ false → G (letter_taken stage name b f)
    unfolding letter_taken kind_after same all_digits
    letter_cases no_digit =
        let k = f.letters in
        let d = f.digits in
        let n = f.number in
        cond_cases G (ltb 0 d) _ _
        (λ e. none (λ rest. letter_none b k d n rest no_digit (rw (ne_eqb d 0 (λ s. omega (arith, ltb-true 0 d e))) refl)))
        (λ e. cond_cases G (leb (length name) k) _ _
        (λ past. none (λ rest. letter_none b k d n rest no_digit (rw (drop_of_length-le name (leb-true (length name) k past), and-false) refl)))
        (λ past. cond_cases G (eqb (get_or name k 0) b) _ _
        (λ is. some (record { stage = stage; letters = k + 1; digits = d; number = n }) refl
        (record { few = sound.few; small = sound.small })
        (λ rest. rw (drop-cons name k 0 (leb-false (length name) k past), eq-eqb b (get_or name k 0) (sym (eqb-true _ _ is)), no_digit, and-false, and-false, ne_eqb (k + 1) 0 (λ s. omega arith), add-one) refl))
        (λ is. none (λ rest. letter_none b k d n rest no_digit
        (rw (drop-cons name k 0 (leb-false (length name) k past), ne_eqb b (get_or name k 0) (λ s. eqb-false _ _ is (sym s)), and-false) refl)))))

    taken_cases : G (taken stage name b f)
    unfolding taken
    taken_cases = cond_cases G (within 48 57 b) _ _ digit_cases letter_cases

  inside_law : (f : Field) (b : ℕ) (rest : List ℕ) (c : Closing) → b < 48 → held_with name f (inside_or (b ∷ rest) c) ≡ closed_kind name f c
  inside_law f b rest «open» low = low_none b _ _ _ rest low
  inside_law f b rest (closed inner) low = refl

  behind_none : (f : Field) (b : ℕ) (c : Closing) → ((inner : List ℕ) → held_with name f (b ∷ inner) ≡ None) → closed_kind name f (behind b c) ≡ None
  behind_none f b «open» none = refl
  behind_none f b (closed inner) none = none inner

  behind_law : (f g : Field) (b : ℕ) (c : Closing) → ((inner : List ℕ) → held_with name f (b ∷ inner) ≡ held_with name g inner)
      → closed_kind name f (behind b c) ≡ closed_kind name g c
  behind_law f g b «open» some = refl
  behind_law f g b (closed inner) some = some inner

  -- a byte between the quotes that is none itself
  open_none : (f : Field) (b : ℕ) (rest : List ℕ) → eqb b quote ≡ false → ((inner : List ℕ) → held_with name f (b ∷ inner) ≡ None)
      → closed_kind name f (up_to_quote (b ∷ rest)) ≡ None
  unfolding up_to_quote
  open_none f b [] other none = rw other refl
  open_none f b (c ∷ rest) other none = behind_none f b (up_to_quote (c ∷ rest)) none

  open_some : (f g : Field) (b : ℕ) (rest : List ℕ) → eqb b quote ≡ false → ((inner : List ℕ) → held_with name f (b ∷ inner) ≡ held_with name g inner)
      → closed_kind name f (up_to_quote (b ∷ rest)) ≡ closed_kind name g (up_to_quote rest)
  unfolding up_to_quote
  open_some f g b [] other some = rw other refl
  open_some f g b (c ∷ rest) other some = behind_law f g b (up_to_quote (c ∷ rest)) some

  -- the closing quote: nothing may follow it
  open_closes : (f : Field) (b : ℕ) (rest : List ℕ) → b ≡ quote → closed_kind name f (up_to_quote (b ∷ rest)) ≡ after_closed name f rest
  unfolding up_to_quote
  open_closes f b [] is = rw (eq-eqb b quote is) refl
  open_closes f b (c ∷ rest) is = behind_none f b (up_to_quote (c ∷ rest)) (λ inner. low_none b _ _ _ inner (omega arith))

  staged_closed : (f : Field) (rest : List ℕ) → after_closed name f rest ≡ after_closed name (staged Closed f) rest
  staged_closed f [] = refl
  staged_closed f (b ∷ rest) = refl

  -- one byte goes from the rest of a field to what is read of it
  field_turn : (f : Field) → SoundField f → (stage : Stage) → f.stage ≡ stage → (b : ℕ) (rest : List ℕ)
      → field_from name (field_by stage name b f) rest ≡ field_from_by stage name f (b ∷ rest)
  unfolding held_in
  field_turn f sound Fresh is b rest =
      eqb_cases b quote _
      (λ t e. rw t (from_by name (staged Open f) Open refl rest ∙ sym (inside_law (staged Open f) b rest (up_to_quote rest) (omega arith))))
      (λ t e. rw t
      (taken_cases Bare b f sound (λ (g : Field). field_from name g rest ≡ held_with name f (b ∷ rest))
      (λ none. from_by name bad_field Bad refl rest ∙ sym (none rest))
      (λ g at good some. from_by name g Bare at rest ∙ sym (some rest))))
  field_turn f sound Bare is b rest =
      taken_cases Bare b f sound (λ (g : Field). field_from name g rest ≡ held_with name f (b ∷ rest))
      (λ none. from_by name bad_field Bad refl rest ∙ sym (none rest))
      (λ g at good some. from_by name g Bare at rest ∙ sym (some rest))
  field_turn f sound Open is b rest =
      eqb_cases b quote _
      (λ t e. rw t (from_by name (staged Closed f) Closed refl rest ∙ sym (open_closes f b rest e ∙ staged_closed f rest)))
      (λ t e. rw t
      (taken_cases Open b f sound (λ (g : Field). field_from name g rest ≡ closed_kind name f (up_to_quote (b ∷ rest)))
      (λ none. from_by name bad_field Bad refl rest ∙ sym (open_none f b rest t none))
      (λ g at good some. from_by name g Open at rest ∙ sym (open_some f g b rest t some))))
  field_turn f sound Closed is b rest = from_by name bad_field Bad refl rest
  field_turn f sound Bad is b rest = from_by name bad_field Bad refl rest

  pub field_law : (f : Field) → SoundField f → (b : ℕ) (rest : List ℕ) → field_from name (field_after name b f) rest ≡ field_from name f (b ∷ rest)
  field_law f sound b rest =
      ap (λ (g : Field). field_from name g rest) (field_by_lem name f f.stage refl b)
      ∙ field_turn f sound f.stage refl b rest
      ∙ sym (from_by name f f.stage refl (b ∷ rest))

  sound_by : (f : Field) → SoundField f → (stage : Stage) (b : ℕ) → SoundField (field_by stage name b f)
  sound_by f sound Fresh b =
      cond_cases SoundField (eqb b quote) _ _ (λ t. staged_sound Open f sound) (λ t. taken_cases Bare b f sound SoundField (λ none. bad_sound) (λ g at good some. good))
  sound_by f sound Bare b = taken_cases Bare b f sound SoundField (λ none. bad_sound) (λ g at good some. good)
  sound_by f sound Open b =
      cond_cases SoundField (eqb b quote) _ _ (λ t. staged_sound Closed f sound) (λ t. taken_cases Open b f sound SoundField (λ none. bad_sound) (λ g at good some. good))
  sound_by f sound Closed b = bad_sound
  sound_by f sound Bad b = bad_sound

  pub field_sound : (f : Field) → SoundField f → (b : ℕ) → SoundField (field_after name b f)
  field_sound f sound b = rw (field_by_lem name f f.stage refl b) (sound_by f sound f.stage b)

  -- a field with a byte in it is not fresh
  Begun : Field → Type 0
  Begun g = is_fresh g.stage ≡ false

  begun_by : (f : Field) → SoundField f → (stage : Stage) (b : ℕ) → Begun (field_by stage name b f)
  unfolding Begun
  begun_by f sound Fresh b =
      cond_cases Begun (eqb b quote) _ _ (λ t. refl) (λ t. taken_cases Bare b f sound Begun (λ none. refl) (λ g at good some. rw at refl))
  begun_by f sound Bare b = taken_cases Bare b f sound Begun (λ none. refl) (λ g at good some. rw at refl)
  begun_by f sound Open b =
      cond_cases Begun (eqb b quote) _ _ (λ t. refl) (λ t. taken_cases Open b f sound Begun (λ none. refl) (λ g at good some. rw at refl))
  begun_by f sound Closed b = refl
  begun_by f sound Bad b = refl

  pub field_begun : (f : Field) → SoundField f → (b : ℕ) → is_fresh (field_after name b f).stage ≡ false
  unfolding Begun
  field_begun f sound b = rw (field_by_lem name f f.stage refl b) (begun_by f sound f.stage b)

  same_none : (k : ℕ) → same [] (drop k name) ≡ leb (length name) k
  unfolding same
  same_none k =
      cond_cases (λ (t : Bool). same [] (drop k name) ≡ leb (length name) k) (leb (length name) k) true true
      (λ e. rw (drop_of_length-le name (leb-true (length name) k e), e) refl)
      (λ e. rw (drop-cons name k 0 (leb-false (length name) k e), e) refl)

  whole_law : (f : Field) → SoundField f → whole_kind name f ≡ held_with name f []
  unfolding whole_kind kind_after all_digits value_from
  whole_law f sound =
      let k = f.letters in
      let d = f.digits in
      eqb_cases d 0 _
      (λ t e. rw (t, same_none k, within_none (d + 0) (omega arith), and-false) refl)
      (λ t e. rw (t, within_some (d + 0) (absurd_zero d e) (omega (arith, sound.few)), and-true) refl)

  -- a field that ends here
  kind_turn : (f : Field) → SoundField f → (stage : Stage) → kind_by stage name f ≡ field_from_by stage name f []
  unfolding held_in up_to_quote
  kind_turn f sound Fresh = whole_law f sound
  kind_turn f sound Bare = whole_law f sound
  kind_turn f sound Open = refl
  kind_turn f sound Closed = whole_law f sound
  kind_turn f sound Bad = refl

  pub kind_law : (f : Field) → SoundField f → kind_at name f ≡ field_from name f []
  kind_law f sound = kind_by_lem name f f.stage refl ∙ kind_turn f sound f.stage ∙ sym (from_by name f f.stage refl [])

  low_turn : (f : Field) (b : ℕ) (rest : List ℕ) → b < 34 → (stage : Stage) → field_from_by stage name f (b ∷ rest) ≡ None
  unfolding held_in
  low_turn f b rest low Fresh = rw (ne_eqb b quote (λ e. omega arith)) (low_none b _ _ _ rest (omega arith))
  low_turn f b rest low Bare = low_none b _ _ _ rest (omega arith)
  low_turn f b rest low Open = open_none f b rest (ne_eqb b quote (λ e. omega arith)) (λ inner. low_none b _ _ _ inner (omega arith))
  low_turn f b rest low Closed = refl
  low_turn f b rest low Bad = refl

  -- a control character spoils a field
  pub low_field : (f : Field) (b : ℕ) (rest : List ℕ) → b < 34 → field_from name f (b ∷ rest) ≡ None
  low_field f b rest low = from_by name f f.stage refl (b ∷ rest) ∙ low_turn f b rest low f.stage

pub bad_from : (name rest : List ℕ) → field_from name bad_field rest ≡ None
bad_from name rest = from_by name bad_field Bad refl rest

pub fresh_from : (name rest : List ℕ) → field_from name fresh_field rest ≡ kind_after name 0 0 0 (held_in rest)
fresh_from name rest = from_by name fresh_field Fresh refl rest

-- lists that differ in length are not the same
pub same_lengths : (a b : List ℕ) → (length a ≡ length b → ⊥) → false ≡ same a b
unfolding same
same_lengths [] [] h = absurd (h refl)
same_lengths [] (c ∷ cs) h = refl
same_lengths (b ∷ bs) [] h = refl
same_lengths (b ∷ bs) (c ∷ cs) h = go (eqb b c) (same_lengths bs cs (λ e. h (ap suc e)))
  where
    go : (t : Bool) → false ≡ same bs cs → false ≡ t && same bs cs
    go true rest = rest
    go false rest = refl
