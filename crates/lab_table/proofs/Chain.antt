-- One text behind another: what has been written is at most so long, so the next fits where the list has the sum of both.
use Prim.Native.Nat.{ℕ, ◌+◌, ◌*◌, ◌/◌, ◌≤◌, ◌<◌}
use mathlib.Core.Path.{◌≡◌, refl, ap, ◌∙◌}
use mathlib.Core.List.{List, [], ◌∷◌, ◌++◌, append_assoc}
use native.Mathlib.Numerals.{add-one}
use native.Mathlib.Omega.{arith}
use lib.ListN.{length, get_or, drop, set, length-append, length-set, drop_of_length-le}
use lib.Seq.{drop-cons, length-sets}
use lib.Dec.{eqb}
use borrow.Author.Tests.{eq-eqb, ne_eqb}
use Rattle.laws.proofs.Cases.{cond_cases}
use Rattle.model.specs.declared.Beta.{Beta}
use Rattle.model.specs.declared.Totals.{Totals}
use Rattle.signs.specs.Signs.{cr, lf, comma, slash}
use Rattle.output.specs.Output.{decimal}
use Rattle.output.specs.Writing.{Wrote, Put}
use Rattle.output.proofs.Writing.{Left, left_byte, left_wrote, wrote_both, decimal_length}
use Rattle.model.specs.declared.Marking.{Marking}
use Rattle.runs.specs.declared.Policy.{Policy}
use Rattle.runs.specs.declared.Policy.TheVariants.{Greedy, PG, MF, Plan}
use Rattle.lab_table.specs.Line.{space, name_of, counts_of, behind_commas, thousandths, part_of, line_of}

pub record Near (most at : ℕ) (text out : List ℕ) (next : ℕ) (out' : List ℕ) : Type 0 where
  pub wrote : Wrote at text out next out'
  pub short : length text ≤ most

pub near : {need at next : ℕ} {text out out' : List ℕ} → Put need at text out next out' → at + need ≤ length out → length text ≤ need
    → Near need at text out next out'
near P long short = record { wrote = P.fits long; short = short }

pub near_of : {at next : ℕ} {text out out' : List ℕ} (most : ℕ) → Wrote at text out next out' → length text ≤ most → Near most at text out next out'
near_of most W short = record { wrote = W; short = short }

pub wrote_long : {at next : ℕ} {text out out' : List ℕ} → Wrote at text out next out' → length out' ≡ length out
wrote_long {at} {text = text} {out} W = ap length W.written ∙ length-sets out at text

module _ {most at next next' : ℕ} {text more out between out' : List ℕ} (first : Near most at text out next between) where
  pub near_wrote : (need : ℕ) → Wrote next more between next' out' → length more ≤ need → Near (most + need) at (text ++ more) out next' out'
  near_wrote need W short =
      record { wrote = wrote_both first.wrote W; short = rw (length-append text more) (omega (arith, first.short)) }

  pub near_more : {need : ℕ} → Put need next more between next' out' → at + (most + need) ≤ length out → length more ≤ need
      → Near (most + need) at (text ++ more) out next' out'
  near_more {need} P long short =
      let W = first.wrote in
      near_wrote need (P.fits (omega (arith, W.behind, first.short, wrote_long W))) short

-- each number behind a comma: at most 21 bytes
pub commas_length : (numbers : List ℕ) → length (behind_commas numbers) ≤ 21 * length numbers
unfolding behind_commas
commas_length [] = omega arith
commas_length (n ∷ numbers) =
    rw (length-append (decimal n) (behind_commas numbers)) (omega (arith, decimal_length n, commas_length numbers))

pub commas_done : (numbers : List ℕ) (i : ℕ) → length numbers ≤ i → behind_commas (drop i numbers) ≡ []
unfolding behind_commas
commas_done numbers i done = rw (drop_of_length-le numbers done) refl

commas_next : (numbers : List ℕ) (i : ℕ) → i < length numbers
    → behind_commas (drop i numbers) ≡ comma ∷ (decimal (get_or numbers i 0) ++ behind_commas (drop (i + 1) numbers))
unfolding behind_commas
commas_next numbers i more = rw (add-one i, drop-cons numbers i 0 more) refl

-- a turn of the loop: a comma, and the number behind it
module _ (at : ℕ) (numbers out : List ℕ) (end : ℕ) (out' : List ℕ) (i : ℕ) (L : Left at (behind_commas numbers) out end (behind_commas (drop i numbers)) out')
    (more : i < length numbers) (fits : end + 21 ≤ length out') (next : ℕ) (out'' : List ℕ)
    (P : Put 20 (end + 1) (decimal (get_or numbers i 0)) (set out' end comma) next out'') where
  number_wrote : Wrote (end + 1) (decimal (get_or numbers i 0)) (set out' end comma) next out''
  number_wrote = P.fits (rw (length-set out' end comma) (omega arith))

  pub commas_turn : Left at (behind_commas numbers) out next (behind_commas (drop (i + 1) numbers)) out''
  commas_turn =
      left_wrote at (behind_commas numbers) out (end + 1) (set out' end comma) (decimal (get_or numbers i 0)) (behind_commas (drop (i + 1) numbers)) _ next out''
      refl
      (left_byte at (behind_commas numbers) out end out' comma (decimal (get_or numbers i 0) ++ behind_commas (drop (i + 1) numbers)) _ (end + 1) (commas_next numbers i more) refl L)
      number_wrote

  pub commas_near : next ≤ end + 21
  commas_near = omega (arith, number_wrote.behind, decimal_length (get_or numbers i 0))

  pub commas_long : length out'' ≡ length out'
  commas_long = wrote_long number_wrote ∙ length-set out' end comma

-- the names that hold numbers
module _ (policy : Policy) where
  pub pg_name : (beta : Beta) → policy ≡ PG beta → (((112 ∷ 103 ∷ space ∷ []) ++ decimal beta.num) ++ (slash ∷ [])) ++ decimal beta.den ≡ name_of policy
  pg_name beta is = rw is (simp append_assoc)

  pub mf_name : (m : Marking) → policy ≡ MF m
      → (((((109 ∷ 102 ∷ space ∷ []) ++ decimal m.lo) ++ (space ∷ [])) ++ decimal m.hi) ++ (space ∷ [])) ++ decimal m.r ≡ name_of policy
  mf_name m is = rw is (simp append_assoc)

module _ (value plan : ℕ) where
  pub part_none : plan ≡ 0 → 45 ∷ [] ≡ part_of value plan
  unfolding part_of
  part_none none = rw (eq-eqb plan 0 none) refl

  pub part_some : (plan ≡ 0 → ⊥) → thousandths (value * 1000 / plan) ≡ part_of value plan
  unfolding part_of
  part_some some = rw (ne_eqb plan 0 some) refl

  pub part_length : length (part_of value plan) ≤ 24
  unfolding part_of
  part_length =
      cond_cases (λ (text : List ℕ). length text ≤ 24) (eqb plan 0) _ _ (λ t. omega arith)
      (λ t. rw (length-append (decimal (value * 1000 / plan / 1000)) _) (omega (arith, decimal_length (value * 1000 / plan / 1000))))

-- a name is at most 65 bytes long
pub name_length : (policy : Policy) → length (name_of policy) ≤ 65
name_length Greedy = omega arith
name_length (PG beta) =
    simp length-append (omega (arith, decimal_length beta.num, decimal_length beta.den))
name_length (MF m) =
    simp length-append (omega (arith, decimal_length m.lo, decimal_length m.hi, decimal_length m.r))
name_length Plan = omega arith

-- a line is at most 239 bytes long
pub line_length : (policy : Policy) (t : Totals) (plan : ℕ) → length (line_of policy t plan) ≤ 239
unfolding line_of
line_length policy t plan =
    omega (
      arith,
      lengths (name_of policy) (behind_commas (counts_of t)) (part_of t.sent.value plan),
      name_length policy,
      commas_length (counts_of t),
      part_length t.sent.value plan,
    )
  where
    lengths : (a b d : List ℕ) → length (a ++ b ++ (comma ∷ []) ++ d ++ (cr ∷ lf ∷ [])) ≡ length a + length b + length d + 3
    lengths a b d = simp length-append (omega arith)

pub line_is : (policy : Policy) (t : Totals) (plan : ℕ) (counts : List ℕ) → counts ≡ counts_of t
    → (((name_of policy ++ behind_commas counts) ++ (comma ∷ [])) ++ part_of t.sent.value plan) ++ (cr ∷ lf ∷ []) ≡ line_of policy t plan
unfolding line_of
line_is policy t plan counts is =
    regroup (name_of policy) (behind_commas counts) (comma ∷ []) (part_of t.sent.value plan) (cr ∷ lf ∷ [])
    ∙ ap (λ (l : List ℕ). name_of policy ++ behind_commas l ++ (comma ∷ []) ++ part_of t.sent.value plan ++ (cr ∷ lf ∷ [])) is
  where
    regroup : (a b c d e : List ℕ) → (((a ++ b) ++ c) ++ d) ++ e ≡ a ++ b ++ c ++ d ++ e
    regroup a b c d e = simp append_assoc
