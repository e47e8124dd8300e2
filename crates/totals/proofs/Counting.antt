-- The loops that count: what is counted so far and what is left to count come to what there is in all.
use Prim.Native.Nat.{ℕ, suc, ◌+◌, ◌*◌, ◌^◌, ◌≤◌, ◌<◌, zero-le}
use mathlib.Core.Path.{◌≡◌, refl, sym, ap, ap₂, ◌∙◌}
use mathlib.Core.Bool.{Bool, true, false, cond, true≢false}
use mathlib.Core.List.{List, [], ◌∷◌}
use mathlib.Core.Logic.{◌⊎◌, inl, inr}
use native.Mathlib.Omega.{arith}
use lib.ListN.{length, get_or}
use lib.Dec.{eqb}
use Rattle.std.specs.List as List
use Rattle.std.proofs.lemmas.List.Recursion.{is_sum_by}
use Rattle.model.specs.declared.Tally.{Tally}
use Rattle.model.specs.Limits.{record_limits}
use Rattle.model.specs.Refusals.{value_ok}
use Rattle.model.specs.Port.{all}
use Rattle.laws.specs.WellFormed.{sum}
use Rattle.checks.proofs.Tests.{all_each, each_all, within_to}
use Rattle.totals.specs.Totals.{count_in, sum_in, ValuesFit}

-- what counts only under a test
pub only_le : (t : Bool) (n : ℕ) → cond t n 0 ≤ n
only_le true n = omega arith
only_le false n = zero-le

-- a value in range is at most the greatest
pub value_le : (values : List ℕ) → ValuesFit values → (k : ℕ) → k < length values → get_or values k 0 ≤ record_limits.value
value_le values fit k h = within_to 1 record_limits.value (get_or values k 0) (fit k h)

-- what the test of the whole list tells
module _ (values : List ℕ) {ok : Bool} (told : ok ≡ all value_ok values) where
  pub all_fit : ok ≡ true → ValuesFit values
  all_fit e = all_each value_ok values (sym told ∙ e)

  pub some_bad : ok ≡ false → ValuesFit values → ⊥
  some_bad e fit = true≢false (sym (each_all value_ok values fit) ∙ sym told ∙ e)

-- a sum of values in range, as the library writes it, is below 2^32
pub sum_by_each : (values : List ℕ) → sum values ≡ List.sum values
unfolding sum
sum_by_each values = is_sum_by sum (λ (v : ℕ). v) refl (λ _ _. refl) values

sum_le : (values : List ℕ) → ValuesFit values → sum values ≤ record_limits.value * length values
unfolding sum
sum_le [] fit = zero-le
sum_le (v ∷ values) fit =
    let here = value_le (v ∷ values) fit 0 (omega arith) in
    let rest = sum_le values (λ k h. fit (suc k) (omega arith)) in
    omega arith

pub sum_fits : (values : List ℕ) → length values ≤ record_limits.packets → ValuesFit values → List.sum values < 2 ^ 32
sum_fits values few fit = let bound = sum_le values fit in rw (← sum_by_each values) (omega arith)

-- no more have a fate than there are, and they are worth no more than so many
pub count_le : (f : ℕ) (fates : List ℕ) → count_in f fates ≤ length fates
unfolding count_in
count_le f [] = zero-le
count_le f (g ∷ fates) = omega (arith, count_le f fates, only_le (eqb g f) 1)

pub worth_le : (f : ℕ) (values fates : List ℕ) → ValuesFit values → sum_in f values fates ≤ record_limits.value * length fates
unfolding sum_in
worth_le f values [] fit = zero-le
worth_le f [] (g ∷ fates) fit = zero-le
worth_le f (v ∷ values) (g ∷ fates) fit =
    let here = value_le (v ∷ values) fit 0 (omega arith) in
    let rest = worth_le f values fates (λ k h. fit (suc k) (omega arith)) in
    omega (arith, only_le (eqb g f) v)

-- the packets with fate f are counted but for those that are left, with these values and fates
pub record Counted (f : ℕ) (values fates : List ℕ) (count value : ℕ) (worths left : List ℕ) : Type 0 where
  pub same : length worths ≡ length left
  pub counted : count + count_in f left ≡ count_in f fates
  pub summed : value + sum_in f worths left ≡ sum_in f values fates

pub counted_none : (f : ℕ) (values fates : List ℕ) → length values ≡ length fates → (worths left : List ℕ) → worths ≡ values → left ≡ fates
    → Counted f values fates 0 0 worths left
counted_none f values fates same worths left a b = rw (a, b) (record { same = same; counted = omega arith; summed = omega arith })

pub counted_more : (f : ℕ) (values fates : List ℕ) (count value : ℕ) (worths left : List ℕ) → Counted f values fates count value worths left
    → (v g : ℕ) (worths' left' : List ℕ) → worths ≡ v ∷ worths' → left ≡ g ∷ left'
    → (one worth : ℕ) → one ≡ cond (eqb g f) 1 0 → worth ≡ cond (eqb g f) v 0
    → Counted f values fates (count + one) (value + worth) worths' left'
unfolding count_in sum_in
counted_more f values fates count value worths left K v g worths' left' a b one worth is-one is-worth =
    let same = rw (a, b) at K.same in
    let counted = rw b at K.counted in
    let summed = rw (a, b) at K.summed in
    rw (is-one, is-worth) (record { same = omega arith; counted = omega arith; summed = omega arith })

pub counted_all : (f : ℕ) (values fates : List ℕ) (count value : ℕ) (worths left : List ℕ) → Counted f values fates count value worths left → (worths ≡ []) ⊎ (left ≡ [])
    → ◌≡◌ {A = Tally} (record { count = count; value = value }) (record { count = count_in f fates; value = sum_in f values fates })
unfolding count_in sum_in
counted_all f values fates count value worths left K done = go left K (none done)
  where
    empty : (xs : List ℕ) → length xs ≡ 0 → xs ≡ []
    empty [] e = refl
    empty (x ∷ xs) e = absurd (omega arith)

    none : (worths ≡ []) ⊎ (left ≡ []) → left ≡ []
    none (inl e) = empty left (sym K.same ∙ ap length e)
    none (inr e) = e

    go : (left : List ℕ) → Counted f values fates count value worths left → left ≡ [] → ◌≡◌ {A = Tally} (record { count = count; value = value }) (record { count = count_in f fates; value = sum_in f values fates })
    go left K e =
        let counted = rw e at K.counted in
        let summed = rw e at K.summed in
        let c : count ≡ count_in f fates = omega arith in
        let v : value ≡ sum_in f values fates = omega arith in
        ap₂ (λ (m n : ℕ). record { count = m; value = n }) c v
