-- What the searches over the held values find, as their definitions have it.
use Rattle.std.proofs.Common.{◌≡◌, ℕ, zero, suc, ◌<◌, ◌≤◌, min, false, true, eqb, Option, None, Some, MatchOption, List, [], ◌∷◌, length, get_or, refl, sym, ap, ◌∙◌, arith}
use Rattle.std.specs.List.{fold}
use Prim.Native.Nat.{◌*◌}
use lib.ListN.{drop}
use lib.Seq.{drop-cons}
use borrow.Author.Tests.{le-leb}
use Rattle.model.specs.declared.Beta.{Beta}
use Rattle.model.specs.Policies.PG.{preempted_at}
use Rattle.queue.specs.Choose.{lowest_with, lowest_of, newest_of}

lowest_with_both : (a b : ℕ) (values : List ℕ) → lowest_with (min a b) values ≡ min b (lowest_with a values)
unfolding lowest_with
lowest_with_both a b [] = omega arith
lowest_with_both a b (v ∷ values) = omega (arith, lowest_with_both a b values)

pub lowest_by_fold : (low : ℕ) (values : List ℕ) → fold min low values ≡ lowest_with low values
unfolding lowest_with
lowest_by_fold low [] = refl
lowest_by_fold low (v ∷ values) = lowest_by_fold (min low v) values ∙ lowest_with_both low v values

pub lowest_none : (values : List ℕ) → length values ≤ 0 → None ≡ lowest_of values
unfolding lowest_of
lowest_none [] h = refl
lowest_none (v ∷ values) h = absurd (omega arith)

-- the first value may be read twice
pub lowest_some : (values : List ℕ) → 0 < length values → Some (fold min (get_or values 0 0) values) ≡ lowest_of values
unfolding lowest_of
lowest_some [] h = absurd (omega arith)
lowest_some (v ∷ values) h =
    let same : min v v ≡ v = omega arith in
    ap (λ (low : ℕ). Some low) (ap (λ (low : ℕ). fold min low values) same ∙ lowest_by_fold v values)

-- no place from k on has the value
abbrev pub NoneFrom : ℕ → List ℕ → ℕ → Type 0
NoneFrom value values low = (k : ℕ) → low ≤ k → k < length values → eqb (get_or values k 0) value ≡ false

-- the place has the value, and no later one has
abbrev pub IsNewest : ℕ → List ℕ → ℕ → Type 0
IsNewest value values place = (place < length values) × (eqb (get_or values place 0) value ≡ true) × NoneFrom value values (suc place)

none_behind : (value v : ℕ) (values : List ℕ) (low : ℕ) → NoneFrom value (v ∷ values) (suc low) → NoneFrom value values low
none_behind value v values low none k from inside = none (suc k) (omega arith) (omega arith)

newest_none : (value : ℕ) (values : List ℕ) → NoneFrom value values 0 → newest_of value values ≡ None
unfolding newest_of
newest_none value [] none = refl
newest_none value (v ∷ values) none =
    rw (newest_none value values (λ k from inside. none (suc k) (omega arith) (omega arith)), none 0 (omega arith) (omega arith)) refl

newest_some : (value : ℕ) (values : List ℕ) (place : ℕ) → IsNewest value values place → newest_of value values ≡ Some place
unfolding newest_of
newest_some value [] place h = absurd (omega arith)
newest_some value (v ∷ values) zero h = rw (newest_none value values (none_behind value v values 0 h.2), h.1) refl
newest_some value (v ∷ values) (suc place) h =
    rw (newest_some value values place (omega arith, h.1, none_behind value v values (suc place) h.2)) refl

pub newest_found : (value : ℕ) (values : List ℕ) (r : Option ℕ) → MatchOption r (NoneFrom value values 0) (IsNewest value values) → r ≡ newest_of value values
newest_found value values None h = sym (newest_none value values h)
newest_found value values (Some place) h = sym (newest_some value values place h)

-- of the values from a place on, the beta step finds the first where the one at that place is preempted
pub preempted_here : (values : List ℕ) (i : ℕ) → i < length values → (beta : Beta) (arrival : ℕ) → get_or values i 0 * beta.num ≤ arrival * beta.den
    → preempted_at beta arrival (drop i values) ≡ 0
unfolding preempted_at
preempted_here values i inside beta arrival h = rw (drop-cons values i 0 inside, le-leb _ _ h) refl
