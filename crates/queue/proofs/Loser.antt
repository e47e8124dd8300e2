-- The loser by its definition is the arrival where the arrival is no dearer than the lowest held value, and else the newest packet with that value.
use Prim.Native.Nat.{ℕ, suc, min, ◌≤◌, ◌<◌}
use mathlib.Core.Path.{◌≡◌, refl, ap}
use mathlib.Core.Bool.{Bool, true, false, and-false}
use mathlib.Core.List.{List, [], ◌∷◌, ◌++◌}
use native.Mathlib.Omega.{arith}
use lib.ListN.{length}
use lib.Dec.{ltb, eqb}
use borrow.Author.Tests.{lt-ltb, le-ltb, eqb-true, eqb-false}
use Rattle.std.proofs.Common.{Option, None, Some, IsSome}
use Rattle.model.specs.Policies.Greedy.{below_all, loser_at}
use Rattle.queue.specs.Choose.{lowest_with, lowest_of, newest_of}

-- the newest place with a value, of a list with one more value in front: newer ones, this one, or none
newest_cases : (G : Type 0) (value v : ℕ) (values : List ℕ)
    → ((n : ℕ) → newest_of value values ≡ Some n → newest_of value (v ∷ values) ≡ Some (suc n) → G)
    → (newest_of value values ≡ None → v ≡ value → newest_of value (v ∷ values) ≡ Some 0 → G)
    → (newest_of value values ≡ None → (v ≡ value → ⊥) → newest_of value (v ∷ values) ≡ None → G)
    → G
unfolding newest_of
newest_cases G value v values newer here none = go (newest_of value values) refl (eqb v value) refl
  where
    go : (o : Option ℕ) → newest_of value values ≡ o → (u : Bool) → eqb v value ≡ u → G
    go (Some n) e u f = newer n e (rw e refl)
    go None e true f = here e (eqb-true _ _ f) (rw (e, f) refl)
    go None e false f = none e (eqb-false _ _ f) (rw (e, f) refl)

pub newest_inside : (value : ℕ) (values : List ℕ) (place : ℕ) → newest_of value values ≡ Some place → place < length values
unfolding newest_of
newest_inside value [] place found = absurd (cc)
newest_inside value (v ∷ values) place found =
    newest_cases _ value v values
    (λ n k e. let h = newest_inside value values n k in let same : suc n ≡ place = cc in omega arith)
    (λ k w e. let same : 0 ≡ place = cc in omega arith)
    (λ k w e. absurd (cc))

-- a value at or above the last of a list is not below all of it
not_below_last : (v arrival : ℕ) (values : List ℕ) → arrival ≤ v → below_all v (values ++ arrival ∷ []) ≡ false
unfolding below_all
not_below_last v arrival [] h = rw (le-ltb v arrival h) refl
not_below_last v arrival (w ∷ values) h = rw (not_below_last v arrival values h) (and-false (ltb v w))

-- an arrival that is at most each of the values
pub arrival_loses : (values : List ℕ) (arrival : ℕ) → arrival ≤ lowest_with arrival values → loser_at (values ++ arrival ∷ []) ≡ length values
unfolding loser_at lowest_with below_all
arrival_loses [] arrival h = refl
arrival_loses (v ∷ values) arrival h =
    rw (not_below_last v arrival values (omega arith)) (ap suc (arrival_loses values arrival (omega arith)))

-- nothing in the list has the value, and nothing is below it: it is below all of the list, and of an arrival that is dearer
below_all_lem : (value arrival : ℕ) (values : List ℕ) → value ≤ lowest_with value values → newest_of value values ≡ None → value < arrival
    → below_all value (values ++ arrival ∷ []) ≡ true
unfolding below_all lowest_with
below_all_lem value arrival [] low none h = rw (lt-ltb value arrival h) refl
below_all_lem value arrival (v ∷ values) low none h =
    newest_cases _ value v values
    (λ n k e. absurd (cc))
    (λ k w e. absurd (cc))
    (λ k w e. rw (lt-ltb value v (omega arith)) (below_all_lem value arrival values (omega arith) k h))

-- something in the list is no dearer than v: v is not below all of it
not_below_held : (v value : ℕ) (values tail : List ℕ) (place : ℕ) → value ≤ v → newest_of value values ≡ Some place → below_all v (values ++ tail) ≡ false
unfolding below_all newest_of
not_below_held v value [] tail place h found = absurd (cc)
not_below_held v value (w ∷ values) tail place h found =
    newest_cases _ value w values
    (λ n k e. rw (not_below_held v value values tail n h k) (and-false (ltb v w)))
    (λ k f e. rw (le-ltb v w (omega arith)) refl)
    (λ k f e. absurd (cc))

newest_loses : (value arrival : ℕ) (values : List ℕ) (place : ℕ) → value ≤ lowest_with value values → value < arrival
    → newest_of value values ≡ Some place → loser_at (values ++ arrival ∷ []) ≡ place
unfolding loser_at lowest_with newest_of
newest_loses value arrival [] place low h found = absurd (cc)
newest_loses value arrival (v ∷ values) place low h found =
    newest_cases _ value v values
    (λ n k e.
    let same : suc n ≡ place = cc in
    rw (not_below_held v value values (arrival ∷ []) n (omega arith) k) (rw (← same) (ap suc (newest_loses value arrival values n (omega arith) h k))))
    (λ k f e. let same : 0 ≡ place = cc in rw (f, below_all_lem value arrival values (omega arith) k h) same)
    (λ k f e. absurd (cc))

-- the lowest is not above a number that it is the lowest with
pub lowest_at_most : (low : ℕ) (values : List ℕ) → lowest_with low values ≤ low
unfolding lowest_with
lowest_at_most low [] = omega arith
lowest_at_most low (v ∷ values) = omega (arith, lowest_at_most low values)

-- what is at most the lowest is at most each
lower : (a low : ℕ) (values : List ℕ) → a ≤ lowest_with low values → a ≤ lowest_with a values
unfolding lowest_with
lower a low [] h = omega arith
lower a low (v ∷ values) h = let rest = lower a low values (omega arith) in omega arith

-- the lowest value is there
lowest_there : (low : ℕ) (values : List ℕ) → lowest_with low values < low → newest_of (lowest_with low values) values ≡ None → ⊥
unfolding lowest_with
lowest_there low [] h none = absurd (omega arith)
lowest_there low (v ∷ values) h none =
    newest_cases _ (min v (lowest_with low values)) v values
    (λ n k e. absurd (cc))
    (λ k f e. absurd (cc))
    (λ k f e.
    let m : min v (lowest_with low values) ≡ lowest_with low values = omega arith in
    lowest_there low values (omega arith) (rw m at k))

module _ (values : List ℕ) (low : ℕ) (is : lowest_of values ≡ Some low) where
  -- what is at most the lowest held value is at most each
  pub held_lower : (a : ℕ) → a ≤ low → a ≤ lowest_with a values
  unfolding lowest_of lowest_with
  held_lower a h = go values is
    where
      go : (values : List ℕ) → lowest_of values ≡ Some low → a ≤ lowest_with a values
      go [] e = absurd (cc)
      go (v ∷ values) e =
          let same : lowest_with v values ≡ low = cc in
          let rest = lower a v values (omega arith) in
          omega (arith, lowest_at_most v values)

  -- it is held, so it has a newest place
  pub held_there : IsSome (newest_of low values)
  unfolding lowest_of
  held_there = some (newest_of low values) (go values is)
    where
      some : (o : Option ℕ) → (o ≡ None → ⊥) → IsSome o
      some None h = absurd (h refl)
      some (Some place) h = refl

      go : (values : List ℕ) → lowest_of values ≡ Some low → newest_of low values ≡ None → ⊥
      go [] e none = cc
      go (v ∷ values) e none =
          let same : lowest_with v values ≡ low = cc in
          newest_cases _ low v values
          (λ n k e. absurd (cc))
          (λ k f e. absurd (cc))
          (λ k f e. lowest_there v values (omega (arith, lowest_at_most v values)) (rw (← same) at k))

  -- of values that are lower than the arrival, the newest of the lowest is held, and it is the loser
  pub held_loses : (arrival : ℕ) → low < arrival
      → IsSome (newest_of low values) × ((place : ℕ) → newest_of low values ≡ Some place → (place < length values) × (loser_at (values ++ arrival ∷ []) ≡ place))
  held_loses arrival h =
      (held_there, λ place found. (newest_inside low values place found, newest_loses low arrival values place (held_lower low (omega arith)) h found))
