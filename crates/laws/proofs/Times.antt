-- Two lists one after the other have a number as often as both together; a list with one place taken out has that one number once less.
use Prim.Native.Nat.{ℕ, zero, suc, ◌+◌, ◌<◌}
use native.Mathlib.Omega.{arith}
use mathlib.Core.Path.{◌≡◌, refl}
use mathlib.Core.List.{List, [], ◌∷◌, ◌++◌}
use lib.ListN.{length, get_or, take, drop}
use Rattle.laws.specs.Times.{times}

module _ {A : Type 0} (number : A → ℕ) where
  pub times_append : (n : ℕ) (xs ys : List A) → times number n (xs ++ ys) ≡ times number n xs + times number n ys
  unfolding times
  times_append n [] ys = omega arith
  times_append n (x ∷ xs) ys = omega (arith, times_append n xs ys)

  -- a list of nothing has no number
  pub times_none : (n : ℕ) (xs : List A) → length xs ≡ 0 → times number n xs ≡ 0
  unfolding times
  times_none n [] h = refl
  times_none n (x ∷ xs) h = absurd (omega arith)

  -- a place taken out
  pub times_without : (n place : ℕ) (nobody : A) (xs : List A) → place < length xs →
      times number n (get_or xs place nobody ∷ []) + times number n (take place xs ++ drop (suc place) xs) ≡ times number n xs
  unfolding times
  times_without n place nobody [] h = absurd (omega arith)
  times_without n zero nobody (x ∷ xs) h = omega arith
  times_without n (suc place) nobody (x ∷ xs) h = omega (arith, times_without n place nobody xs (omega arith))
