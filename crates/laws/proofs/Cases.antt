-- To go by a test: what is shown where the test holds and where it fails is shown.
use Prim.Native.Nat.{ℕ, ◌≤◌, ◌<◌}
use mathlib.Core.Path.{◌≡◌, refl}
use mathlib.Core.Bool.{Bool, true, false, cond}
use lib.Dec.{eqb, ltb}
use borrow.Author.Tests.{eqb-true, eqb-false, ltb-true, ltb-false}

-- two numbers are equal or not, with what the test says
pub eqb_cases : (m n : ℕ) (G : Type 0) → (eqb m n ≡ true → m ≡ n → G) → (eqb m n ≡ false → (m ≡ n → ⊥) → G) → G
eqb_cases m n G same other = go (eqb m n) refl
  where
    go : (t : Bool) → eqb m n ≡ t → G
    go true e = same e (eqb-true m n e)
    go false e = other e (eqb-false m n e)

-- one number is below another or not
pub below : (m n : ℕ) (G : Type 0) → (m < n → G) → (n ≤ m → G) → G
below m n G less not = go (ltb m n) refl
  where
    go : (t : Bool) → ltb m n ≡ t → G
    go true e = less (ltb-true m n e)
    go false e = not (ltb-false m n e)

module _ {A : Type 0} (Q : A → Type 0) where
  -- one of two things by a test, with what the test says
  pub cond_cases : (t : Bool) (x y : A) → (t ≡ true → Q x) → (t ≡ false → Q y) → Q (cond t x y)
  cond_cases true x y hx hy = hx refl
  cond_cases false x y hx hy = hy refl

  pub below_cases : (m n : ℕ) (x y : A) → (m < n → Q x) → (n ≤ m → Q y) → Q (cond (ltb m n) x y)
  below_cases m n x y hx hy = cond_cases (ltb m n) x y (λ e. hx (ltb-true m n e)) (λ e. hy (ltb-false m n e))
