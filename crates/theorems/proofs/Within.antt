-- A number is one of low, .., high, or it is below, or above: what is so many in the first case and 0 in the others.
use Prim.Native.Nat.{ℕ, ◌≤◌, ◌<◌}
use mathlib.Core.Path.{◌≡◌, refl}
use mathlib.Core.Bool.{Bool, true, false, cond, ◌&&◌}
use lib.Dec.{leb}
use borrow.Author.Tests.{leb-true, leb-false}
use Rattle.model.specs.Limits.{within}

pub counts_within : (low high n times many : ℕ) → (n < low → times ≡ 0) → (low ≤ n → n ≤ high → times ≡ many) → (high < n → times ≡ 0) →
    times ≡ cond (within low high n) many 0
unfolding within
counts_within low high n times many below among above = go (leb low n) refl (leb n high) refl
  where
    go : (s : Bool) → leb low n ≡ s → (t : Bool) → leb n high ≡ t → times ≡ cond (s && t) many 0
    go false a t b = below (leb-false low n a)
    go true a false b = above (leb-false n high b)
    go true a true b = among (leb-true low n a) (leb-true n high b)
