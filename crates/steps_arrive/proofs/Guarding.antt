-- The test for a free place reads only the lengths of the lists; and what it tells.
use Prim.Native.Nat.{ℕ, ◌-◌, ◌<◌}
use mathlib.Core.Path.{◌≡◌, sym, ◌∙◌}
use mathlib.Core.Bool.{Bool, true, false, not}
use mathlib.Core.List.{List}
use lib.ListN.{length}
use lib.Dec.{ltb}
use borrow.Author.Tests.{ltb-true, lt-ltb, not-true, not-false}
use Rattle.checks.proofs.Tests.{left_part, right_part}
use Rattle.steps.specs.declared.Window.{Window}
use Rattle.steps.specs.Window.{Within}
use Rattle.steps.specs.Guarded.{lies_within}
use Rattle.steps.proofs.Guarding.{within_lies, lies_within_lem}
use Rattle.steps_arrive.specs.Arrive.{has_place, place_in}

module _ (w : Window) (numbers values : List ℕ) where
  -- what the test of the lengths answers
  pub has_place_lem : (r : Bool) → r ≡ place_in w (length numbers) (length values) → not r ≡ false → has_place w numbers values ≡ true
  unfolding has_place lies_within
  has_place_lem r e t = sym e ∙ not-false r t

  pub no_place : (r : Bool) → r ≡ place_in w (length numbers) (length values) → not r ≡ true → has_place w numbers values ≡ false
  unfolding has_place lies_within
  no_place r e t = sym e ∙ not-true r t

  pub free_place : Within w numbers values → w.tail - w.head < length values → has_place w numbers values ≡ true
  unfolding has_place
  free_place W free = simp (within_lies w numbers values W, lt-ltb _ _ free)

  pub place_within : has_place w numbers values ≡ true → Within w numbers values
  unfolding has_place
  place_within e = lies_within_lem w numbers values (left_part (lies_within w numbers values) (ltb (w.tail - w.head) (length values)) e)

  pub place_free : has_place w numbers values ≡ true → w.tail - w.head < length values
  unfolding has_place
  place_free e = ltb-true _ _ (right_part (lies_within w numbers values) (ltb (w.tail - w.head) (length values)) e)
