-- A promise for all input: what holds where a test passes, and what holds where it does not. A window that does not lie within its lists is handed back, and
-- nothing is written.
use Rattle.std.specs.Prelude.{ℕ, ◌≡◌, Bool, true, false, ◌&&◌, List, length, eqb, leb}
use Rattle.steps.specs.declared.Window.{Window}

pub record Guarded (test : Bool) (Passed Failed : Type 0) : Type 0 where
  pub passed : test ≡ true → Passed
  pub failed : test ≡ false → Failed

-- a window lies within its two lists, which are equally long
unfoldable pub lies_within : Window → List ℕ → List ℕ → Bool
lies_within w numbers values = leb w.head w.tail && (leb w.tail (length values) && eqb (length numbers) (length values))
