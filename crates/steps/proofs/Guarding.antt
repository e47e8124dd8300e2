-- What the test of a window tells, and how a promise for all input is given and used.
use Prim.Native.Nat.{ℕ}
use mathlib.Core.Path.{◌≡◌, sym, ◌∙◌}
use mathlib.Core.Bool.{Bool, true, false, ◌&&◌, true≢false}
use mathlib.Core.List.{List}
use lib.ListN.{length}
use lib.Dec.{eqb, leb}
use borrow.Author.Tests.{leb-true, eqb-true, le-leb, eq-eqb}
use Rattle.checks.proofs.Tests.{left_part, right_part}
use Rattle.steps.specs.declared.Window.{Window}
use Rattle.steps.specs.Window.{Within}
use Rattle.steps.specs.Guarded.{Guarded, lies_within}

module _ {test : Bool} {P F : Type 0} where
  pub by_pass : test ≡ true → P → Guarded test P F
  by_pass e p = record { passed = λ t. p; failed = λ t. absurd (true≢false (sym e ∙ t)) }

  pub by_fail : test ≡ false → F → Guarded test P F
  by_fail e f = record { passed = λ t. absurd (true≢false (sym t ∙ e)); failed = λ t. f }

module _ (w : Window) (numbers values : List ℕ) where
  pub within_lies : Within w numbers values → lies_within w numbers values ≡ true
  unfolding lies_within
  within_lies W = simp (le-leb _ _ W.ordered, le-leb _ _ W.inside, eq-eqb _ _ W.same)

  pub lies_within_lem : lies_within w numbers values ≡ true → Within w numbers values
  unfolding lies_within
  lies_within_lem e =
      let rest = right_part (leb w.head w.tail) (leb w.tail (length values) && eqb (length numbers) (length values)) e in
      record {
        ordered = leb-true _ _ (left_part (leb w.head w.tail) (leb w.tail (length values) && eqb (length numbers) (length values)) e);
        inside = leb-true _ _ (left_part (leb w.tail (length values)) (eqb (length numbers) (length values)) rest);
        same = eqb-true _ _ (right_part (leb w.tail (length values)) (eqb (length numbers) (length values)) rest);
      }
