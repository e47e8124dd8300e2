-- The test of the window decides which promise is kept.
use mathlib.Core.Path.{refl, sym, ◌∙◌}
use borrow.Author.Tests.{not-true, not-false}
use Rattle.steps.proofs.Guarding.{by_pass, by_fail, lies_within_lem}
use Rattle.mf_marks.proofs.mark.Goals as goal

pub returns-then-not-lies_within : goal.returns-then-not-lies_within
returns-then-not-lies_within c = by_fail (sym c.lies_within.ensures ∙ not-true _ c.if-not-lies_within.true-raw) refl

pub mark-requires : goal.mark-requires
mark-requires c = let a = c.args in
    lies_within_lem a.w a.numbers.now a.values.now (sym c.lies_within.ensures ∙ not-false _ c.if-not-lies_within.false-raw)

pub returns : goal.returns
returns c = by_pass (sym c.lies_within.ensures ∙ not-false _ c.if-not-lies_within.false-raw) c.mark.ensures
