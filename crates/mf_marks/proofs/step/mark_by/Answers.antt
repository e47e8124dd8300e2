-- The test decides which of two lists of marks it is.
use mathlib.Core.Path.{sym, ◌∙◌}
use Rattle.mf_marks.proofs.Marking.{by_first, by_second}
use Rattle.mf_marks.proofs.step.mark_by.Goals as goal

pub returns-then-gives_marks : goal.returns-then-gives_marks
returns-then-gives_marks c = by_first _ _ _ _ (sym c.gives_marks.ensures ∙ c.if-gives_marks.true) c.mark_down.ensures

pub returns-else-gives_marks : goal.returns-else-gives_marks
returns-else-gives_marks c = by_second _ _ _ (sym c.gives_marks.ensures ∙ c.if-gives_marks.false)
