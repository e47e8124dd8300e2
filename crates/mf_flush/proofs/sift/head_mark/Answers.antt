-- A window that is not empty begins with its head.
use mathlib.Core.Path.{sym, ap, ◌∙◌}
use Rattle.model.specs.Policies.MF.{head_mark}
use Rattle.steps.proofs.Windows.{window_cons, window_none}
use Rattle.mf_flush.proofs.sift.head_mark.Goals as goal

pub returns-then-head-w : goal.returns-then-head-w
returns-then-head-w c = let a = c.args in
    c.mark_of.ensures ∙ sym (ap (head_mark a.marks.now) (window_cons a.w.head a.w.tail a.numbers.now a.values.now c.requires c.if-head-w.true))

pub returns-else-head-w : goal.returns-else-head-w
returns-else-head-w c = let a = c.args in
    sym (ap (head_mark a.marks.now) (window_none a.w.head a.w.tail a.numbers.now a.values.now c.requires c.if-head-w.false))
