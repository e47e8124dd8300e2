-- The totals are written where the number gives some.
use mathlib.Core.Path.{refl, sym, ◌∙◌}
use borrow.Author.Tests.{not-true, not-false}
use Rattle.host.proofs.Saying.{saying, saying_none}
use Rattle.host.proofs.said.say.Goals as goal

pub returns-then-not-gives_totals : goal.returns-then-not-gives_totals
returns-then-not-gives_totals c = saying_none c.args.reply c.code-said.ensures (sym c.gives_totals.ensures ∙ not-true _ c.if-not-gives_totals.true-raw) refl

pub returns : goal.returns
returns c = saying c.args.reply c.code-said.ensures (sym c.gives_totals.ensures ∙ not-false _ c.if-not-gives_totals.false-raw) c.tell.ensures
