-- `trace::all_fit` meets its contract: where all slots and all values fit no packet is refused.
use mathlib.Core.Path.{sym, ◌∙◌}
use Rattle.trace.proofs.Fitting.{plain_clear}
use Rattle.trace.proofs.all_fit.Goals as goal

pub returns-then-slots_fit : goal.returns-then-slots_fit
returns-then-slots_fit c = λ e. plain_clear c.args.slots.now c.args.values.now c.in-None.is c.requires.equal (c.slots_fit.ensures c.if-slots_fit.true) (sym c.values_ok.ensures ∙ e)
