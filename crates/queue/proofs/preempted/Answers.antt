-- Where even the lowest value is not preempted, none is. Else `position` finds the first.
use Rattle.std.proofs.Common.{◌∙◌, sym}
use Rattle.queue.proofs.Choose.{lowest_stays}
use Rattle.queue.proofs.preempted.Goals as goal

pub returns-then-not-goes : goal.returns-then-not-goes
returns-then-not-goes c = lowest_stays c.args.beta c.args.arrival c.args.values.now c.args.low c.requires (sym c.preempts-goes.ensures ∙ c.if-not-goes.true)
