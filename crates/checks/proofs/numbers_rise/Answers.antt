-- `checks::numbers_rise` meets its contract: nothing bad was found and what is left rises from the number before exactly where all rise from 0.
use Rattle.std.proofs.Common.{◌∙◌, arith}
use Rattle.checks.proofs.Tests.{rises_turn, rises_done}
use Rattle.checks.proofs.numbers_rise.Goals as goal

pub loop-number-preserved : goal.loop-number-preserved
loop-number-preserved c = rises_turn c.args.numbers.now c.loop-number.number-index c.loop-number.before c.args.last (omega arith) c.loop-number.bad ∙ c.loop-number.invariant

pub returns : goal.returns
returns c = rises_done c.args.numbers.now c.loop-number.number-index c.loop-number.before c.args.last (omega arith) c.loop-number.bad ∙ c.loop-number.invariant
