-- `checks::values_ok` meets its contract: nothing bad was found and what is left passes exactly where the whole list does.
use Rattle.std.proofs.Common.{◌∙◌, arith}
use Rattle.model.specs.Refusals.{value_ok}
use Rattle.checks.proofs.Tests.{all_turn, all_done}
use Rattle.checks.proofs.values_ok.Goals as goal

pub loop-value-preserved : goal.loop-value-preserved
loop-value-preserved c = all_turn c.args.values.now c.loop-value.value-index value_ok (omega arith) c.loop-value.bad c.value_ok.result c.value_ok.ensures ∙ c.loop-value.invariant

pub returns : goal.returns
returns c = all_done c.args.values.now c.loop-value.value-index value_ok (omega arith) c.loop-value.bad ∙ c.loop-value.invariant
