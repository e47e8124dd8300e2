-- `checks::values_ok` meets its contract: nothing bad was found and what is left passes exactly where the whole list does.
use Rattle.std.proofs.Common.{◌≡◌, not, ◌&&◌, drop}
use Rattle.model.specs.Refusals.{value_ok}
use Rattle.model.specs.Port.{all}
use Rattle.checks.proofs.values_ok.Given as goal

abbrev pub invariant-loop-value : goal.invariant-loop-value
invariant-loop-value l = (not l.bad && all value_ok (drop l.value-index l.values)) ≡ all value_ok l.values
