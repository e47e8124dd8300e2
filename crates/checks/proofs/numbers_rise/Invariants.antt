-- `checks::numbers_rise` meets its contract: nothing bad was found and what is left rises from the number before exactly where all rise from 0.
use Rattle.std.proofs.Common.{◌≡◌, not, ◌&&◌, drop}
use Rattle.model.specs.Port.{rises_from}
use Rattle.checks.proofs.numbers_rise.Given as goal

abbrev pub invariant-loop-number : goal.invariant-loop-number
invariant-loop-number l = (not l.bad && rises_from l.before l.last (drop l.number-index l.numbers)) ≡ rises_from 0 l.last l.numbers
