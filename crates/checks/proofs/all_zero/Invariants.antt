-- `checks::all_zero` meets its contract: nothing bad was found and what is left passes exactly where the whole list does.
use Rattle.std.proofs.Common.{◌≡◌, not, ◌&&◌, drop, eqb}
use Rattle.model.specs.Port.{all}
use Rattle.checks.proofs.all_zero.Given as goal

abbrev pub invariant-loop-place : goal.invariant-loop-place
invariant-loop-place l = (not l.bad && all (eqb 0) (drop l.place-index l.places)) ≡ all (eqb 0) l.places
