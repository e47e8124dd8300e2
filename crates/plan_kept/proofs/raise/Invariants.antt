-- The counts from the place up to i are one more.
use Rattle.plan_kept.specs.Keep.{Raised}
use Rattle.plan_kept.proofs.raise.Given as goal

abbrev pub invariant-loop-i : goal.invariant-loop-i
invariant-loop-i l = Raised l.place l.i l.initial.held l.held
