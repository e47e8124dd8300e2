-- While the loop goes on, one packet more is still there, and there was room for it at each arrival before.
use Rattle.plan_kept.proofs.Keeping.{Reaching}
use Rattle.plan_kept.proofs.reach.Given as goal

abbrev pub invariant-loop-i : goal.invariant-loop-i
invariant-loop-i l = Reaching l.slots l.room l.held l.place l.i
