-- `audit::up_to` meets its contract. The loop's invariant: low and high bracket the end of the front. The slots never go down, so the one in between settles
-- all on one side of it, wherever it stands; the measure is what lies between the two.
use Prim.Native.Nat.{◌-◌}
use Rattle.audit.proofs.UpTo.{Bracket}
use Rattle.audit.proofs.up_to.Given as goal

abbrev pub invariant-loop-low : goal.invariant-loop-low
invariant-loop-low l = Bracket l.slots l.when.0 l.low l.high

abbrev pub decreases-loop-low : goal.decreases-loop-low
decreases-loop-low l = l.high - l.low
