-- `trace::packets` meets its contract. The loop's invariant: what the walk answers from the packet at place i on is what it answers of the whole trace.
use mathlib.Core.Path.{◌≡◌}
use Prim.Native.Nat.{◌≤◌}
use lib.ListN.{length}
use Rattle.trace.proofs.Laws.{rest_from}
use Rattle.trace.specs.Checked.{ok_of}
use Rattle.model.specs.Refusals.{packet_refusal}
use Rattle.trace.proofs.packets.Given as goal

abbrev pub invariant-loop-i : goal.invariant-loop-i
invariant-loop-i l = (l.i ≤ length l.slots) × (rest_from (ok_of l.marking) l.slots l.values l.before l.i ≡ packet_refusal (ok_of l.marking) l.slots l.values)
