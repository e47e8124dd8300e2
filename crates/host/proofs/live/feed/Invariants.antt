-- `host::live::feed` meets its contract. The loop's invariant: what is heard of the events that are left, from the port and the sum so far, is what is heard of
-- all of them.
use Prim.Native.Nat.{◌≤◌, ◌<◌, ◌-◌, ◌^◌}
use mathlib.Core.Path.{◌≡◌}
use lib.ListN.{length, drop}
use Rattle.port.specs.State.{state_of}
use Rattle.host.specs.Live.{heard}
use Rattle.host.proofs.live.feed.Given as goal

abbrev pub invariant-loop-event : goal.invariant-loop-event
invariant-loop-event l = (l.sum < 2 ^ 32) × (heard (state_of l.left) l.sum (drop l.event-index l.events) ≡ heard (state_of l.initial.left) 0 l.events)
