-- Two rules that decide alike on every queue within the room hold the same queues.
use Prim.Native.Nat.{ℕ, ◌≤◌}
use native.Mathlib.Omega.{arith}
use mathlib.Core.Path.{◌≡◌, refl}
use mathlib.Core.List.{List, [], ◌∷◌}
use lib.ListN.{length}
use Rattle.model.specs.declared.Packet.{Packet}
use Rattle.model.specs.declared.Slot.{Slot}
use Rattle.model.specs.Packets.{Arrival, slots_until}
use Rattle.model.specs.Record.{Row}
use Rattle.model.specs.Course.{Decided, by_rule, slot_ends}
use Rattle.laws.specs.MostQueue.{turn, most_queue}
use Rattle.laws.proofs.Held.{HeldAgrees}
use Rattle.laws.proofs.Agree.{ends_same, ends_short}

module _ (room : ℕ) (rule rule' : List Packet → Packet → Decided)
    (same : (queue : List Packet) (p : Packet) → length queue ≤ room → rule queue p ≡ rule' queue p)
    (roomy : (queue : List Packet) (p : Packet) → length queue ≤ room → length (rule' queue p).queue ≤ room) where
  module _ (now : Slot) (queue : List Packet) (a : Arrival) (h : length queue ≤ room) where
    left_short : length (slot_ends (by_rule rule') (slots_until now a.slot) now queue).next ≤ room
    left_short = omega (arith, ends_short rule' (slots_until now a.slot) now queue)

    turn_same : (turn (by_rule rule) now queue a).next ≡ (turn (by_rule rule') now queue a).next
    turn_same =
        rw (
          ends_same rule rule' (slots_until now a.slot) now queue,
          same (slot_ends (by_rule rule') (slots_until now a.slot) now queue).next a.packet left_short,
        )

    turn_short : length (turn (by_rule rule') now queue a).next ≤ room
    turn_short = roomy _ a.packet left_short

  pub most_same : (now : Slot) (queue : List Packet) (trace : List Arrival) → length queue ≤ room
      → most_queue (by_rule rule) now queue trace ≡ most_queue (by_rule rule') now queue trace
  unfolding most_queue
  most_same now queue [] h = refl
  most_same now queue (a ∷ trace) h =
      rw (turn_same now queue a h, most_same a.slot (turn (by_rule rule') now queue a).next trace (turn_short now queue a h))

  pub held_same : (now : Slot) (queue : List Packet) (older rows : List Row) (trace : List Arrival) → length queue ≤ room
      → HeldAgrees (by_rule rule') now queue older rows trace → HeldAgrees (by_rule rule) now queue older rows trace
  held_same now queue older [] [] h agrees = agrees
  held_same now queue older [] (a ∷ trace) h agrees = agrees
  held_same now queue older (r ∷ rows) [] h agrees = agrees
  held_same now queue older (r ∷ rows) (a ∷ trace) h agrees =
      rw (turn_same now queue a h)
      (agrees.0, held_same a.slot (turn (by_rule rule') now queue a).next (r ∷ older) rows trace (turn_short now queue a h) agrees.1)
