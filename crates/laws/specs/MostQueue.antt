-- A policy's course from arrival to arrival, and its longest queue.
use Rattle.std.specs.Prelude.{ℕ, max, List, [], ◌∷◌, length}
use Rattle.model.specs.declared.Slot.{Slot}
use Rattle.model.specs.Packets.{Arrival, slots_until}
use Rattle.model.specs.Course.{Step, Policy, and_then, slot_ends}

-- the ends of slots before an arrival, and the arrival
abbrev pub turn : {S : Type 0} → Policy S → Slot → S → Arrival → Step S
turn P now s a =
    let before = slot_ends P (slots_until now a.slot) now s in
    and_then before.entries (P.arrive a before.next)

-- the greatest length of the queue just after an arrival
unfoldable pub most_queue : {S : Type 0} → Policy S → Slot → S → List Arrival → ℕ
most_queue P now s [] = 0
most_queue P now s (a ∷ trace) =
    let step = turn P now s a in
    max (length (P.held step.next)) (most_queue P a.slot step.next trace)
