-- Two rules that decide alike on every queue within the room make the same entries of every trace, if one of them keeps its queue within the room: the ends
-- of slots do not ask the rule, and make no queue longer.
use Prim.Native.Nat.{ℕ, zero, suc, ◌≤◌}
use native.Mathlib.Omega.{arith}
use mathlib.Core.Path.{◌≡◌, refl, ap}
use mathlib.Core.List.{List, [], ◌∷◌}
use lib.ListN.{length}
use Rattle.model.specs.declared.Packet.{Packet}
use Rattle.model.specs.declared.Slot.{Slot}
use Rattle.model.specs.Packets.{Arrival, slots_until, following}
use Rattle.model.specs.Record.{sent_at}
use Rattle.model.specs.Course.{Step, Decided, and_then, by_rule, slot_ends, course}

module _ (rule rule' : List Packet → Packet → Decided) where
  pub ends_same : (n : ℕ) (now : Slot) (queue : List Packet) → slot_ends (by_rule rule) n now queue ≡ slot_ends (by_rule rule') n now queue
  unfolding slot_ends
  ends_same zero now queue = refl
  ends_same (suc n) now [] = refl
  ends_same (suc n) now (p ∷ queue) =
      ap (λ (step : Step (List Packet)). and_then (sent_at now p ∷ []) step) (ends_same n (following now) queue)

-- sending makes no queue longer
pub ends_short : (rule : List Packet → Packet → Decided) (n : ℕ) (now : Slot) (queue : List Packet) → length (slot_ends (by_rule rule) n now queue).next ≤ length queue
unfolding slot_ends
ends_short rule zero now queue = omega arith
ends_short rule (suc n) now [] = omega arith
ends_short rule (suc n) now (p ∷ queue) = omega (arith, ends_short rule n (following now) queue)

module _ (room : ℕ) (rule rule' : List Packet → Packet → Decided)
    (same : (queue : List Packet) (p : Packet) → length queue ≤ room → rule queue p ≡ rule' queue p)
    (roomy : (queue : List Packet) (p : Packet) → length queue ≤ room → length (rule' queue p).queue ≤ room) where
  pub course_same : (now : Slot) (queue : List Packet) (trace : List Arrival) → length queue ≤ room
      → course (by_rule rule) now queue trace ≡ course (by_rule rule') now queue trace
  unfolding course
  course_same now queue [] h = ap (λ (step : Step (List Packet)). step.entries) (ends_same rule rule' (length queue) now queue)
  course_same now queue (a ∷ trace) h =
      let k = slots_until now a.slot in
      let left = (slot_ends (by_rule rule') k now queue).next in
      let short : length left ≤ room = omega (arith, ends_short rule' k now queue) in
      rw (
        ends_same rule rule' k now queue,
        same left a.packet short,
        course_same a.slot (rule' left a.packet).queue trace (roomy left a.packet short),
      )
