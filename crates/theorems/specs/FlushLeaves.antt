-- 01, 'MF': the flush, then the head is sent. At every end of a slot that a run on an accepted trace comes to with something held, the flush leaves
-- something to send. The proof is in proofs/FlushLeaves.antt.
use Rattle.std.specs.Prelude.{ℕ, zero, suc, ◌<◌, ◌≡◌, List, [], ◌∷◌, length}
use Rattle.model.specs.declared.Slot.{Slot}
use Rattle.model.specs.Packets.{Arrival, arrivals, slots_until, following}
use Rattle.model.specs.Record.{Lists}
use Rattle.model.specs.Refusals.{mf_refusal}
use Rattle.model.specs.Course.{Policy, slot_ends, first}
use Rattle.model.specs.declared.Marking.{Marking}
use Rattle.model.specs.Policies.MF.{Marked, marks_after, unflushed, head_mark, mf_policy, unmarked}

-- what holds at each of the ends of n slots at which something is held
abbrev pub AtEnds : {S : Type 0} → (Slot → S → Type 0) → Policy S → ℕ → Slot → S → Type 0
AtEnds Q P zero now s = Unit {0}
AtEnds Q P (suc n) now s = 0 < length (P.held s) → Q now s × AtEnds Q P n (following now) (P.finish now s).next

-- what holds at every end of a slot in a trace's course at which something is held
abbrev pub AtEveryEnd : {S : Type 0} → (Slot → S → Type 0) → Policy S → Slot → S → List Arrival → Type 0
AtEveryEnd Q P now s [] = AtEnds Q P (length (P.held s)) now s
AtEveryEnd Q P now s (a ∷ trace) =
    AtEnds Q P (slots_until now a.slot) now s
    × AtEveryEnd Q P a.slot (P.arrive a (slot_ends P (slots_until now a.slot) now s).next).next trace

-- something stays after the flush
abbrev pub Leaves : ℕ → Marking → List ℕ → Slot → Marked → Type 0
Leaves room M slots now s =
    let marks = marks_after room M slots now s in
    0 < length (unflushed (head_mark marks s.queue) marks s.queue)

abbrev pub FlushLeaves : Type 0
FlushLeaves =
    (slots values : List ℕ) (room : ℕ) (M : Marking) (lists : Lists)
    → (mf_refusal M slots values room lists).number ≡ 0
    → AtEveryEnd (Leaves room M slots) (mf_policy room M slots) first (unmarked (length slots)) (arrivals slots values)
