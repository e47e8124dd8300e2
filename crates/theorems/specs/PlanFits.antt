-- 01, 'Offline plan': the plan's test is a run. Kept packets fit exactly when the run that holds these and rejects all others never holds more than room just
-- after an arrival. The proofs are in proofs/PlanFits.antt.
use Rattle.std.specs.Prelude.{ℕ, ◌≤◌, max, ◌≡◌, ◌↔◌, true, List, [], ◌∷◌, length, get_or}
use Rattle.model.specs.declared.Slot.{Slot}
use Rattle.model.specs.Packets.{Arrival, arrivals, slots_until}
use Rattle.model.specs.Record.{Lists, record_of, rows}
use Rattle.model.specs.Totals.{totals_of}
use Rattle.model.specs.Course.{Policy, slot_ends, by_rule, run_by, first}
use Rattle.model.specs.Policies.Plan.{fits, kept_rule}
use Rattle.model.specs.Refusals.{plain_refusal}

-- the most that is held just after any arrival of a run: the greatest length that the queue then has, 0 for an empty trace
unfoldable pub most_after_arrivals : {S : Type 0} → Policy S → Slot → S → List Arrival → ℕ
most_after_arrivals P now s [] = 0
most_after_arrivals P now s (a ∷ trace) =
    let before = (slot_ends P (slots_until now a.slot) now s).next in
    let after = (P.arrive a before).next in
    max (length (P.held after)) (most_after_arrivals P a.slot after trace)

-- a list of 0s and 1s: 1 for each packet that is kept
abbrev pub ZeroOrOne : List ℕ → Type 0
ZeroOrOne kept = (k : ℕ) → get_or kept k 0 ≤ 1

-- the plan's test, and the run that holds the kept packets
abbrev pub FitsIsRun : Type 0
FitsIsRun =
    (room : ℕ) (trace : List Arrival) (kept : List ℕ) → ZeroOrOne kept
    → (fits room trace kept ≡ true) ↔ (most_after_arrivals (by_rule (kept_rule kept)) first [] trace ≤ room)

-- the same in the words of that run's record, on a trace that is accepted
abbrev pub FitsIsRecord : Type 0
FitsIsRecord =
    (slots values : List ℕ) (room : ℕ) (lists : Lists) (kept : List ℕ)
    → (plain_refusal slots values room lists).number ≡ 0
    → ZeroOrOne kept
    → (let trace = arrivals slots values in
    let record-rows = rows trace (record_of (length slots) (run_by (kept_rule kept) trace)) in
    (fits room trace kept ≡ true) ↔ ((totals_of record-rows).most_held ≤ room))
