-- With r = 0 nothing is ever marked, so nothing is flushed, and MF's steps are plain greedy's beside marks that stay as they were. A value that is lo or hi
-- is in range, so plain greedy refuses nothing that MF accepts.
use Prim.Native.Nat.{ℕ, zero, suc, ◌-◌}
use mathlib.Core.Path.{◌≡◌, refl, sym, ap, ap₂, ◌∙◌}
use mathlib.Core.Bool.{Bool, true, false, cond, ◌&&◌}
use mathlib.Core.List.{List, [], ◌∷◌, ◌++◌}
use lib.ListN.{length, get_or, replicate, take}
use lib.Dec.{eqb}
use Rattle.model.specs.declared.Packet.{Packet}
use Rattle.model.specs.declared.PacketNumber.{PacketNumber}
use Rattle.model.specs.declared.Slot.{Slot}
use Rattle.model.specs.Packets.{Arrival, arrivals, slots_until, following, place_of, slot_of}
use Rattle.model.specs.Record.{Entry, Lists}
use Rattle.model.specs.Rules.{Verdict}
use Rattle.model.specs.Refusals.{lo_or_hi, plain_refusal, mf_refusal, marking_refusal}
use Rattle.model.specs.Course.{Step, Policy, and_then, by_rule, send_oldest, slot_ends, course, first}
use Rattle.model.specs.Policies.Greedy.{greedy_rule}
use Rattle.model.specs.declared.Marking.{Marking}
use Rattle.model.specs.Policies.MF.{Marked, mark_down, mark_from, marks_after, flushed, unflushed, head_mark, mf_policy}
use Rattle.model.specs.Calls.{Outcome, ran, run_unless, greedy_call, mf_call}
use Rattle.laws.proofs.Lists.{zeros}
use Rattle.laws.proofs.Accepted.{lo_or_hi_ok, mf_accepted}
use Rattle.laws.proofs.Audited.{audit_unrefused}
use Rattle.theorems.specs.PlainMF.{marks_none, PlainRun, PlainCall}

down_none : (lo : ℕ) (marking : PacketNumber) (older : List Packet) (marks : List ℕ) → mark_down lo 0 marking older marks ≡ marks
unfolding mark_down
down_none lo marking [] marks = refl
down_none lo marking (p ∷ older) marks = refl

from_none : (lo hi : ℕ) (slots : List ℕ) (now : Slot) (older queue : List Packet) (marks : List ℕ) → mark_from (marks_none lo hi) slots now older queue marks ≡ marks
unfolding mark_from
from_none lo hi slots now older [] marks = refl
from_none lo hi slots now older (p ∷ queue) marks =
    go (eqb p.value hi && eqb (slot_of slots p.number).0 now.0) ∙ from_none lo hi slots now (p ∷ older) queue marks
  where
    go : (t : Bool)
        → mark_from (marks_none lo hi) slots now (p ∷ older) queue (cond t (mark_down lo 0 p.number older marks) marks)
        ≡ mark_from (marks_none lo hi) slots now (p ∷ older) queue marks
    go true = ap (mark_from (marks_none lo hi) slots now (p ∷ older) queue) (down_none lo p.number older marks)
    go false = refl

-- no packet is marked
abbrev None : List ℕ → Type 0
None marks = (k : ℕ) → get_or marks k 0 ≡ 0

flushed_none : (now : Slot) (m : PacketNumber) (marks : List ℕ) (queue : List Packet) → None marks → flushed now m marks queue ≡ []
unfolding flushed
flushed_none now m marks [] none = refl
flushed_none now m marks (p ∷ queue) none = rw (none (place_of p.number)) (flushed_none now m marks queue none)

unflushed_none : (m : PacketNumber) (marks : List ℕ) (queue : List Packet) → None marks → unflushed m marks queue ≡ queue
unfolding unflushed
unflushed_none m marks [] none = refl
unflushed_none m marks (p ∷ queue) none = rw (none (place_of p.number)) (ap (λ (q : List Packet). p ∷ q) (unflushed_none m marks queue none))

-- a step of the queue beside marks that stay
abbrev beside : List ℕ → Step (List Packet) → Step Marked
beside marks step = record { entries = step.entries; next = record { queue = step.next; marks = marks } }

module _ (room lo hi : ℕ) (slots : List ℕ) where
  abbrev MF : Policy Marked
  MF = mf_policy room (marks_none lo hi) slots

  abbrev Plain : Policy (List Packet)
  Plain = by_rule (greedy_rule room)

  abbrev holding : List ℕ → List Packet → Marked
  holding marks queue = record { queue = queue; marks = marks }

  module _ (marks : List ℕ) (none : None marks) where
    finish_plain : (now : Slot) (queue : List Packet) → MF.finish now (holding marks queue) ≡ beside marks (send_oldest now queue)
    finish_plain now queue =
        let same : marks_after room (marks_none lo hi) slots now (holding marks queue) ≡ marks = from_none lo hi slots now [] (take (room - 1) queue) marks in
        let m = head_mark marks queue in
        ap (λ (l : List ℕ).
        let sent = send_oldest now (unflushed (head_mark l queue) l queue) in
        record { entries = flushed now (head_mark l queue) l queue ++ sent.entries; next = record { queue = sent.next; marks = l } })
        same
        ∙ ap₂ (λ (es : List Entry) (q : List Packet).
        let sent = send_oldest now q in
        record { entries = es ++ sent.entries; next = record { queue = sent.next; marks = marks } })
        (flushed_none now m marks queue none) (unflushed_none m marks queue none)

    ends_plain : (n : ℕ) (now : Slot) (queue : List Packet) → slot_ends MF n now (holding marks queue) ≡ beside marks (slot_ends Plain n now queue)
    unfolding slot_ends
    ends_plain zero now queue = refl
    ends_plain (suc n) now [] = refl
    ends_plain (suc n) now (p ∷ queue) =
        ap (λ (end : Step Marked). and_then end.entries (slot_ends MF n (following now) end.next)) (finish_plain now (p ∷ queue))
        ∙ ap (and_then (send_oldest now (p ∷ queue)).entries) (ends_plain n (following now) queue)

    course_plain : (now : Slot) (queue : List Packet) (trace : List Arrival) → course MF now (holding marks queue) trace ≡ course Plain now queue trace
    unfolding course
    course_plain now queue [] = ap (λ (s : Step Marked). s.entries) (ends_plain (length queue) now queue)
    course_plain now queue (a ∷ trace) =
        let before = slot_ends Plain (slots_until now a.slot) now queue in
        let step = Plain.arrive a before.next in
        ap (λ (s : Step Marked).
        let arrived = MF.arrive a s.next in
        s.entries ++ (arrived.entries ++ course MF a.slot arrived.next trace))
        (ends_plain (slots_until now a.slot) now queue)
        ∙ ap (λ (es : List Entry). before.entries ++ (step.entries ++ es)) (course_plain a.slot step.next trace)

pub plain_run : PlainRun
plain_run room lo hi slots values = course_plain room lo hi slots (replicate (length slots) 0) (zeros (length slots)) first [] (arrivals slots values)

pub plain_clear : (M : Marking) (slots values : List ℕ) (room : ℕ) (lists : Lists)
    → (mf_refusal M slots values room lists).number ≡ 0 → (plain_refusal slots values room lists).number ≡ 0
unfolding mf_refusal
plain_clear M slots values room lists z =
    let sized = (mf_accepted slots values room lists M z).sized in
    audit_unrefused (marking_refusal M) (lo_or_hi M) (lo_or_hi_ok M) slots values room lists lists sized sized z

-- where a verdict is clear the outcome is the run's
pub run_clear : (v : Verdict) (lists : Lists) (outcome : Outcome) → v.number ≡ 0 → run_unless v lists outcome ≡ outcome
unfolding run_unless
run_clear v lists outcome z = rw z refl

pub plain_call : PlainCall
unfolding mf_call greedy_call
plain_call room lo hi slots values lists z =
    run_clear _ lists _ z
    ∙ ap (ran slots values) (plain_run room lo hi slots values)
    ∙ sym (run_clear _ lists _ (plain_clear (marks_none lo hi) slots values room lists z))
