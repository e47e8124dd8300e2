-- MF (document 000, figure 3, corrected). Values are lo or hi. Arrivals go as in plain greedy. After the slot's arrivals, go through positions 1 to
-- room - 1 from the oldest, as far as packets are held. Each hi packet that arrived in this slot marks with its own number up to r unmarked lo packets,
-- starting at the position before it and stepping down one place each time, marked or not. Marks last. Then, if the head has mark m, every held packet
-- with a mark at most m is flushed, once; then the head is sent. r = 0 is plain greedy.
use Rattle.std.specs.Prelude.{ℕ, zero, suc, ◌-◌, Bool, cond, not, ◌&&◌, List, [], ◌∷◌, ◌++◌, length, set, take, replicate, leb, eqb}
use Rattle.model.specs.declared.PacketNumber.{PacketNumber}
use Rattle.model.specs.declared.Slot.{Slot}
use Rattle.model.specs.declared.Packet.{Packet}
use Rattle.model.specs.declared.Marking.{Marking}
use Rattle.model.specs.Packets.{arrivals, place_of, slot_of, number_of}
use Rattle.model.specs.Record.{Entry, flushed_at}
use Rattle.model.specs.Course.{Step, Policy, by_rule, send_oldest, course, first}
use Rattle.model.specs.Policies.Greedy.{greedy_rule}

-- the held packets, and for each packet of the trace the number of the packet that marked it, 0 for none
pub record Marked : Type 0 where
  pub queue : List Packet
  pub marks : List ℕ

-- a packet's mark: the number of the packet that marked it, 0 for none
abbrev pub mark_of : List ℕ → Packet → PacketNumber
mark_of marks p = number_of marks p.number

abbrev pub is_marked : List ℕ → Packet → Bool
is_marked marks p = not (eqb (mark_of marks p).0 0)

-- mark up to n unmarked lo packets of those older than the marking one, stepping down from the newest of them
unfoldable pub mark_down : ℕ → ℕ → PacketNumber → List Packet → List ℕ → List ℕ
mark_down lo n marking [] marks = marks
mark_down lo zero marking (p ∷ older) marks = marks
mark_down lo (suc n) marking (p ∷ older) marks =
    cond (eqb p.value lo && not (is_marked marks p))
    (mark_down lo n marking older (set marks (place_of p.number) marking.0))
    (mark_down lo (suc n) marking older marks)

-- go through positions, oldest first: each hi packet that arrived in this slot marks; `older` are those before it, newest first
unfoldable pub mark_from : Marking → List ℕ → Slot → List Packet → List Packet → List ℕ → List ℕ
mark_from M slots now older [] marks = marks
mark_from M slots now older (p ∷ queue) marks =
    mark_from M slots now (p ∷ older) queue
    (cond (eqb p.value M.hi && eqb (slot_of slots p.number).0 now.0)
    (mark_down M.lo M.r p.number older marks)
    marks)

-- the marks after a slot's arrivals: positions 1 to room - 1
abbrev pub marks_after : ℕ → Marking → List ℕ → Slot → Marked → List ℕ
marks_after room M slots now s = mark_from M slots now [] (take (room - 1) s.queue) s.marks

-- p is flushed under a head with mark m
abbrev pub goes_with : PacketNumber → List ℕ → Packet → Bool
goes_with m marks p = is_marked marks p && leb (mark_of marks p).0 m.0

-- the packets of a queue that are flushed, and those that stay
unfoldable pub flushed : Slot → PacketNumber → List ℕ → List Packet → List Entry
flushed now m marks [] = []
flushed now m marks (p ∷ queue) =
    cond (goes_with m marks p) (flushed_at now (mark_of marks p) p ∷ flushed now m marks queue) (flushed now m marks queue)

unfoldable pub unflushed : PacketNumber → List ℕ → List Packet → List Packet
unflushed m marks [] = []
unflushed m marks (p ∷ queue) = cond (goes_with m marks p) (unflushed m marks queue) (p ∷ unflushed m marks queue)

-- the head's mark, 0 for none
abbrev pub head_mark : List ℕ → List Packet → PacketNumber
head_mark marks [] = record { 0 = 0 }
head_mark marks (p ∷ queue) = mark_of marks p

-- the end of a slot once the marks are set: flush by the head's mark, then send the head
abbrev pub flush_and_send : Slot → List ℕ → List Packet → Step Marked
flush_and_send now marks queue =
    let m = head_mark marks queue in
    let sent = send_oldest now (unflushed m marks queue) in
    record {
      entries = flushed now m marks queue ++ sent.entries;
      next = record { queue = sent.next; marks = marks };
    }

abbrev pub mf_policy : ℕ → Marking → List ℕ → Policy Marked
mf_policy room M slots =
    record {
      held = λ s. s.queue;
      arrive = λ a s.
          let step = (by_rule (greedy_rule room)).arrive a s.queue in
          record { entries = step.entries; next = record { queue = step.next; marks = s.marks } };
      finish = λ now s. flush_and_send now (marks_after room M slots now s) s.queue;
    }

-- nothing held, nothing marked
abbrev pub unmarked : ℕ → Marked
unmarked n = record { queue = []; marks = replicate n 0 }

-- MF's run
abbrev pub mf_run : ℕ → Marking → List ℕ → List ℕ → List Entry
mf_run room M slots values = course (mf_policy room M slots) first (unmarked (length slots)) (arrivals slots values)
