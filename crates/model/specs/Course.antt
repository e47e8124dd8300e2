-- 01, 'Packets, slots and room': the course of a trace through a queue, whatever the policy. Within a slot packets arrive one by one, in number order.
-- At the end of the slot the oldest held packet, if any, is sent. After the last arrival, slots go on until nothing is held.
use Rattle.std.specs.Prelude.{ℕ, zero, suc, Bool, cond, List, [], ◌∷◌, ◌++◌, length}
use Rattle.model.specs.declared.Slot.{Slot}
use Rattle.model.specs.declared.Packet.{Packet}
use Rattle.model.specs.declared.Loss.{Loss}
use Rattle.model.specs.Packets.{Arrival, slots_until, following}
use Rattle.model.specs.Record.{Entry, sent_at, rejected_at, lost_to}

-- what happens to a policy's state S: the entries of the packets that leave, and the state after
pub record Step (S : Type 0) : Type 0 where
  pub entries : List Entry
  pub next : S

-- a policy: the queue it holds, oldest first; what an arrival does; what the end of a slot does in which something is held
pub record Policy (S : Type 0) : Type 0 where
  pub held : S → List Packet
  pub arrive : Arrival → S → Step S
  pub finish : Slot → S → Step S

-- one thing after another
abbrev pub and_then : {S : Type 0} → List Entry → Step S → Step S
and_then entries step = record { entries = entries ++ step.entries; next = step.next }

-- the first step where nothing is held, else the second
abbrev pub unless_held : {S : Type 0} → List Packet → Step S → Step S → Step S
unless_held [] quiet busy = quiet
unless_held (p ∷ queue) quiet busy = busy

-- the ends of n slots from now on. Where nothing is held nothing happens in any of them; else this slot ends, and then the others
unfoldable pub slot_ends : {S : Type 0} → Policy S → ℕ → Slot → S → Step S
slot_ends P zero now s = record { entries = []; next = s }
slot_ends P (suc n) now s =
    unless_held (P.held s) (record { entries = []; next = s })
    (let end = P.finish now s in and_then end.entries (slot_ends P n (following now) end.next))

-- all entries of a trace's course, from slot `now` and the state s on
unfoldable pub course : {S : Type 0} → Policy S → Slot → S → List Arrival → List Entry
course P now s [] = (slot_ends P (length (P.held s)) now s).entries
course P now s (a ∷ trace) =
    let before = slot_ends P (slots_until now a.slot) now s in
    let step = P.arrive a before.next in
    before.entries ++ (step.entries ++ course P a.slot step.next trace)

-- what a rule decides of an arrival, and the queue after it
pub data Decision : Type 0 where
  held : Decision
  rejected : Decision
  losing : Loss → Decision

pub record Decided : Type 0 where
  pub decision : Decision
  pub queue : List Packet

-- the entries that a decision makes
abbrev pub entries_of : Arrival → Decision → List Entry
entries_of a held = []
entries_of a rejected = rejected_at a ∷ []
entries_of a (losing l) = lost_to a l ∷ []

-- at the end of the slot the oldest held packet, if any, is sent
abbrev pub send_oldest : Slot → List Packet → Step (List Packet)
send_oldest now [] = record { entries = []; next = [] }
send_oldest now (p ∷ queue) = record { entries = sent_at now p ∷ []; next = queue }

-- hold the arrival, or reject it
abbrev pub held_if : Bool → List Packet → Packet → Decided
held_if keep queue p =
    cond keep (record { decision = held; queue = queue ++ p ∷ [] }) (record { decision = rejected; queue = queue })

-- the policy that decides each arrival by a rule and does nothing else
abbrev pub by_rule : (List Packet → Packet → Decided) → Policy (List Packet)
by_rule rule =
    record {
      held = λ queue. queue;
      arrive = λ a queue.
          record { entries = entries_of a (rule queue a.packet).decision; next = (rule queue a.packet).queue };
      finish = send_oldest;
    }

-- the first slot
abbrev pub first : Slot
first = record { 0 = 1 }

-- the entries of a rule's run on a trace
abbrev pub run_by : (List Packet → Packet → Decided) → List Arrival → List Entry
run_by rule trace = course (by_rule rule) first [] trace
