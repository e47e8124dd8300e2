-- What a flush and the end of a slot do under MF.
use Rattle.std.specs.Prelude.{ℕ, zero, suc, ◌≡◌, cond, List, [], ◌∷◌}
use Rattle.model.specs.declared.PacketNumber.{PacketNumber}
use Rattle.model.specs.declared.Packet.{Packet}
use Rattle.model.specs.declared.Slot.{Slot}
use Rattle.model.specs.Record.{Lists, entered}
use Rattle.model.specs.Packets.{slots_until, following}
use Rattle.model.specs.Course.{Step, send_oldest, slot_ends}
use Rattle.model.specs.declared.Marking.{Marking}
use Rattle.model.specs.Policies.MF.{Marked, marks_after, head_mark, flushed, unflushed, mf_policy}
use Rattle.model.specs.Lent.{LentList, was, left, lists_before, lists_after}
use Rattle.steps.specs.declared.Window.{Window}
use Rattle.steps.specs.Window.{Within, window_of}
use Rattle.steps.specs.Guarded.{lies_within}
use Rattle.steps.specs.Step.{Stepped}
use Rattle.steps.specs.Lent.{Lent, lent_before, lent_after, Moved, queue_in, placed, leaving}
use Rattle.mf_marks.specs.Mark.{beside}

-- the flush under a head with mark m
abbrev pub flushing : Slot → PacketNumber → List ℕ → List Packet → Step (List Packet)
flushing now m marks queue = record { entries = flushed now m marks queue; next = unflushed m marks queue }

-- a step under MF is done: the window and the marks are what is held after it, and its entries are written
pub record Finished (step : Step Marked) (before : Lists) (w : Window) (numbers values marks : List ℕ) (after : Lists) : Type 0 where
  pub within : Within w numbers values
  pub state : beside (window_of w numbers values) marks ≡ step.next
  pub written : after ≡ entered step.entries before

-- the end of a slot: mark, flush, send
unfoldable pub finishing : ℕ → Marking → List ℕ → Slot → Marked → Step Marked
finishing room M slots now s = (mf_policy room M slots).finish now s

-- the ends of the slots before the next arrival
unfoldable pub ending : ℕ → Marking → List ℕ → Slot → Slot → Marked → Step Marked
ending room M slots now until s = slot_ends (mf_policy room M slots) (slots_until now until) now s

-- the end of a slot, to the last entry of the lists: what the flush leaves stands from the window's start on, and the oldest of it is sent
abbrev pub end_in : ℕ → Marking → List ℕ → Slot → Marked → Lent → Lent
end_in room M slots now s l =
    let marks = marks_after room M slots now s in
    let left = unflushed (head_mark marks s.queue) marks s.queue in
    leaving (send_oldest now left).next (placed l.window.head left l)

-- the first where nothing is held, else the second
abbrev pub where_held : List Packet → Lent → Lent → Lent
where_held [] quiet busy = quiet
where_held (p ∷ queue) quiet busy = busy

-- the ends of n slots from now on
unfoldable pub ends_in : ℕ → Marking → List ℕ → ℕ → Slot → Marked → Lent → Lent
ends_in room M slots zero now s l = l
ends_in room M slots (suc n) now s l =
    where_held s.queue l (ends_in room M slots n (following now) (finishing room M slots now s).next (end_in room M slots now s l))

-- the window with its lists, beside the marks and the record's lists
pub record MovedMF : Type 0 where
  pub lent : Lent
  pub marks : List ℕ
  pub written : Lists

abbrev pub moved_mf : Lent → List ℕ → Lists → MovedMF
moved_mf l marks lists = record { lent = l; marks = marks; written = lists }

-- the ends of the slots before the next arrival; where the window does not lie within its lists all is as before
unfoldable pub ending_in : ℕ → Marking → List ℕ → Slot → Slot → Lent → List ℕ → Lists → MovedMF
ending_in room M slots now until l marks lists =
    let s = beside (queue_in l) marks in
    let step = ending room M slots now until s in
    cond (lies_within l.window l.numbers l.values)
    (moved_mf (ends_in room M slots (slots_until now until) now s l) step.next.marks (entered step.entries lists))
    (moved_mf l marks lists)

-- all of these before a call, and after it
abbrev pub mf_from : Window → LentList → LentList → LentList → LentList → LentList → LentList → MovedMF
mf_from w numbers values marks fates whens bys =
    moved_mf (lent_before w numbers values) (was marks) (lists_before fates whens bys)

abbrev pub mf_to : Window → LentList → LentList → LentList → LentList → LentList → LentList → MovedMF
mf_to w numbers values marks fates whens bys = moved_mf (lent_after w numbers values) (left marks) (lists_after fates whens bys)

-- a step on all of these
abbrev pub on_mf : (Lent → List ℕ → Lists → MovedMF) → MovedMF → MovedMF
on_mf step m = step m.lent m.marks m.written

-- a call makes a step on all of these
abbrev pub MovesMF : Window → Window → LentList → LentList → LentList → LentList → LentList → LentList → (Lent → List ℕ → Lists → MovedMF) → Type 0
MovesMF w r numbers values marks fates whens bys step =
    mf_to r numbers values marks fates whens bys ≡ on_mf step (mf_from w numbers values marks fates whens bys)

-- the oldest packet, if any, is sent, and the window's end stays
abbrev pub Sends : Slot → Moved → Moved → Type 0
Sends now m n =
    let l = m.lent in
    Stepped (send_oldest now (queue_in l)) m.written n.lent.window l.numbers l.values n.written
    × (n.lent.window.tail ≡ l.window.tail)

-- the flush under a head with mark m is done: what it leaves stands from the window's start on
abbrev pub Flushes : Slot → PacketNumber → List ℕ → Moved → Moved → Type 0
Flushes now mark marks m n =
    let l = m.lent in
    let after = n.lent in
    Stepped (flushing now mark marks (queue_in l)) m.written after.window after.numbers after.values n.written
    × (after ≡ placed l.window.head (unflushed mark marks (queue_in l)) l)

-- a step under MF is done, and this is what it leaves of the window and its lists
abbrev pub FinishedIn : (Marked → Step Marked) → (Marked → Lent → Lent) → MovedMF → MovedMF → Type 0
FinishedIn step leaves m n =
    let s = beside (queue_in m.lent) m.marks in
    let after = n.lent in
    Finished (step s) m.written after.window after.numbers after.values n.marks n.written
    × (after ≡ leaves s m.lent)

-- the end of a slot, and the ends of the slots before the next arrival
abbrev pub EndedIn : ℕ → Marking → List ℕ → Slot → MovedMF → MovedMF → Type 0
EndedIn room M slots now = FinishedIn (finishing room M slots now) (end_in room M slots now)

abbrev pub EndsIn : ℕ → Marking → List ℕ → Slot → Slot → MovedMF → MovedMF → Type 0
EndsIn room M slots from until =
    FinishedIn (ending room M slots from until) (ends_in room M slots (slots_until from until) from)
