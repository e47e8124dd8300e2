-- What marking reads and writes: the packets of two lists, and the marks beside a queue.
use Rattle.std.specs.Prelude.{ℕ, zero, suc, ◌+◌, List, [], ◌∷◌, ◌≡◌, cond, ◌&&◌, eqb}
use Rattle.model.specs.declared.Packet.{Packet}
use Rattle.model.specs.declared.Slot.{Slot}
use Rattle.model.specs.Packets.{packet_in, slot_of}
use Rattle.model.specs.declared.Marking.{Marking}
use Rattle.model.specs.Policies.MF.{Marked, mark_down}
use Rattle.model.specs.Lent.{LentList, was, left}
use Rattle.steps.specs.declared.Window.{Window}
use Rattle.steps.specs.Window.{window_of}
use Rattle.steps.specs.Guarded.{Guarded, lies_within}

-- the first n packets from `head` on, newest first
unfoldable pub older_than : List ℕ → List ℕ → ℕ → ℕ → List Packet
older_than numbers values head zero = []
older_than numbers values head (suc n) = packet_in numbers values (head + n) ∷ older_than numbers values head n

-- the marks once a packet has had its turn to mark those older than it
abbrev pub marked_by : Marking → List ℕ → Slot → List Packet → Packet → List ℕ → List ℕ
marked_by M slots now older p marks =
    cond (eqb p.value M.hi && eqb (slot_of slots p.number).0 now.0) (mark_down M.lo M.r p.number older marks) marks

-- the marks once the packet at place i of the queue has had its turn
abbrev pub marked_at : Marking → List ℕ → Slot → List ℕ → List ℕ → ℕ → ℕ → List ℕ → List ℕ
marked_at M slots now numbers values head i marks =
    marked_by M slots now (older_than numbers values head i) (packet_in numbers values (head + i)) marks

-- a queue beside its marks
abbrev pub beside : List Packet → List ℕ → Marked
beside queue marks = record { queue = queue; marks = marks }

-- a window's queue beside its marks before a call
abbrev pub marked_before : Window → List ℕ → List ℕ → LentList → Marked
marked_before w numbers values marks = beside (window_of w numbers values) (was marks)

-- the marks after a call: these, where the window lies within its lists, else as before
abbrev pub Marks : Window → List ℕ → List ℕ → LentList → (Marked → List ℕ) → Type 0
Marks w numbers values marks after =
    Guarded (lies_within w numbers values) (left marks ≡ after (marked_before w numbers values marks)) (left marks ≡ was marks)
