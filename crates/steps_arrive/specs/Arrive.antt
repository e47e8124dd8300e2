-- What an arrival leaves of a window, of its two lent lists and of the record's lists, to the last entry. A window that does not lie within its lists, or has
-- no place free, is handed back, and nothing is written.
use Rattle.std.specs.Prelude.{ℕ, ◌-◌, ◌<◌, ◌≡◌, Bool, ◌&&◌, cond, List, [], ◌∷◌, ◌++◌, length, eqb, leb, ltb}
use Rattle.model.specs.declared.Packet.{Packet}
use Rattle.model.specs.Packets.{Arrival}
use Rattle.model.specs.Record.{Lists, entered}
use Rattle.model.specs.Lent.{LentList}
use Rattle.model.specs.Policies.Greedy.{without}
use Rattle.model.specs.Course.{Decision, held, rejected, losing, Decided, entries_of}
use Rattle.steps.specs.declared.Window.{Window}
use Rattle.steps.specs.Guarded.{lies_within}
use Rattle.steps.specs.Lent.{Lent, queue_in, placed, Moved, moved, moved_from, moved_to, on}

-- a window lies within its two lists, and not all their places are in use
unfoldable pub has_place : Window → List ℕ → List ℕ → Bool
has_place w numbers values = lies_within w numbers values && ltb (w.tail - w.head) (length values)

-- the same of lists of these lengths
abbrev pub place_in : Window → ℕ → ℕ → Bool
place_in w numbers values = (leb w.head w.tail && (leb w.tail values && eqb numbers values)) && ltb (w.tail - w.head) values

-- where a queue stands that gets one packet more: where it is; from the start of its lists, once it has come to their end
abbrev pub open_place : Lent → ℕ
open_place l = cond (ltb l.window.tail (length l.values)) l.window.head 0

-- a queue with a free place behind it
abbrev pub Opened : Lent → Lent → Type 0
Opened l m = (m ≡ placed (open_place l) (queue_in l) l) × (m.window.tail < length m.values)

-- a packet held behind the others, and the packet at a place lost
abbrev pub held_in : Packet → Lent → Lent
held_in p l = placed (open_place l) (queue_in l ++ p ∷ []) l

abbrev pub lost_in : ℕ → Lent → Lent
lost_in place l = placed l.window.head (without place (queue_in l)) l

-- a packet is held behind the others; where no place is free all is as before
unfoldable pub holding : Packet → Lent → Lent
holding p l = cond (has_place l.window l.numbers l.values) (placed (open_place l) (queue_in l ++ p ∷ []) l) l

-- where the queue stands after a decision: the arrival needs a place behind the others only where it is held and none is lost
abbrev pub decided_place : Decision → Lent → ℕ
decided_place held l = open_place l
decided_place rejected l = l.window.head
decided_place (losing loss) l = l.window.head

-- what a decision on an arrival leaves: the queue after it, and its entry written
abbrev pub deciding : Arrival → Decided → Lent → Lists → Moved
deciding a d l lists = moved (placed (decided_place d.decision l) d.queue l) (entered (entries_of a d.decision) lists)

-- and what a rule's decision leaves
abbrev pub deciding_by : (List Packet → Packet → Decided) → Arrival → Lent → Lists → Moved
deciding_by rule a l lists = deciding a (rule (queue_in l) a.packet) l lists

-- an arrival under a rule; where no place is free all is as before
unfoldable pub arriving_in : (List Packet → Packet → Decided) → Arrival → Lent → Lists → Moved
arriving_in rule a l lists =
    cond (has_place l.window l.numbers l.values) (deciding a (rule (queue_in l) a.packet) l lists) (moved l lists)

-- a call makes a step on both
abbrev pub Moves : Window → Window → LentList → LentList → LentList → LentList → LentList → (Lent → Lists → Moved) → Type 0
Moves w r numbers values fates whens bys step =
    moved_to r numbers values fates whens bys ≡ on step (moved_from w numbers values fates whens bys)
