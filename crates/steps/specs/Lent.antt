-- A window of two lent lists, to the last entry, and what sendings leave of it and of the record's lists.
use Rattle.std.specs.Prelude.{ℕ, ◌+◌, ◌-◌, Bool, cond, List, length}
use Rattle.std.proofs.lemmas.List.Edits.{sets}
use Rattle.model.specs.declared.Packet.{Packet}
use Rattle.model.specs.declared.Slot.{Slot}
use Rattle.model.specs.Packets.{values_of, numbers_of}
use Rattle.model.specs.Record.{Lists, entered}
use Rattle.model.specs.Lent.{LentList, was, left, lists_before, lists_after}
use Rattle.steps.specs.declared.Window.{Window}
use Rattle.steps.specs.Window.{window_of}
use Rattle.steps.specs.Guarded.{lies_within}
use Rattle.steps.specs.Step.{sending}

-- a window and its two lists
pub record Lent : Type 0 where
  pub window : Window
  pub numbers : List ℕ
  pub values : List ℕ

abbrev pub lent : Window → List ℕ → List ℕ → Lent
lent w numbers values = record { window = w; numbers = numbers; values = values }

-- a window and its two lists before a call, and after it
abbrev pub lent_before : Window → LentList → LentList → Lent
lent_before w numbers values = lent w (was numbers) (was values)

abbrev pub lent_after : Window → LentList → LentList → Lent
lent_after w numbers values = lent w (left numbers) (left values)

-- the window lies within its two lists as they were
abbrev pub lies_before : Window → LentList → LentList → Bool
lies_before w numbers values = lies_within w (was numbers) (was values)

-- the packets of the window, oldest first
abbrev pub queue_in : Lent → List Packet
queue_in l = window_of l.window l.numbers l.values

-- a queue written from a place on, which is the window then; all other entries are as before
unfoldable pub placed : ℕ → List Packet → Lent → Lent
placed place queue l =
    lent (record { head = place; tail = place + length queue }) (sets l.numbers place (numbers_of queue)) (sets l.values place (values_of queue))

-- the window with its lists, beside the record's lists
pub record Moved : Type 0 where
  pub lent : Lent
  pub written : Lists

abbrev pub moved : Lent → Lists → Moved
moved l lists = record { lent = l; written = lists }

-- both before a call, and after it
abbrev pub moved_from : Window → LentList → LentList → LentList → LentList → LentList → Moved
moved_from w numbers values fates whens bys = moved (lent_before w numbers values) (lists_before fates whens bys)

abbrev pub moved_to : Window → LentList → LentList → LentList → LentList → LentList → Moved
moved_to w numbers values fates whens bys = moved (lent_after w numbers values) (lists_after fates whens bys)

-- a step on both
abbrev pub on : (Lent → Lists → Moved) → Moved → Moved
on step m = step m.lent m.written

-- the queue that sendings leave: the window's end stays, and its start has moved on
abbrev pub leaving : List Packet → Lent → Lent
leaving queue l = lent (record { head = l.window.tail - length queue; tail = l.window.tail }) l.numbers l.values

-- the ends of the slots before the next arrival; where the window does not lie within its lists all is as before
unfoldable pub sending_in : Slot → Slot → Lent → Lists → Moved
sending_in now until l lists =
    let step = sending now until (queue_in l) in
    cond (lies_within l.window l.numbers l.values) (moved (leaving step.next l) (entered step.entries lists)) (moved l lists)
