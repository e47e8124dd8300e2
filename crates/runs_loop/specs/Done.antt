-- What a step of a policy leaves on a window, beside what the policy keeps, and on the record's lists.
use Rattle.std.specs.Prelude.{ℕ, ◌-◌, ◌≤◌, ◌≡◌, List}
use Rattle.model.specs.declared.Packet.{Packet}
use Rattle.model.specs.Record.{Lists, entered}
use Rattle.model.specs.Course.{Step}
use Rattle.model.specs.Lent.{LentList, was}
use Rattle.steps.specs.declared.Window.{Window}
use Rattle.steps.specs.Guarded.{Guarded, lies_within}
use Rattle.steps.specs.Window.{Within, window_of}
use Rattle.steps.specs.Lent.{queue_in, Moved, moved_from, moved_to}
use Rattle.steps_arrive.specs.Arrive.{has_place}

-- a step is done: the window's queue, with what is kept then, is the state after it, and its entries are written
pub record Done {S : Type 0} (state : List Packet → S) (step : Step S) (before : Lists) (w : Window) (numbers values : List ℕ) (after : Lists) : Type 0 where
  pub within : Within w numbers values
  pub held : state (window_of w numbers values) ≡ step.next
  pub written : after ≡ entered step.entries before

-- and from the state before
abbrev pub Does : {S : Type 0} → (List Packet → S) → (List Packet → S) → (S → Step S) → Moved → Moved → Type 0
Does from to step m n =
    let after = n.lent in
    Done to (step (from (queue_in m.lent))) m.written after.window after.numbers after.values n.written

-- an arrival; where no place is free all is as before
abbrev pub ArrivesIn : {S : Type 0} → (List Packet → S) → Window → Window → LentList → LentList → LentList → LentList → LentList → (S → Step S) → Type 0
ArrivesIn state w r numbers values fates whens bys step =
    let m = moved_from w numbers values fates whens bys in
    let n = moved_to r numbers values fates whens bys in
    Guarded (has_place w (was numbers) (was values)) (Does state state step m n) (n ≡ m)

-- the ends of slots, which make no queue longer; where the window does not lie within its lists all is as before
abbrev pub EndsIn : {S : Type 0} → (List Packet → S) → (List Packet → S) → Window → Window → LentList → LentList → LentList → LentList → LentList → (S → Step S) → Type 0
EndsIn before after w r numbers values fates whens bys step =
    let m = moved_from w numbers values fates whens bys in
    let n = moved_to r numbers values fates whens bys in
    Guarded (lies_within w (was numbers) (was values))
    (Does before after step m n × (r.tail - r.head ≤ w.tail - w.head))
    ((n ≡ m) × ((queue : List Packet) → after queue ≡ before queue))
