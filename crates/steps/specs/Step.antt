-- What an arrival and the ends of slots do to a run's queue and to the record's lists.
use Rattle.std.specs.Prelude.{ℕ, ◌≡◌, List}
use Rattle.model.specs.declared.Packet.{Packet}
use Rattle.model.specs.declared.Slot.{Slot}
use Rattle.model.specs.Packets.{Arrival, slots_until}
use Rattle.model.specs.Record.{Lists, entered}
use Rattle.model.specs.Course.{Step, Decided, and_then, by_rule, slot_ends, rejected}
use Rattle.steps.specs.declared.Window.{Window}
use Rattle.steps.specs.Window.{Within, window_of}

-- the ends of the slots before the next arrival. A rule has no part in them, so it is any
abbrev pub any_rule : List Packet → Packet → Decided
any_rule queue p = record { decision = rejected; queue = queue }

unfoldable pub sending : Slot → Slot → List Packet → Step (List Packet)
sending now until queue = slot_ends (by_rule any_rule) (slots_until now until) now queue

-- the arrival of a packet in a slot
abbrev pub arrival : Slot → Packet → Arrival
arrival slot p = record { slot = slot; packet = p }

-- an arrival under a rule, which can be a choice already made
abbrev pub arriving : (List Packet → Packet → Decided) → Arrival → List Packet → Step (List Packet)
arriving rule a queue = (by_rule rule).arrive a queue

-- the ends of the slots before an arrival's own, then the arrival
abbrev pub turning : (List Packet → Packet → Decided) → Slot → Arrival → List Packet → Step (List Packet)
turning rule now a queue =
    let before = sending now a.slot queue in
    and_then before.entries (arriving rule a before.next)

-- a step is done: the window holds the queue after it, and its entries are written
pub record Stepped (step : Step (List Packet)) (before : Lists) (w : Window) (numbers values : List ℕ) (after : Lists) : Type 0 where
  pub within : Within w numbers values
  pub queue : window_of w numbers values ≡ step.next
  pub written : after ≡ entered step.entries before
