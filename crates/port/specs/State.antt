-- The struct `Port` read as the plain state of model's definitions, field by field, and what a call hands back read as model's outcome.
use Rattle.std.specs.Prelude.{ℕ, ◌+◌, ◌-◌, ◌≡◌, List, get_or, set}
use Rattle.model.specs.Packets.{nobody}
use Rattle.model.specs.Limits.{PortLimits}
use Rattle.model.specs.Answers.{of_making, of_arrival, of_slot, port_refused}
use Rattle.model.specs.Policies.Greedy.{without}
use Rattle.model.specs.Port.{PortState, PortOutcome, queue_of, holding}
use Rattle.queue.specs.Slide.{slid}
use Rattle.port.specs.declared.Port.{Port}
use Rattle.port.specs.declared.Limits.{Limits}
use Rattle.port.specs.declared.MadePort.{MadePort}
use Rattle.port.specs.declared.PortArrival.{PortArrival}
use Rattle.port.specs.declared.PortSlot.{PortSlot}
use Rattle.port.specs.declared.Taken.{Taken}

abbrev pub state_of : Port → PortState
state_of port =
    record {
      room = port.room;
      beta = port.beta;
      last = port.last;
      held = port.held;
      values = port.values;
      numbers = port.numbers;
    }

abbrev pub limits_of : Limits → PortLimits
limits_of limits = record { room = limits.room; beta = limits.beta; number = limits.number }

abbrev pub making_of : MadePort → PortOutcome
making_of made = record { reply = of_making made.answer; port = state_of made.port }

abbrev pub arrival_of : PortArrival → PortOutcome
arrival_of arrival = record { reply = of_arrival arrival.answer; port = state_of arrival.port }

abbrev pub slot_of : PortSlot → PortOutcome
slot_of slot = record { reply = of_slot slot.answer; port = state_of slot.port }

-- a refusal with no place
abbrev pub refusing : ℕ → PortState → PortOutcome
refusing number port = record { reply = port_refused number 0; port = port }

-- the places hold the queue, and unused places are zero
abbrev pub Placed : PortState → Type 0
Placed port = port ≡ holding port port.last (queue_of port)

-- the entry at a place is taken out of a list whose first `held` places are in use
pub record TakenOut (held place : ℕ) (before after : List ℕ) (entry : ℕ) : Type 0 where
  pub entry_was : entry ≡ get_or before place 0
  pub left : after ≡ set (slid (place + 1) held place before) (held - 1) 0

-- the packet at a place, and the port without it
pub record Taking (port : PortState) (place : ℕ) (taken : Taken) : Type 0 where
  pub packet : taken.packet ≡ get_or (queue_of port) place nobody
  pub left : state_of taken.port ≡ holding port port.last (without place (queue_of port))
