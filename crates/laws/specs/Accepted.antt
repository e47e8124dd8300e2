-- A trace, a room and a record's lists that no call refuses, whatever its own parameters are.
use Rattle.std.specs.Prelude.{ℕ, suc, ◌≤◌, ◌<◌, ◌≡◌, Bool, true, List, [], ◌∷◌, length, get_or}
use Rattle.model.specs.Limits.{record_limits, port_limits}
use Rattle.model.specs.Packets.{Arrival, arrivals}
use Rattle.model.specs.Record.{Lists}
use Rattle.laws.specs.Recorded.{Sized}

-- the slots never go down
abbrev pub NeverDown : List ℕ → Type 0
NeverDown slots = (p q : ℕ) → p ≤ q → q < length slots → get_or slots p 0 ≤ get_or slots q 0

-- the slots are in range and never go down, and the values pass a test
pub record Packets (ok : ℕ → Bool) (slots values : List ℕ) : Type 0 where
  pub slot_from : (k : ℕ) → k < length slots → 1 ≤ get_or slots k 0
  pub slot_to : (k : ℕ) → k < length slots → get_or slots k 0 ≤ record_limits.slot
  pub never_down : NeverDown slots
  pub taken : (k : ℕ) → k < length slots → ok (get_or values k 0) ≡ true

-- the next packet of a trace, and its slot
pub record Next (slots : List ℕ) (now last : ℕ) (a : Arrival) : Type 0 where
  pub number : a.packet.number.0 ≡ suc last
  pub slot : a.slot.0 ≡ get_or slots last 0
  pub later : now ≤ a.slot.0
  pub counted : suc last ≤ length slots

-- the packets that come after `last`, in slots that never go down
abbrev pub Comes : List ℕ → ℕ → ℕ → List Arrival → Type 0
Comes slots now last [] = Unit {0}
Comes slots now last (a ∷ trace) = Next slots now last a × Comes slots a.slot.0 (suc last) trace

-- refusals 1, 2, 3, 5 and 6 are clear
pub record Accepted (ok : ℕ → Bool) (slots values : List ℕ) (room : ℕ) (lists : Lists) : Type 0 where
  pub lengths : length values ≡ length slots
  pub sized : Sized (length slots) lists
  pub few : length slots ≤ record_limits.packets
  pub room_from : 1 ≤ room
  pub room_to : room ≤ port_limits.room
  pub packets : Packets ok slots values
  pub comes : Comes slots 1 0 (arrivals slots values)
