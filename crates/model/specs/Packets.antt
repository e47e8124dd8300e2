-- 01, 'Packets, slots and room': the trace. A packet number and a slot are two kinds, never compared with or added to each other.
use Rattle.std.specs.Prelude.{ℕ, suc, ◌-◌, List, [], ◌∷◌, map, get_or}
use Rattle.model.specs.declared.PacketNumber.{PacketNumber}
use Rattle.model.specs.declared.Slot.{Slot}
use Rattle.model.specs.declared.Packet.{Packet}

-- one packet of a trace: the slot in which it arrives, and the packet
pub record Arrival : Type 0 where
  pub slot : Slot
  pub packet : Packet

-- the packet with this number and this value
abbrev pub packet_of : ℕ → ℕ → Packet
packet_of number value = record { number = record { 0 = number }; value = value }

-- the packet at a place of a list of numbers and a list of values
abbrev pub packet_in : List ℕ → List ℕ → ℕ → Packet
packet_in numbers values place = packet_of (get_or numbers place 0) (get_or values place 0)

-- no packet: its number and its value are 0
abbrev pub nobody : Packet
nobody = packet_of 0 0

-- the packets of the list of slots and the list of values, numbered from n
unfoldable pub arrivals_from : ℕ → List ℕ → List ℕ → List Arrival
arrivals_from n [] values = []
arrivals_from n (s ∷ slots) [] = []
arrivals_from n (s ∷ slots) (v ∷ values) =
    record { slot = record { 0 = s }; packet = packet_of n v }
    ∷ arrivals_from (suc n) slots values

-- packets are numbered from 1 in list order
abbrev pub arrivals : List ℕ → List ℕ → List Arrival
arrivals slots values = arrivals_from 1 slots values

-- the place in a list of the packet with this number
abbrev pub place_of : PacketNumber → ℕ
place_of n = n.0 - 1

-- the slot in which the packet with this number arrives
abbrev pub slot_of : List ℕ → PacketNumber → Slot
slot_of slots n = record { 0 = get_or slots (place_of n) 0 }

-- the packet number that a list of packet numbers has for the packet with this number; 0 where it names none
abbrev pub number_of : List ℕ → PacketNumber → PacketNumber
number_of numbers n = record { 0 = get_or numbers (place_of n) 0 }

-- how many slots end from this one on before the later one begins
abbrev pub slots_until : Slot → Slot → ℕ
slots_until now later = later.0 - now.0

-- the slot after this one
abbrev pub following : Slot → Slot
following now = record { 0 = suc now.0 }

-- the values of a queue
abbrev pub values_of : List Packet → List ℕ
values_of queue = map (λ (p : Packet). p.value) queue

-- and its numbers
abbrev pub numbers_of : List Packet → List ℕ
numbers_of queue = map (λ (p : Packet). p.number.0) queue
