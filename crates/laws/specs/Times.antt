-- How many times a packet's number stands in a list of entries, of held packets or of arrivals.
use Rattle.std.specs.Prelude.{ℕ, ◌+◌, cond, List, [], ◌∷◌, eqb}
use Rattle.model.specs.declared.Packet.{Packet}
use Rattle.model.specs.Packets.{Arrival}
use Rattle.model.specs.Record.{Entry}

-- the times of number n in a list of what has numbers
unfoldable pub times : {A : Type 0} → (A → ℕ) → ℕ → List A → ℕ
times number n [] = 0
times number n (x ∷ xs) = cond (eqb (number x) n) 1 0 + times number n xs

-- the number of an entry
abbrev pub of_entry : Entry → ℕ
of_entry e = e.number.0

-- the number of a packet
abbrev pub of_packet : Packet → ℕ
of_packet p = p.number.0

-- the number of an arrival
abbrev pub of_arrival : Arrival → ℕ
of_arrival a = a.packet.number.0

-- the times of number n among entries
abbrev pub times_entered : ℕ → List Entry → ℕ
times_entered = times of_entry

-- the times of number n among held packets
abbrev pub times_held : ℕ → List Packet → ℕ
times_held = times of_packet

-- the times of number n among arrivals
abbrev pub times_arriving : ℕ → List Arrival → ℕ
times_arriving = times of_arrival
