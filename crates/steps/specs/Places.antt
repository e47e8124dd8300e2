-- A packet of a trace by its place, from 0.
use Rattle.std.specs.Prelude.{ℕ, ◌+◌, List, map, get_or}
use Rattle.model.specs.Packets.{packet_of, Arrival}

abbrev pub packet_at : List ℕ → List ℕ → ℕ → Arrival
packet_at slots values i =
    record { slot = record { 0 = get_or slots i 0 }; packet = packet_of (i + 1) (get_or values i 0) }

abbrev pub packets_at : List ℕ → List ℕ → List ℕ → List Arrival
packets_at slots values places = map (packet_at slots values) places
