-- 01, 'The live PG port', over plain lists: fresh, sound, arrival and end of slot. The struct itself stands with its methods, in crate port.
use Rattle.std.specs.Prelude.{ℕ, suc, ◌-◌, Bool, true, cond, ◌&&◌, List, [], ◌∷◌, ◌++◌, map, length, take, drop, replicate, leb, ltb, eqb}
use Rattle.model.specs.declared.PacketNumber.{PacketNumber}
use Rattle.model.specs.declared.Packet.{Packet}
use Rattle.model.specs.declared.Beta.{Beta}
use Rattle.model.specs.declared.Fate.TheVariants as fates
use Rattle.model.specs.Limits.{port_limits}
use Rattle.model.specs.Packets.{packet_of, nobody, values_of}
use Rattle.model.specs.Numbers.{fate_number}
use Rattle.model.specs.Record.{loss_fate}
use Rattle.model.specs.Course.{Decision, held, rejected, losing}
use Rattle.model.specs.Policies.PG.{pg_rule}
use Rattle.model.specs.Rules.{Verdict}
use Rattle.model.specs.Refusals.{value_ok, room_ok, beta_ok, making_refusal, sound_refusal, arrival_refusal}
use Rattle.model.specs.Answers.{PortReply, port_refused, port_says}

-- room, beta, the last number given, and the held packets in order: values and numbers in the first `held` of 256 places
pub record PortState : Type 0 where
  pub room : ℕ
  pub beta : Beta
  pub last : PacketNumber
  pub held : ℕ
  pub values : List ℕ
  pub numbers : List ℕ

-- 256 places, all zero
abbrev pub places : List ℕ
places = replicate port_limits.room 0

-- a fresh port
abbrev pub fresh : ℕ → Beta → PortState
fresh room beta =
    record { room = room; beta = beta; last = record { 0 = 0 }; held = 0; values = places; numbers = places }

-- the port that a refused making hands back: zero throughout
abbrev pub zero_port : PortState
zero_port = fresh 0 (record { num = 0; den = 0 })

-- every number of a list passes a test
unfoldable pub all : (ℕ → Bool) → List ℕ → Bool
all test [] = true
all test (n ∷ numbers) = test n && all test numbers

-- the numbers rise, each above the one before and none above the last given
unfoldable pub rises_from : ℕ → ℕ → List ℕ → Bool
rises_from before last [] = true
rises_from before last (n ∷ numbers) = ltb before n && leb n last && rises_from n last numbers

-- room and beta are in range, held is at most room, held values are in range, held numbers rise and lie from 1 to the last number given, and unused
-- places are zero
unfoldable pub sound : PortState → Bool
sound port =
    room_ok port.room
    && beta_ok port.beta
    && leb port.held port.room
    && all value_ok (take port.held port.values)
    && rises_from 0 port.last.0 (take port.held port.numbers)
    && all (eqb 0) (drop port.held port.values)
    && all (eqb 0) (drop port.held port.numbers)

-- the packets of a list of numbers and a list of values
unfoldable pub packets_of : List ℕ → List ℕ → List Packet
packets_of [] values = []
packets_of (n ∷ numbers) [] = []
packets_of (n ∷ numbers) (v ∷ values) = packet_of n v ∷ packets_of numbers values

-- the held packets, oldest first
abbrev pub queue_of : PortState → List Packet
queue_of port = packets_of (take port.held port.numbers) (take port.held port.values)

-- a list in 256 places, the rest zero
abbrev pub in_places : List ℕ → List ℕ
in_places numbers = numbers ++ replicate (port_limits.room - length numbers) 0

-- the port with another queue, and another last number
unfoldable pub holding : PortState → PacketNumber → List Packet → PortState
holding port last queue =
    record {
      room = port.room;
      beta = port.beta;
      last = last;
      held = length queue;
      values = in_places (values_of queue);
      numbers = in_places (map (λ (p : Packet). p.number.0) queue);
    }

-- a live call's answer, and the port that it hands back
pub record PortOutcome : Type 0 where
  pub reply : PortReply
  pub port : PortState

-- a refusal, which hands back this port, or else what the call does
unfoldable pub unless_refused : Verdict → PortState → PortOutcome → PortOutcome
unless_refused v port done =
    cond (eqb v.number 0) done (record { reply = port_refused v.number v.place; port = port })

-- making a port
unfoldable pub make_call : ℕ → Beta → PortOutcome
make_call room beta =
    unless_refused (making_refusal room beta) zero_port
    (record { reply = port_says 0 (record { 0 = 0 }) nobody; port = fresh room beta })

-- held or rejected, with its number; where another packet was lost, that packet and which kind of loss it was
abbrev pub says_of : PacketNumber → Decision → PortReply
says_of n held = port_says 0 n nobody
says_of n rejected = port_says (fate_number fates.Rejected) n nobody
says_of n (losing l) = port_says (fate_number (loss_fate l.kind)) n l.packet

-- the packet that arrives: numbers run from 1, and a rejected packet uses one
abbrev pub next_packet : PortState → ℕ → Packet
next_packet port value = packet_of (suc port.last.0) value

-- an arrival
unfoldable pub arrive_call : PortState → ℕ → PortOutcome
arrive_call port value =
    let p = next_packet port value in
    let step = pg_rule port.room port.beta (queue_of port) p in
    unless_refused (arrival_refusal (sound port) port.last.0 value) port
    (record { reply = says_of p.number step.decision; port = holding port p.number step.queue })

-- what the end of a slot does with a queue: the oldest held packet is sent, or the slot is idle
abbrev pub slot_end : PortState → List Packet → PortOutcome
slot_end port [] = record { reply = port_says 0 (record { 0 = 0 }) nobody; port = port }
slot_end port (p ∷ queue) =
    record { reply = port_says (fate_number fates.Sent) (record { 0 = 0 }) p; port = holding port port.last queue }

-- an end of slot
unfoldable pub end_of_slot_call : PortState → PortOutcome
end_of_slot_call port = unless_refused (sound_refusal (sound port)) port (slot_end port (queue_of port))
