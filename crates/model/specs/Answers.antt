-- What each answer of a call says in 01's numbers: for every case of every answer enum its number, its place and its values. A case to which 01 gives
-- no number has 0. The promises of all calls speak through these. The kinds Reply and PortReply are declared in src/lib.rt, which says what
-- their numbers are.
use Rattle.std.specs.Prelude.{ℕ, ⊤, Option, Some, None, Result, Ok, Err}
use Rattle.model.specs.declared.PacketNumber.{PacketNumber}
use Rattle.model.specs.declared.Packet.{Packet}
use Rattle.model.specs.declared.Reply as reply
use Rattle.model.specs.declared.PortReply as port-reply
use Rattle.model.specs.declared.Fate.TheVariants as fates
use Rattle.model.specs.declared.Totals.{Totals}
use Rattle.model.specs.declared.Refusal.{Refusal}
use Rattle.model.specs.declared.AuditError.{AuditError}
use Rattle.model.specs.declared.AuditError.TheVariants as audit
use Rattle.model.specs.declared.ArrivalAnswer.{ArrivalAnswer}
use Rattle.model.specs.declared.ArrivalAnswer.TheVariants as arrival
use Rattle.model.specs.Packets.{nobody}
pub use Rattle.model.specs.Numbers.{cause_number, fault_number}
use Rattle.model.specs.Numbers.{fate_number}
use Rattle.model.specs.Record.{loss_fate}
use Rattle.model.specs.Totals.{no_totals}

-- what a call on a trace says
abbrev pub Reply : Type 0
Reply = reply.Reply

-- what a live call says
abbrev pub PortReply : Type 0
PortReply = port-reply.PortReply

-- what a policy or the offline plan answers
abbrev pub of_run : Result Totals Refusal → Reply
of_run (Ok t) = record { number = 0; place = 0; totals = t }
of_run (Err f) = record { number = cause_number f.cause; place = f.place; totals = no_totals }

-- what the audit answers: where it names a fault its totals are all 0
abbrev pub of_audit : Result Totals AuditError → Reply
of_audit (Ok t) = record { number = 0; place = 0; totals = t }
of_audit (Err (audit.Faulty f)) = record { number = fault_number f.fault; place = f.packet.0; totals = no_totals }
of_audit (Err (audit.Refused f)) = record { number = cause_number f.cause; place = f.place; totals = no_totals }

-- a refusal of a live call
abbrev pub port_refused : ℕ → ℕ → PortReply
port_refused number place = record { number = number; place = place; given = record { 0 = 0 }; packet = nobody }

-- a live call that was not refused
abbrev pub port_says : ℕ → PacketNumber → Packet → PortReply
port_says number given packet = record { number = number; place = 0; given = given; packet = packet }

-- what a live arrival answers
abbrev pub of_arrival : Result ArrivalAnswer Refusal → PortReply
of_arrival (Ok (arrival.Held n)) = port_says 0 n nobody
of_arrival (Ok (arrival.HeldLosing n l)) = port_says (fate_number (loss_fate l.kind)) n l.packet
of_arrival (Ok (arrival.Rejected n)) = port_says (fate_number fates.Rejected) n nobody
of_arrival (Err f) = port_refused (cause_number f.cause) f.place

-- what a live end of slot answers: the packet that is sent, or none where the slot is idle
abbrev pub of_slot : Result (Option Packet) Refusal → PortReply
of_slot (Ok (Some p)) = port_says (fate_number fates.Sent) (record { 0 = 0 }) p
of_slot (Ok None) = port_says 0 (record { 0 = 0 }) nobody
of_slot (Err f) = port_refused (cause_number f.cause) f.place

-- what the making of a port answers
abbrev pub of_making : Result ⊤ Refusal → PortReply
of_making (Ok _) = port_says 0 (record { 0 = 0 }) nobody
of_making (Err f) = port_refused (cause_number f.cause) f.place
