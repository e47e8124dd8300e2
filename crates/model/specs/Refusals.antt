-- 01, 'Refusals': each with its number and its place, and for each call their order. A refusal's place is 0 where none is named.
use Rattle.std.specs.Prelude.{ℕ, Bool, not, ◌&&◌, ◌||◌, List, [], ◌∷◌, length, leb, ltb, eqb}
use Rattle.model.specs.declared.Slot.{Slot}
use Rattle.model.specs.declared.Beta.{Beta}
use Rattle.model.specs.declared.Cause.{Cause}
use Rattle.model.specs.declared.Cause.TheVariants as causes
use Rattle.model.specs.Numbers.{cause_number}
use Rattle.model.specs.Limits.{record_limits, port_limits, within}
use Rattle.model.specs.Packets.{Arrival, arrivals}
use Rattle.model.specs.Record.{Lists}
use Rattle.model.specs.Rules.{Verdict, clear, or_else, verdict_if}
use Rattle.model.specs.declared.Marking.{Marking}

-- unless a test holds, this refusal, at this place
abbrev pub unless_at : Bool → Cause → ℕ → Verdict
unless_at test cause place = verdict_if (not test) (cause_number cause) place

-- unless a test holds, this refusal, with no place
abbrev pub unless : Bool → Cause → Verdict
unless test cause = unless_at test cause 0

-- a value is in range
abbrev pub value_ok : ℕ → Bool
value_ok v = within 1 record_limits.value v

-- each of num and den is in range, and num > den
abbrev pub beta_ok : Beta → Bool
beta_ok beta =
    within 1 port_limits.beta beta.num && within 1 port_limits.beta beta.den && ltb beta.den beta.num

abbrev pub room_ok : ℕ → Bool
room_ok room = within 1 port_limits.room room

-- lo and hi are values with lo < hi; r is in range
abbrev pub marking_ok : Marking → Bool
marking_ok M = value_ok M.lo && value_ok M.hi && ltb M.lo M.hi && leb M.r record_limits.r

-- a slot is in range and not below the one before
abbrev pub slot_ok : Slot → Slot → Bool
slot_ok before s = within 1 record_limits.slot s.0 && leb before.0 s.0

-- 1: two lists differ in length, record lists included
abbrev pub lengths_refusal : List ℕ → List ℕ → Lists → Verdict
lengths_refusal slots values lists =
    unless
    (eqb (length values) (length slots)
    && eqb (length lists.fates) (length slots)
    && eqb (length lists.whens) (length slots)
    && eqb (length lists.bys) (length slots))
    causes.Lengths

-- 2: more than 2,048 packets
abbrev pub packets_refusal : List ℕ → Verdict
packets_refusal slots = unless (leb (length slots) record_limits.packets) causes.Packets

-- 3: room out of range
abbrev pub room_refusal : ℕ → Verdict
room_refusal room = unless (room_ok room) causes.Room

-- 4: beta, or MF's lo, hi, r, out of range
abbrev pub beta_refusal : Beta → Verdict
beta_refusal beta = unless (beta_ok beta) causes.Parameters

abbrev pub marking_refusal : Marking → Verdict
marking_refusal M = unless (marking_ok M) causes.Parameters

-- 5: slot out of range or below the one before; 6: value out of range. They name the lowest packet with either, 5 first at one packet
unfoldable pub packet_refusal_from : (ℕ → Bool) → Slot → List Arrival → Verdict
packet_refusal_from ok before [] = clear
packet_refusal_from ok before (a ∷ trace) =
    or_else (unless_at (slot_ok before a.slot) causes.Slot a.packet.number.0)
    (or_else (unless_at (ok a.packet.value) causes.Value a.packet.number.0) (packet_refusal_from ok a.slot trace))

abbrev pub packet_refusal : (ℕ → Bool) → List ℕ → List ℕ → Verdict
packet_refusal ok slots values = packet_refusal_from ok (record { 0 = 0 }) (arrivals slots values)

-- 6 in MF: neither lo nor hi
abbrev pub lo_or_hi : Marking → ℕ → Bool
lo_or_hi M v = value_ok v && (eqb v M.lo || eqb v M.hi)

-- every call on a trace, in 01's order: 1, 2, 3, the call's own parameters, 5 and 6
abbrev pub trace_refusal : (own : Verdict) (ok : ℕ → Bool) → List ℕ → List ℕ → ℕ → Lists → Verdict
trace_refusal own ok slots values room lists =
    or_else (lengths_refusal slots values lists)
    (or_else (packets_refusal slots) (or_else (room_refusal room) (or_else own (packet_refusal ok slots values))))

-- plain greedy, the audit and the offline plan never give 4
unfoldable pub plain_refusal : List ℕ → List ℕ → ℕ → Lists → Verdict
plain_refusal = trace_refusal clear value_ok

unfoldable pub pg_refusal : Beta → List ℕ → List ℕ → ℕ → Lists → Verdict
pg_refusal beta = trace_refusal (beta_refusal beta) value_ok

unfoldable pub mf_refusal : Marking → List ℕ → List ℕ → ℕ → Lists → Verdict
mf_refusal M = trace_refusal (marking_refusal M) (lo_or_hi M)

-- making a port can give 3 or 4
unfoldable pub making_refusal : ℕ → Beta → Verdict
making_refusal room beta = or_else (room_refusal room) (beta_refusal beta)

-- 8: port not sound
abbrev pub sound_refusal : Bool → Verdict
sound_refusal sound = unless sound causes.Unsound

-- a live arrival: 8 first, then 6, then 7, numbers spent
unfoldable pub arrival_refusal : (sound : Bool) (last value : ℕ) → Verdict
arrival_refusal sound last value =
    or_else (sound_refusal sound) (or_else (unless (value_ok value) causes.Value) (unless (ltb last port_limits.number) causes.Spent))
