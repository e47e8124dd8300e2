-- A fresh live port that is fed a trace slot by slot decides as PG's run does. The feed ends every slot, idle or not, and after the last arrival it ends
-- slots until nothing is held. What the port told, written as a record, is the three lists that PG's call leaves. The proof is in proofs/Fed.antt.
use Rattle.std.specs.Prelude.{ℕ, zero, suc, ◌≡◌, cond, Some, None, Ok, length, eqb}
use mathlib.Core.List.{List, [], ◌∷◌, ◌++◌, flat_map}
use Rattle.model.specs.declared.Slot.{Slot}
use Rattle.model.specs.declared.Beta.{Beta}
use Rattle.model.specs.declared.Cause.{Cause}
use Rattle.model.specs.declared.Fate.TheVariants as fates
use Rattle.model.specs.declared.LossKind.TheVariants as kinds
use Rattle.model.specs.declared.ArrivalAnswer.TheVariants as arrival
use Rattle.model.specs.Packets.{packet_of, Arrival, arrivals, slots_until, following}
use Rattle.model.specs.Record.{Entry, Lists, fate_number, sent_at, rejected_at, lost_to, record_of}
use Rattle.model.specs.Course.{first}
use Rattle.model.specs.Policies.PG.{pg_run}
use Rattle.model.specs.Refusals.{pg_refusal, making_refusal, arrival_refusal, sound_refusal}
use Rattle.model.specs.Answers.{PortReply, cause_number, port_refused, of_arrival, of_slot, of_making}
use Rattle.model.specs.Port.{PortState, sound, queue_of, make_call, arrive_call, end_of_slot_call}
use Rattle.model.specs.Calls.{pg_call}

-- a call that the feed makes, and the port's answer: in this slot a packet of this value arrives, or this slot ends
pub data Call : Type 0 where
  arrives : Slot → ℕ → PortReply → Call
  ends : Slot → PortReply → Call

-- the calls of a feed in order, and the port that the last of them hands back
pub record Feed : Type 0 where
  pub calls : List Call
  pub port : PortState

-- n slots end from now on: the end of each is called, idle or not
unfoldable pub ends_fed : ℕ → Slot → PortState → Feed
ends_fed zero now port = record { calls = []; port = port }
ends_fed (suc n) now port =
    let done = end_of_slot_call port in
    let rest = ends_fed n (following now) done.port in
    record { calls = ends now done.reply ∷ rest.calls; port = rest.port }

-- a trace is fed from slot `now` on: the slots before the next packet's end, and it arrives. After the last arrival as many slots end as packets are held,
-- which leaves none
unfoldable pub fed_from : Slot → PortState → List Arrival → Feed
fed_from now port [] = ends_fed port.held now port
fed_from now port (a ∷ trace) =
    let before = ends_fed (slots_until now a.slot) now port in
    let done = arrive_call before.port a.packet.value in
    let rest = fed_from a.slot done.port trace in
    record {
      calls = before.calls ++ (arrives a.slot a.packet.value done.reply ∷ rest.calls);
      port = rest.port;
    }

-- a trace fed to a port that was just made
abbrev pub fed : List ℕ → List ℕ → ℕ → Beta → Feed
fed slots values room beta = fed_from first (make_call room beta).port (arrivals slots values)

-- an answer that is a refusal: it has the number of one of 01's causes, a place, and nothing else
abbrev pub Refuses : PortReply → Type 0
Refuses reply = (cause : Cause) × ((place : ℕ) × (reply ≡ port_refused (cause_number cause) place))

-- what the port answers to a call
abbrev pub answer_of : Call → PortReply
answer_of (arrives now value reply) = reply
answer_of (ends now reply) = reply

-- none of these calls is refused
abbrev pub NoneRefused : List Call → Type 0
NoneRefused [] = Unit {0}
NoneRefused (call ∷ calls) = (Refuses (answer_of call) → ⊥) × NoneRefused calls

-- a packet under the number that the port gave it
abbrev pub numbered : Slot → ℕ → PortReply → Arrival
numbered now value reply = record { slot = now; packet = record { number = reply.given; value = value } }

-- the packet that arrives with a call
abbrev pub arrival_in : Call → List Arrival
arrival_in (arrives now value reply) = numbered now value reply ∷ []
arrival_in (ends now reply) = []

-- the slot that a call ends
abbrev pub end_in : Call → List Slot
end_in (arrives now value reply) = []
end_in (ends now reply) = now ∷ []

-- n slots from this one on, none left out
unfoldable pub slots_from : ℕ → Slot → List Slot
slots_from zero now = []
slots_from (suc n) now = now ∷ slots_from n (following now)

-- what a call's answer tells of packets that leave: rejected, another packet lost, or sent; held and idle tell of none
abbrev pub told : Call → List Entry
told (arrives now value reply) =
    let a = numbered now value reply in
    cond (eqb reply.number (fate_number fates.Rejected)) (rejected_at a ∷ [])
    (cond (eqb reply.number (fate_number fates.PushedOut))
    (lost_to a (record { packet = reply.packet; kind = kinds.PushedOut }) ∷ [])
    (cond (eqb reply.number (fate_number fates.Preempted))
    (lost_to a (record { packet = reply.packet; kind = kinds.Preempted }) ∷ [])
    []))
told (ends now reply) = cond (eqb reply.number (fate_number fates.Sent)) (sent_at now reply.packet ∷ []) []

-- what holds of a feed where PG's call accepts the trace
pub record AsPG (slots values : List ℕ) (room : ℕ) (beta : Beta) (lists : Lists) (feed : Feed) : Type 0 where
  -- the making answered made, and no call of the feed is refused
  pub made : (make_call room beta).reply ≡ of_making (Ok tt)
  pub none_refused : NoneRefused feed.calls
  -- each arrival's answer carries the number that the packet has in the trace, a held one's too
  pub numbers : flat_map arrival_in feed.calls ≡ arrivals slots values
  -- the slots that are ended are 1, 2, 3 and so on, none left out
  pub every_slot : (n : ℕ) × (flat_map end_in feed.calls ≡ slots_from n first)
  -- at the end nothing is held, and one end of slot more answers idle and hands back the same port
  pub held_none : feed.port.held ≡ 0
  pub queue_empty : queue_of feed.port ≡ []
  pub then_idle : end_of_slot_call feed.port ≡ record { reply = of_slot (Ok None); port = feed.port }
  -- what the port told are the entries of PG's run, in order
  pub entries : flat_map told feed.calls ≡ pg_run room beta (arrivals slots values)
  -- and written as a record the three lists that PG's call leaves
  pub left : record_of (length slots) (flat_map told feed.calls) ≡ (pg_call slots values room beta lists).lists

abbrev pub PortDecidesAsPG : Type 0
PortDecidesAsPG =
    (slots values : List ℕ) (room : ℕ) (beta : Beta) (lists : Lists)
    → (pg_refusal beta slots values room lists).number ≡ 0
    → AsPG slots values room beta lists (fed slots values room beta)

-- a refusal is seen as one: wherever the test of a making, of an arrival or of an end of slot names a refusal, the answer is one
abbrev pub RefusalSeen : Type 0
RefusalSeen =
    (room : ℕ) (beta : Beta) (port : PortState) (value : ℕ)
    → (((making_refusal room beta).number ≡ 0 → ⊥) → Refuses (make_call room beta).reply)
    × ((((arrival_refusal (sound port) port.last.0 value).number ≡ 0 → ⊥) → Refuses (arrive_call port value).reply)
    × (((sound_refusal (sound port)).number ≡ 0 → ⊥) → Refuses (end_of_slot_call port).reply))

-- a feed by hand: one packet in slot 1 and one in slot 4. Slots 2 and 3 are ended too, and are idle
abbrev pub FedByHand : Type 0
FedByHand =
    (fed (1 ∷ 4 ∷ []) (5 ∷ 7 ∷ []) 2 (record { num = 3; den = 1 })).calls
    ≡ arrives (record { 0 = 1 }) 5 (of_arrival (Ok (arrival.Held (record { 0 = 1 }))))
    ∷ ends (record { 0 = 1 }) (of_slot (Ok (Some (packet_of 1 5))))
    ∷ ends (record { 0 = 2 }) (of_slot (Ok None))
    ∷ ends (record { 0 = 3 }) (of_slot (Ok None))
    ∷ arrives (record { 0 = 4 }) 7 (of_arrival (Ok (arrival.Held (record { 0 = 2 }))))
    ∷ ends (record { 0 = 4 }) (of_slot (Ok (Some (packet_of 2 7))))
    ∷ []
