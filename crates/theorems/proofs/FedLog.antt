-- A log of calls is read call by call, so what is known of two logs is known of the one after the other. A refusal names no packet and gives no number,
-- so an answer that does either, or that has number 0, is none.
use Prim.Native.Nat.{ℕ, zero, suc, ◌+◌, ◌<◌}
use native.Mathlib.Omega.{arith}
use mathlib.Core.Path.{◌≡◌, refl, sym, ap, ap₂, ◌∙◌}
use mathlib.Core.List.{List, [], ◌∷◌, ◌++◌, append_assoc, append-nil, flat_map}
use Rattle.model.specs.declared.Slot.{Slot}
use Rattle.model.specs.declared.Packet.{Packet}
use Rattle.model.specs.declared.PacketNumber.{PacketNumber}
use Rattle.model.specs.declared.Cause.{Cause}
use Rattle.model.specs.declared.Cause.TheVariants as causes
use Rattle.model.specs.declared.LossKind.{LossKind}
use Rattle.model.specs.declared.LossKind.TheVariants.{PushedOut, Preempted}
use Rattle.std.specs.Prelude.{Some, None, Ok}
use Rattle.model.specs.Packets.{Arrival, nobody}
use Rattle.model.specs.Record.{Entry, sent_at, lost_to}
use Rattle.model.specs.Course.{Decision, held, rejected, losing, entries_of}
use Rattle.model.specs.Answers.{PortReply, cause_number, of_slot}
use Rattle.model.specs.Port.{says_of}
use Rattle.theorems.specs.Fed.{Call, arrives, ends, Refuses, NoneRefused, arrival_in, end_in, slots_from, told}

abbrev pub slot_at : ℕ → Slot
slot_at now = record { 0 = now }

-- what these calls are: they tell these entries, are the arrivals of these packets and the ends of the n slots from `now` on, and none is refused
pub record Log (calls : List Call) (entries : List Entry) (packets : List Arrival) (now n : ℕ) : Type 0 where
  pub tells : flat_map told calls ≡ entries
  pub numbers : flat_map arrival_in calls ≡ packets
  pub slots : flat_map end_in calls ≡ slots_from n (slot_at now)
  pub none_refused : NoneRefused calls

flat_append : {X : Type 0} (f : Call → List X) (calls more : List Call) → flat_map f (calls ++ more) ≡ flat_map f calls ++ flat_map f more
unfolding flat_map
flat_append f [] more = refl
flat_append f (call ∷ calls) more = ap (λ l. f call ++ l) (flat_append f calls more) ∙ sym (append_assoc (f call) (flat_map f calls) (flat_map f more))

none_append : (calls more : List Call) → NoneRefused calls → NoneRefused more → NoneRefused (calls ++ more)
none_append [] more h k = k
none_append (call ∷ calls) more h k = (h.0, none_append calls more h.1 k)

slots_append : (n m now later k : ℕ) → later ≡ now + n → k ≡ n + m → slots_from n (slot_at now) ++ slots_from m (slot_at later) ≡ slots_from k (slot_at now)
unfolding slots_from
slots_append zero m now later k after all =
    let here : later ≡ now = omega arith in
    let same : m ≡ k = omega arith in
    ap₂ (λ (i j : ℕ). slots_from i (slot_at j)) same here
slots_append (suc n) m now later zero after all = absurd (omega arith)
slots_append (suc n) m now later (suc k) after all = ap (λ l. slot_at now ∷ l) (slots_append n m (suc now) later k (omega arith) (omega arith))

pub log_append : {calls more : List Call} {es fs : List Entry} {ps qs : List Arrival} {now later n m k : ℕ}
    → Log calls es ps now n → Log more fs qs later m → later ≡ now + n → k ≡ n + m → Log (calls ++ more) (es ++ fs) (ps ++ qs) now k
log_append {calls} {more} {now = now} {later} {n} {m} {k} L K after all =
    record {
      tells = flat_append told calls more ∙ ap₂ ◌++◌ L.tells K.tells;
      numbers = flat_append arrival_in calls more ∙ ap₂ ◌++◌ L.numbers K.numbers;
      slots = flat_append end_in calls more ∙ ap₂ ◌++◌ L.slots K.slots ∙ slots_append n m now later k after all;
      none_refused = none_append calls more L.none_refused K.none_refused;
    }

pub log_none : (now : ℕ) → Log [] [] [] now 0
unfolding flat_map slots_from
log_none now = record { tells = refl; numbers = refl; slots = refl; none_refused = tt }

cause_some : (cause : Cause) → 0 < cause_number cause
cause_some causes.Lengths = omega arith
cause_some causes.Packets = omega arith
cause_some causes.Room = omega arith
cause_some causes.Parameters = omega arith
cause_some causes.Slot = omega arith
cause_some causes.Value = omega arith
cause_some causes.Spent = omega arith
cause_some causes.Unsound = omega arith
cause_some causes.Text = omega arith

-- a refusal has a number, gives none and names no packet
refused_blank : (reply : PortReply) → Refuses reply → (0 < reply.number) × ((reply.given.0 ≡ 0) × (reply.packet.number.0 ≡ 0))
refused_blank reply r =
    let is = r.1.1 in
    let number : reply.number ≡ cause_number r.0 = cc in
    let given : reply.given ≡ record { 0 = 0 } = cc in
    let packet : reply.packet ≡ nobody = cc in
    (omega (arith, cause_some r.0), (ap (λ (n : PacketNumber). n.0) given, ap (λ (p : Packet). p.number.0) packet))

pub log_idle : (now : ℕ) → Log (ends (slot_at now) (of_slot (Ok None)) ∷ []) [] [] now 1
unfolding flat_map slots_from
log_idle now =
    record {
      tells = refl;
      numbers = refl;
      slots = refl;
      none_refused = (λ r. omega (arith, refused_blank _ r), tt);
    }

pub log_sent : (now : ℕ) (p : Packet) → 0 < p.number.0 → Log (ends (slot_at now) (of_slot (Ok (Some p))) ∷ []) (sent_at (slot_at now) p ∷ []) [] now 1
unfolding flat_map slots_from
log_sent now p some =
    record {
      tells = refl;
      numbers = refl;
      slots = refl;
      none_refused = (λ r. omega (arith, refused_blank _ r), tt);
    }

-- an arrival's answer carries the packet's number, and tells what the decision enters
given : (n : PacketNumber) (decision : Decision) → (says_of n decision).given ≡ n
given n held = refl
given n rejected = refl
given n (losing l) = refl

tells_decision : (a : Arrival) (decision : Decision) → told (arrives a.slot a.packet.value (says_of a.packet.number decision)) ≡ entries_of a decision
tells_decision a held = refl
tells_decision a rejected = refl
tells_decision a (losing l) = by_kind l.packet l.kind
  where
    by_kind : (p : Packet) (kind : LossKind)
        → told (arrives a.slot a.packet.value (says_of a.packet.number (losing (record { packet = p; kind = kind }))))
        ≡ lost_to a (record { packet = p; kind = kind }) ∷ []
    by_kind p PushedOut = refl
    by_kind p Preempted = refl

pub log_arrival : (a : Arrival) (decision : Decision) → 0 < a.packet.number.0
    → Log (arrives a.slot a.packet.value (says_of a.packet.number decision) ∷ []) (entries_of a decision) (a ∷ []) a.slot.0 0
unfolding flat_map slots_from
log_arrival a decision some =
    let same = given a.packet.number decision in
    record {
      tells = append-nil _ ∙ tells_decision a decision;
      numbers = ap (λ (n : PacketNumber). record { slot = a.slot; packet = record { number = n; value = a.packet.value } } ∷ []) same;
      slots = refl;
      none_refused = (λ r. omega (arith, ap (λ (n : PacketNumber). n.0) same, refused_blank _ r), tt);
    }
