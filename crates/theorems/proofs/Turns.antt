-- One call on a sound port: it leaves a sound port and doesn't give 8; what was held before and what it gives out is what is held after and what it says gone.
-- An arrival gives out the number after the last, or is refused and changes nothing.
use Prim.Native.Nat.{ℕ, suc, ◌+◌, ◌≤◌, ◌<◌}
use native.Mathlib.Omega.{arith}
use mathlib.Core.Path.{◌≡◌, refl, sym, ap, subst, ◌∙◌}
use mathlib.Core.Bool.{Bool, true, false}
use mathlib.Core.List.{List, [], ◌∷◌, ◌++◌}
use lib.ListN.{length, get_or, length-append}
use lib.Dec.{ltb}
use borrow.Author.Tests.{ltb-true, ltb-false}
use Rattle.model.specs.declared.Cause.TheVariants.{Unsound}
use Rattle.model.specs.declared.LossKind.TheVariants.{PushedOut, Preempted}
use Rattle.model.specs.declared.Packet.{Packet}
use Rattle.model.specs.declared.PacketNumber.{PacketNumber}
use Rattle.model.specs.Limits.{port_limits}
use Rattle.model.specs.Packets.{Arrival, nobody}
use Rattle.model.specs.Course.{Decided, first}
use Rattle.model.specs.Policies.Greedy.{without}
use Rattle.model.specs.Policies.PG.{pg_rule}
use Rattle.model.specs.Refusals.{value_ok}
use Rattle.model.specs.Answers.{PortReply, cause_number}
use Rattle.model.specs.Port.{PortState, PortOutcome, sound, queue_of, holding, says_of, next_packet, slot_end, arrive_call, end_of_slot_call}
use Rattle.port.proofs.Parts.{sound_parts, room_fits}
use Rattle.port.proofs.Queues.{sound_queue}
use Rattle.port.proofs.Holding.{queue_held}
use Rattle.port.proofs.Calls.{arrival_value, arrival_spent, slot_done}
use Rattle.theorems.proofs.SoundPort.{slot_keeps, arrival_keeps, arrival_taken, never_unsound}
use Rattle.laws.specs.Times.{times, of_packet, times_held}
use Rattle.laws.proofs.Times.{times_append, times_without}
use Rattle.laws.proofs.Fifo.{Fair, holds, rejects, loses, pg_fair}
use Rattle.laws.proofs.Room.{roomy_pg}
use Rattle.laws.proofs.PG.{pg_at_once_lem}
use Rattle.laws.proofs.Lists.{length_without}
use Rattle.theorems.specs.Ledger.{Event, arrival, end_of_slot, call_on, given_by, gone_by, times_in}

holding_held : (port : PortState) (last : PacketNumber) (queue : List Packet) → (holding port last queue).held ≡ length queue
unfolding holding
holding_held port last queue = refl

holding_last : (port : PortState) (last : PacketNumber) (queue : List Packet) → (holding port last queue).last ≡ last
unfolding holding
holding_last port last queue = refl

-- what a call gives out: nothing, or the number after the last
pub data Gives (last : ℕ) : ℕ → List ℕ → Type 0 where
  none : Gives last last []
  next : Gives last (suc last) (suc last ∷ [])

-- what is given out and gone between two queues
pub record Turned (last : ℕ) (queue : List Packet) (given gone : List ℕ) (last' : ℕ) (queue' : List Packet) : Type 0 where
  pub gives : Gives last last' given
  pub balance : (n : ℕ) → times_held n queue + times_in n given ≡ times_held n queue' + times_in n gone
  pub so_many : length queue + length given ≡ length queue' + length gone

-- what one call does, from the queue held before it
pub record Turn (last : ℕ) (queue : List Packet) (e : Event) (o : PortOutcome) : Type 0 where
  pub held_is : o.port.held ≡ length (queue_of o.port)
  pub turned : Turned last queue (given_by e o.reply) (gone_by e o.reply) o.port.last.0 (queue_of o.port)

turn_holding : {last : ℕ} {before : List Packet} (port : PortState) (e : Event) (reply : PortReply) (number : PacketNumber) (queue : List Packet) →
    length queue ≤ port_limits.room → Turned last before (given_by e reply) (gone_by e reply) number.0 queue →
    Turn last before e (record { reply = reply; port = holding port number queue })
turn_holding port e reply number queue fits T =
    record {
      held_is = holding_held port number queue ∙ ap length (sym (queue_held port number queue fits));
      turned = rw (holding_last port number queue, queue_held port number queue fits) T;
    }

module _ (port : PortState) (value : ℕ) where
  abbrev p : Packet
  p = next_packet port value

  -- the packet at a place is lost and the arrival held
  lost : (place : ℕ) → place < length (queue_of port) →
      Turned port.last.0 (queue_of port) (p.number.0 ∷ []) ((get_or (queue_of port) place nobody).number.0 ∷ [])
      p.number.0 (without place (queue_of port) ++ p ∷ [])
  unfolding times
  lost place h =
      record {
        gives = next;
        balance = λ n.
            omega (arith, times_append of_packet n (without place (queue_of port)) (p ∷ []), times_without of_packet n place nobody (queue_of port) h);
        so_many = omega (arith, length-append (without place (queue_of port)) (p ∷ []), length_without place (queue_of port) h);
      }

  -- what a fair decision does
  decides : {d : Decided} → Fair (queue_of port) p d →
      Turned port.last.0 (queue_of port) (given_by (arrival value) (says_of p.number d.decision)) (gone_by (arrival value) (says_of p.number d.decision))
      p.number.0 d.queue
  unfolding times
  decides holds =
      record {
        gives = next;
        balance = λ n. omega (arith, times_append of_packet n (queue_of port) (p ∷ []));
        so_many = omega (arith, length-append (queue_of port) (p ∷ []));
      }
  decides rejects = record { gives = next; balance = λ n. refl; so_many = refl }
  decides (loses place PushedOut h) = lost place h
  decides (loses place Preempted h) = lost place h

-- a call that hands the port back and gives nothing out
turn_none : (port : PortState) (e : Event) (reply : PortReply) → port.held ≡ length (queue_of port) → given_by e reply ≡ [] → gone_by e reply ≡ []
    → Turn port.last.0 (queue_of port) e (record { reply = reply; port = port })
unfolding times
turn_none port e reply h a b = record { held_is = h; turned = rw (a, b) (record { gives = none; balance = λ n. refl; so_many = refl }) }

turn_arrival : (port : PortState) (value : ℕ) → sound port ≡ true → port.held ≡ length (queue_of port)
    → Turn port.last.0 (queue_of port) (arrival value) (arrive_call port value)
turn_arrival port value s h = go (value_ok value) refl (ltb port.last.0 port_limits.number) refl
  where
    go : (v : Bool) → value_ok value ≡ v → (n : Bool) → ltb port.last.0 port_limits.number ≡ n
        → Turn port.last.0 (queue_of port) (arrival value) (arrive_call port value)
    go false v n e = subst (Turn _ _ (arrival value)) (arrival_value port value s v) (turn_none port (arrival value) _ h refl refl)
    go true v false n = subst (Turn _ _ (arrival value)) (arrival_spent port value s v (ltb-false _ _ n)) (turn_none port (arrival value) _ h refl refl)
    go true v true n =
        let S = sound_parts port s in
        let p = next_packet port value in
        let a : Arrival = record { slot = first; packet = p } in
        let short = (sound_queue port S).short in
        let fair : Fair (queue_of port) p (pg_rule port.room port.beta (queue_of port) p) =
        rw (pg_at_once_lem port.room port.beta (queue_of port) p short) (pg_fair (queue_of port) p port.room port.beta) in
        let fits = roomy_pg port.room port.beta a (queue_of port) short in
        subst (Turn _ _ (arrival value)) (sym (arrival_taken port value s v (ltb-true _ _ n)))
        (turn_holding port (arrival value) _ p.number _ (omega (arith, fits, room_fits port.room S.room_is_ok))
        (decides port value fair))

turn_end : (port : PortState) → sound port ≡ true → port.held ≡ length (queue_of port) → Turn port.last.0 (queue_of port) end_of_slot (end_of_slot_call port)
unfolding times
turn_end port s h = subst (Turn _ _ end_of_slot) (slot_done port s) (go (queue_of port) refl)
  where
    go : (queue : List Packet) → queue_of port ≡ queue → Turn port.last.0 queue end_of_slot (slot_end port queue)
    go [] e = subst (λ (q : List Packet). Turn port.last.0 q end_of_slot (slot_end port [])) e (turn_none port end_of_slot _ h refl refl)
    go (p ∷ queue) e =
        let S = sound_parts port s in
        let short : length (p ∷ queue) ≤ port.room = rw e at (sound_queue port S).short in
        turn_holding port end_of_slot _ port.last queue (omega (arith, room_fits port.room S.room_is_ok))
        (record { gives = none; balance = λ n. omega arith; so_many = omega arith })

pub turn : (port : PortState) (e : Event) → sound port ≡ true → port.held ≡ length (queue_of port) → Turn port.last.0 (queue_of port) e (call_on port e)
turn port (arrival value) = turn_arrival port value
turn port end_of_slot = turn_end port

pub stays_sound : (port : PortState) (e : Event) → sound port ≡ true → sound (call_on port e).port ≡ true
stays_sound port (arrival value) = arrival_keeps port value
stays_sound port end_of_slot = slot_keeps port

pub no_8 : (port : PortState) (e : Event) → sound port ≡ true → (call_on port e).reply.number ≡ cause_number Unsound → ⊥
no_8 port (arrival value) s = (never_unsound port value s).0
no_8 port end_of_slot s = (never_unsound port 0 s).1
