-- Soundness is kept: a call leaves a queue that a sound port can hold, in places that are zero behind it; and an empty queue is shorter than any room.
use Prim.Native.Nat.{ℕ, ◌<◌}
use mathlib.Core.Path.{◌≡◌, refl, sym, ap, subst, ◌∙◌}
use mathlib.Core.Bool.{Bool, true, false}
use mathlib.Core.List.{List, [], ◌∷◌}
use native.Mathlib.Omega.{arith}
use lib.ListN.{length, length-map}
use lib.Dec.{ltb}
use borrow.Author.Tests.{ltb-true, ltb-false, lt-ltb}
use Rattle.model.specs.declared.Beta.{Beta}
use Rattle.model.specs.declared.Packet.{Packet}
use Rattle.model.specs.declared.PacketNumber.{PacketNumber}
use Rattle.model.specs.declared.LossKind.TheVariants.{PushedOut, Preempted}
use Rattle.model.specs.Limits.{port_limits}
use Rattle.model.specs.Packets.{nobody, values_of}
use Rattle.model.specs.Refusals.{value_ok, room_ok, beta_ok, arrival_refusal}
use Rattle.model.specs.Rules.{or_else}
use Rattle.model.specs.Policies.PG.{preempted_at, pg_rule}
use Rattle.model.specs.Port.{PortState, PortOutcome, queue_of, fresh, holding, all, rises_from, sound, slot_end, says_of, next_packet, unless_refused, make_call, arrive_call}
use Rattle.model.specs.declared.Rule.TheVariants.{PG}
use Rattle.queue.specs.declared.Choice.{Choice}
use Rattle.queue.specs.declared.Choice.TheVariants.{Hold, Reject, Lose}
use Rattle.queue.specs.Choose.{choose, greedy_choice}
use Rattle.theorems.specs.SoundPort.{MadeSound, ArrivalKeeps, SlotKeeps, NeverUnsound, EmptyHolds}
use Rattle.port.proofs.Padded.{zeros_pass}
use Rattle.port.proofs.Holding.{front, behind}
use Rattle.port.proofs.Parts.{Sound, sound_parts, parts_sound, room_some}
use Rattle.port.proofs.Calls.{making_room, making_beta, making_done, arrival_value, arrival_spent, arrival_done, chosen, slot_done, queue_none}
use Rattle.port.proofs.Choices.{choice_allowed, Allowed}
use Rattle.port.proofs.Queues.{Holdable, sound_queue, holdable_without, holdable_applied}

-- a sound port with another queue that it can hold
holding_sound : (port : PortState) → Sound port → (last : PacketNumber) (queue : List Packet) → Holdable port.room last.0 queue
    → sound (holding port last queue) ≡ true
unfolding holding
holding_sound port S last queue H =
    parts_sound (holding port last queue)
    (record {
      room_is_ok = S.room_is_ok;
      beta_is_ok = S.beta_is_ok;
      held_fits = H.short;
      values_ok = ap (all value_ok) (front queue (λ (p : Packet). p.value)) ∙ H.values_ok;
      numbers_rise = ap (rises_from 0 last.0) (front queue (λ (p : Packet). p.number.0)) ∙ H.numbers_rise;
      values_zero = behind queue (λ (p : Packet). p.value);
      numbers_zero = behind queue (λ (p : Packet). p.number.0);
    })

fresh_sound : (room : ℕ) (beta : Beta) → room_ok room ≡ true → beta_ok beta ≡ true → sound (fresh room beta) ≡ true
unfolding all rises_from
fresh_sound room beta r b =
    parts_sound (fresh room beta)
    (record {
      room_is_ok = r;
      beta_is_ok = b;
      held_fits = omega arith;
      values_ok = refl;
      numbers_rise = refl;
      values_zero = zeros_pass port_limits.room;
      numbers_zero = zeros_pass port_limits.room;
    })

abbrev port_of : PortOutcome → PortState
port_of outcome = outcome.port

abbrev number_of : PortOutcome → ℕ
number_of outcome = outcome.reply.number

pub made_sound : MadeSound
made_sound room beta made = go (room_ok room) refl (beta_ok beta) refl
  where
    go : (r : Bool) → room_ok room ≡ r → (b : Bool) → beta_ok beta ≡ b → sound (make_call room beta).port ≡ true
    go false r b e = absurd (omega (arith, ap number_of (making_room room beta r)))
    go true r false b = absurd (omega (arith, ap number_of (making_beta room beta r b)))
    go true r true b = ap (λ (o : PortOutcome). sound o.port) (sym (making_done room beta r b)) ∙ fresh_sound room beta r b

-- an arrival at a sound port: refused with 6 or 7, or PG's choice is made
arrival_cases : (G : PortOutcome → Type 0) (port : PortState) (value : ℕ) → sound port ≡ true
    → ((number : ℕ) → number < 8 → G (record { reply = record { number = number; place = 0; given = record { 0 = 0 }; packet = nobody }; port = port }))
    → (value_ok value ≡ true → (choice : Choice) → Allowed port.room (length (queue_of port)) choice → G (chosen port value (next_packet port value) choice))
    → G (arrive_call port value)
arrival_cases G port value s refused done = go (value_ok value) refl (ltb port.last.0 port_limits.number) refl
  where
    go : (v : Bool) → value_ok value ≡ v → (n : Bool) → ltb port.last.0 port_limits.number ≡ n → G (arrive_call port value)
    go false v n e = subst G (arrival_value port value s v) (refused 6 (omega arith))
    go true v false n = subst G (arrival_spent port value s v (ltb-false _ _ n)) (refused 7 (omega arith))
    go true v true n =
        let queue = queue_of port in
        let choice = choose port.room (PG port.beta) (values_of queue) value in
        let allowed : Allowed port.room (length queue) choice =
        subst (λ (k : ℕ). Allowed port.room k choice) (length-map queue (λ (p : Packet). p.value))
        (choice_allowed port.room (PG port.beta) (values_of queue) value) in
        subst G (sym (arrival_done port value s v (ltb-true _ _ n))) (done v choice allowed)

pub arrival_keeps : ArrivalKeeps
arrival_keeps port value s =
    arrival_cases (λ o. sound o.port ≡ true) port value s (λ number small. s)
    (λ ok choice allowed.
    let S = sound_parts port s in
    holding_sound port S _ _ (holdable_applied port.room port.last.0 (queue_of port) (sound_queue port S) value ok choice allowed))

-- an end of slot at a sound port: nothing is held and nothing changes, or the oldest packet is sent
slot_keeps_queue : (port : PortState) → Sound port → (queue : List Packet) → Holdable port.room port.last.0 queue → sound (slot_end port queue).port ≡ true
slot_keeps_queue port S [] H = parts_sound port S
slot_keeps_queue port S (p ∷ queue) H = holding_sound port S port.last queue (holdable_without port.room port.last.0 (p ∷ queue) H 0)

pub slot_keeps : SlotKeeps
slot_keeps port s =
    let S = sound_parts port s in
    ap (λ (o : PortOutcome). sound o.port) (sym (slot_done port s)) ∙ slot_keeps_queue port S (queue_of port) (sound_queue port S)

pub never_unsound : NeverUnsound
never_unsound port value s = (
  arrival_cases (λ o. o.reply.number ≡ 8 → ⊥) port value s (λ number small e. omega arith) (λ ok choice allowed. says choice),
  λ e. ends (queue_of port) (ap number_of (slot_done port s) ∙ e),
)
  where
    says : (choice : Choice) → (chosen port value (next_packet port value) choice).reply.number ≡ 8 → ⊥
    says Hold e = omega arith
    says Reject e = omega arith
    says (Lose place PushedOut) e = omega arith
    says (Lose place Preempted) e = omega arith

    ends : (queue : List Packet) → (slot_end port queue).reply.number ≡ 8 → ⊥
    ends [] e = omega arith
    ends (p ∷ queue) e = omega arith

-- with nothing held there is nothing to preempt, and there is room
pub empty_holds : EmptyHolds
unfolding choose greedy_choice preempted_at
empty_holds port value s none ok left =
    let room = room_some port.room (sound_parts port s).room_is_ok in
    let hold : choose port.room (PG port.beta) (values_of (queue_of port)) value ≡ Hold =
    ap (λ (q : List Packet). choose port.room (PG port.beta) (values_of q) value) (queue_none port none) ∙ rw (lt-ltb 0 port.room room) refl in
    ap (λ (o : PortOutcome). o.reply) (arrival_done port value s ok left)
    ∙ ap (λ (c : Choice). (chosen port value (next_packet port value) c).reply) hold

-- an arrival that is not refused
pub arrival_taken : (port : PortState) (value : ℕ) → sound port ≡ true → value_ok value ≡ true → port.last.0 < port_limits.number
    → arrive_call port value
    ≡ (let p = next_packet port value in
    let step = pg_rule port.room port.beta (queue_of port) p in
    record { reply = says_of p.number step.decision; port = holding port p.number step.queue })
unfolding arrive_call arrival_refusal or_else unless_refused
arrival_taken port value s v n = rw (s, v, lt-ltb _ _ n) refl
