-- What each live call is once its tests are known: the first that fails is the refusal, and where none fails the call does its work.
use Prim.Native.Nat.{ℕ, ◌≤◌, ◌<◌}
use mathlib.Core.Path.{◌≡◌, refl, sym, ap, ◌∙◌}
use mathlib.Core.Bool.{true, false}
use mathlib.Core.List.{List, [], ◌∷◌}
use native.Mathlib.Omega.{arith}
use lib.ListN.{length, get_or, take}
use borrow.Author.Tests.{lt-ltb, le-ltb}
use Rattle.model.specs.declared.Beta.{Beta}
use Rattle.model.specs.declared.Packet.{Packet}
use Rattle.model.specs.declared.Fate.TheVariants as fates
use Rattle.model.specs.Limits.{port_limits}
use Rattle.model.specs.Packets.{nobody, values_of}
use Rattle.model.specs.Record.{fate_number}
use Rattle.model.specs.Course.{Decided}
use Rattle.model.specs.Rules.{or_else}
use Rattle.model.specs.Policies.Greedy.{without}
use Rattle.model.specs.Answers.{port_says}
use Rattle.model.specs.Refusals.{value_ok, room_ok, beta_ok, making_refusal, arrival_refusal}
use Rattle.model.specs.Port.{PortState, PortOutcome, packets_of, queue_of, holding, fresh, zero_port, sound, unless_refused, says_of, next_packet, slot_end, make_call, arrive_call, end_of_slot_call}
use Rattle.model.specs.declared.Rule.TheVariants.{PG}
use Rattle.queue.specs.declared.Choice.{Choice}
use Rattle.queue.specs.Choose.{choose, applied}
use Rattle.queue.proofs.Choose.{decided_pg}
use Rattle.port.specs.State.{refusing}
use Rattle.port.proofs.Parts.{sound_parts, queue_short}

module _ (room : ℕ) (beta : Beta) where
  pub making_room : room_ok room ≡ false → refusing 3 zero_port ≡ make_call room beta
  unfolding make_call making_refusal or_else unless_refused
  making_room r = rw r refl

  pub making_beta : room_ok room ≡ true → beta_ok beta ≡ false → refusing 4 zero_port ≡ make_call room beta
  unfolding make_call making_refusal or_else unless_refused
  making_beta r b = rw (r, b) refl

  pub making_done : room_ok room ≡ true → beta_ok beta ≡ true → record { reply = port_says 0 (record { 0 = 0 }) nobody; port = fresh room beta } ≡ make_call room beta
  unfolding make_call making_refusal or_else unless_refused
  making_done r b = rw (r, b) refl

module _ (port : PortState) where
  module _ (value : ℕ) where
    pub arrival_unsound : sound port ≡ false → refusing 8 port ≡ arrive_call port value
    unfolding arrive_call arrival_refusal or_else unless_refused
    arrival_unsound s = rw s refl

    pub arrival_value : sound port ≡ true → value_ok value ≡ false → refusing 6 port ≡ arrive_call port value
    unfolding arrive_call arrival_refusal or_else unless_refused
    arrival_value s v = rw (s, v) refl

    pub arrival_spent : sound port ≡ true → value_ok value ≡ true → port_limits.number ≤ port.last.0 → refusing 7 port ≡ arrive_call port value
    unfolding arrive_call arrival_refusal or_else unless_refused
    arrival_spent s v n = rw (s, v, le-ltb _ _ n) refl

    -- what becomes of the arrival under a choice
    abbrev pub chosen : Packet → Choice → PortOutcome
    chosen p choice =
        let step = applied choice (queue_of port) p in
        record { reply = says_of p.number step.decision; port = holding port p.number step.queue }

    pub arrival_done : sound port ≡ true → value_ok value ≡ true → port.last.0 < port_limits.number
        → arrive_call port value ≡ chosen (next_packet port value) (choose port.room (PG port.beta) (values_of (queue_of port)) value)
    unfolding arrive_call arrival_refusal or_else unless_refused
    arrival_done s v n =
        let p = next_packet port value in
        rw (s, v, lt-ltb _ _ n)
        (ap (λ (step : Decided). record { reply = says_of p.number step.decision; port = holding port p.number step.queue })
        (decided_pg port.room port.beta (queue_of port) p (queue_short port (sound_parts port s))))

  pub slot_unsound : sound port ≡ false → refusing 8 port ≡ end_of_slot_call port
  unfolding end_of_slot_call unless_refused
  slot_unsound s = rw s refl

  pub slot_done : sound port ≡ true → slot_end port (queue_of port) ≡ end_of_slot_call port
  unfolding end_of_slot_call unless_refused
  slot_done s = rw s refl

  pub queue_none : port.held ≡ 0 → queue_of port ≡ []
  unfolding packets_of
  queue_none none = ap (λ (held : ℕ). packets_of (take held port.numbers) (take held port.values)) none

  pub slot_idle : sound port ≡ true → port.held ≡ 0 → record { reply = port_says 0 (record { 0 = 0 }) nobody; port = port } ≡ end_of_slot_call port
  slot_idle s none = sym (ap (slot_end port) (queue_none none)) ∙ slot_done s

  pub slot_sends : sound port ≡ true → 0 < length (queue_of port)
      → record {
        reply = port_says (fate_number fates.Sent) (record { 0 = 0 }) (get_or (queue_of port) 0 nobody);
        port = holding port port.last (without 0 (queue_of port));
      }
      ≡ end_of_slot_call port
  slot_sends s some = sends (queue_of port) some ∙ slot_done s
    where
      sends : (queue : List Packet) → 0 < length queue
          → record {
            reply = port_says (fate_number fates.Sent) (record { 0 = 0 }) (get_or queue 0 nobody);
            port = holding port port.last (without 0 queue);
          }
          ≡ slot_end port queue
      sends [] h = absurd (omega arith)
      sends (p ∷ queue) h = refl
