-- One live call, beside PG: a sound port whose queue is PG's answers an arrival as PG decides, and its queue is again PG's; the end of a slot sends the
-- oldest packet of that queue. Numbers agree because both count arrivals from 1, a rejected packet using one.
use Prim.Native.Nat.{ℕ, suc, ◌≤◌, ◌<◌}
use native.Mathlib.Omega.{arith}
use mathlib.Core.Path.{◌≡◌, refl, sym, ap, ap₂, subst, ◌∙◌}
use mathlib.Core.Bool.{true}
use mathlib.Core.List.{List, [], ◌∷◌}
use lib.ListN.{length}
use borrow.Author.Tests.{ltb-true}
use Rattle.model.specs.declared.Packet.{Packet}
use Rattle.model.specs.declared.PacketNumber.{PacketNumber}
use Rattle.model.specs.declared.Beta.{Beta}
use Rattle.model.specs.Limits.{port_limits}
use Rattle.model.specs.Packets.{Arrival}
use Rattle.model.specs.Course.{Decided, entries_of}
use Rattle.model.specs.Policies.PG.{pg_rule}
use Rattle.model.specs.Refusals.{value_ok}
use Rattle.model.specs.Answers.{PortReply}
use Rattle.model.specs.Port.{PortState, PortOutcome, sound, rises_from, queue_of, holding, says_of, next_packet, slot_end, arrive_call, end_of_slot_call}
use Rattle.port.proofs.Padded.{both}
use Rattle.port.proofs.Parts.{sound_parts}
use Rattle.port.proofs.Queues.{Holdable, sound_queue}
use Rattle.port.proofs.Holding.{queue_held}
use Rattle.port.proofs.Calls.{slot_done}
use Rattle.theorems.proofs.SoundPort.{slot_keeps, arrival_keeps, arrival_taken}
use Rattle.laws.proofs.Room.{roomy_pg}
use Rattle.checks.proofs.Tests.{within_to}
use Rattle.theorems.specs.Fed.{arrives}
use Rattle.theorems.proofs.FedLog.{Log, log_arrival}

module _ (room : ℕ) (beta : Beta) where
  -- the port is sound, has this room and beta, has given this number last, and holds this queue
  pub record Carries (last : ℕ) (queue : List Packet) (port : PortState) : Type 0 where
    pub is_sound : sound port ≡ true
    pub room_is : port.room ≡ room
    pub beta_is : port.beta ≡ beta
    pub last_is : port.last.0 ≡ last
    pub held_is : port.held ≡ length queue
    pub queue_is : queue_of port ≡ queue

  -- so does a port that was made to hold another queue, if it is sound
  holds : {last : ℕ} (port : PortState) (given : PacketNumber) (queue : List Packet) → port.room ≡ room → port.beta ≡ beta → given.0 ≡ last
      → sound (holding port given queue) ≡ true → length queue ≤ port_limits.room → Carries last queue (holding port given queue)
  unfolding holding
  holds port given queue r b l s short =
      record { is_sound = s; room_is = r; beta_is = b; last_is = l; held_is = refl; queue_is = queue_held port given queue short }

  -- a queue that a port carries is at most its room
  fits : {last : ℕ} {queue : List Packet} (port : PortState) → Carries last queue port → (length queue ≤ room) × (room ≤ port_limits.room)
  fits port C =
      let S = sound_parts port C.is_sound in
      let short = (sound_queue port S).short in
      let limit = within_to 1 port_limits.room port.room S.room_is_ok in
      (omega (arith, ap length C.queue_is, C.room_is), omega (arith, C.room_is))

  -- the end of a slot
  pub ended : {last : ℕ} {queue : List Packet} (port : PortState) → Carries last queue port → end_of_slot_call port ≡ slot_end port queue
  ended port C = sym (slot_done port C.is_sound) ∙ ap (slot_end port) C.queue_is

  pub ended_carries : {last : ℕ} {p : Packet} {queue : List Packet} (port : PortState) → Carries last (p ∷ queue) port
      → Carries last queue (holding port port.last queue)
  ended_carries {queue = queue} port C =
      holds port port.last queue C.room_is C.beta_is C.last_is
      (ap (λ (o : PortOutcome). sound o.port) (sym (ended port C)) ∙ slot_keeps port C.is_sound) (omega (arith, fits port C))

  -- the oldest packet that a port holds has a number from 1 on
  pub oldest_some : {last : ℕ} {p : Packet} {queue : List Packet} (port : PortState) → Carries last (p ∷ queue) port → 0 < p.number.0
  unfolding rises_from
  oldest_some port C =
      let H = subst (Holdable port.room port.last.0) C.queue_is (sound_queue port (sound_parts port C.is_sound)) in
      ltb-true _ _ (both _ _ (both _ _ H.numbers_rise).0).0

  -- an arrival: the port answers PG's decision, and its queue is PG's queue after it
  abbrev pub decides : List Packet → Packet → Decided
  decides queue p = pg_rule room beta queue p

  pub record Answered (last : ℕ) (a : Arrival) (queue : List Packet) (outcome : PortOutcome) : Type 0 where
    pub log : Log (arrives a.slot a.packet.value outcome.reply ∷ []) (entries_of a (decides queue a.packet).decision) (a ∷ []) a.slot.0 0
    pub carries : Carries (suc last) (decides queue a.packet).queue outcome.port

  pub answered : (last : ℕ) (a : Arrival) (queue : List Packet) (port : PortState) → Carries last queue port
      → a.packet.number ≡ record { 0 = suc last } → value_ok a.packet.value ≡ true → last < port_limits.number
      → Answered last a queue (arrive_call port a.packet.value)
  answered last a queue port C number ok few =
      let value = a.packet.value in
      let same-packet : next_packet port value ≡ a.packet =
      ap (λ (n : PacketNumber). record { number = n; value = value }) (ap (λ (k : ℕ). record { 0 = suc k }) C.last_is ∙ sym number) in
      let same_step : pg_rule port.room port.beta (queue_of port) (next_packet port value) ≡ decides queue a.packet =
      ap₂ (λ (r : ℕ) (b : Beta). pg_rule r b (queue_of port) (next_packet port value)) C.room_is C.beta_is
      ∙ ap₂ (pg_rule room beta) C.queue_is same-packet in
      let done : arrive_call port value
      ≡ record { reply = says_of a.packet.number (decides queue a.packet).decision; port = holding port a.packet.number (decides queue a.packet).queue } =
      arrival_taken port value C.is_sound ok (rw C.last_is few)
      ∙ ap₂ (λ (n : PacketNumber) (d : Decided). record { reply = says_of n d.decision; port = holding port n d.queue })
      (ap (λ (p : Packet). p.number) same-packet) same_step in
      let next = (decides queue a.packet).queue in
      let shorter : length next ≤ room = roomy_pg room beta a queue (fits port C).0 in
      record {
        log =
            subst (λ (r : PortReply). Log (arrives a.slot value r ∷ []) (entries_of a (decides queue a.packet).decision) (a ∷ []) a.slot.0 0)
            (ap (λ (o : PortOutcome). o.reply) (sym done))
            (log_arrival a (decides queue a.packet).decision (omega (arith, ap (λ (n : PacketNumber). n.0) number)));
        carries =
            subst (λ (q : PortState). Carries (suc last) next q) (sym (ap (λ (o : PortOutcome). o.port) done))
            (holds port a.packet.number next C.room_is C.beta_is (ap (λ (n : PacketNumber). n.0) number)
            (ap (λ (o : PortOutcome). sound o.port) (sym done) ∙ arrival_keeps port value C.is_sound) (omega (arith, fits port C)));
      }
