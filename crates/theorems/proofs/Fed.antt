-- Call by call the port does as PG, so it does through the ends of slots, the arrivals and the whole trace. The end of an idle slot changes nothing, so it
-- does no harm that PG's course passes over idle slots; and each end sends one packet, so as many ends as packets are held leave none.
use Prim.Native.Nat.{ℕ, zero, suc, ◌+◌, ◌≤◌, ◌<◌}
use native.Mathlib.Omega.{arith}
use mathlib.Core.Path.{◌≡◌, refl, sym, ap, subst, ◌∙◌}
use mathlib.Core.Bool.{true}
use mathlib.Core.List.{List, [], ◌∷◌}
use lib.ListN.{length, get_or}
use borrow.Author.Tests.{not-false}
use Rattle.model.specs.declared.Packet.{Packet}
use Rattle.model.specs.declared.Beta.{Beta}
use Rattle.std.specs.Prelude.{Ok}
use Rattle.model.specs.Limits.{port_limits, within}
use Rattle.model.specs.Packets.{packet_of, Arrival, arrivals_from, arrivals, slots_until}
use Rattle.model.specs.Record.{Entry, Lists, record_of}
use Rattle.model.specs.Course.{Step, by_rule, slot_ends, course}
use Rattle.model.specs.Policies.Greedy.{greedy_rule}
use Rattle.model.specs.Policies.PG.{pg_rule, preempted_at, pg_run}
use Rattle.model.specs.Refusals.{value_ok, lengths_refusal, packets_refusal, room_refusal, beta_refusal, pg_refusal, making_refusal, arrival_refusal}
use Rattle.model.specs.Rules.{or_else}
use Rattle.model.specs.Answers.{of_making}
use Rattle.model.specs.Calls.{run_unless, pg_call}
use Rattle.model.specs.Port.{PortState, PortOutcome, fresh, sound, all, rises_from, packets_of, holding, unless_refused, make_call, arrive_call, end_of_slot_call}
use Rattle.port.proofs.Calls.{making_done, queue_none, slot_idle}
use Rattle.theorems.proofs.SoundPort.{made_sound}
use Rattle.laws.specs.AtOnce.{pg_at_once}
use Rattle.laws.specs.Accepted.{Comes}
use Rattle.laws.proofs.Agree.{ends_same as ends-alike}
use Rattle.laws.proofs.Conserving.{conserving_pg, slot_ends_shorter}
use Rattle.laws.proofs.FirstFault.{or_else_zero, verdict_if_zero}
use Rattle.laws.proofs.Accepted.{pg_accepted}
use Rattle.theorems.specs.Fed.{Feed, ends_fed, fed_from, fed, PortDecidesAsPG, FedByHand}
use Rattle.theorems.proofs.FedLog.{Log, slot_at, log_append, log_none, log_idle, log_sent}
use Rattle.theorems.proofs.FedSteps.{Carries, ended, ended_carries, oldest_some, answered}

module _ (room : ℕ) (beta : Beta) where
  abbrev ends : ℕ → ℕ → List Packet → Step (List Packet)
  ends n now queue = slot_ends (by_rule (pg_rule room beta)) n (slot_at now) queue

  ends_quiet : (n now : ℕ) → ends n now [] ≡ record { entries = []; next = [] }
  unfolding slot_ends
  ends_quiet zero now = refl
  ends_quiet (suc n) now = refl

  record EndsSame (last n now : ℕ) (step : Step (List Packet)) (feed : Feed) : Type 0 where
    log : Log feed.calls step.entries [] now n
    carries : Carries room beta last step.next feed.port

  ends_same : (last n now : ℕ) (queue : List Packet) (port : PortState) → Carries room beta last queue port → EndsSame last n now (ends n now queue) (ends_fed n (slot_at now) port)
  unfolding ends_fed slot_ends
  ends_same last zero now queue port C = record { log = log_none now; carries = C }
  ends_same last (suc n) now [] port C =
      let rest = subst (λ (step : Step (List Packet)). EndsSame last n (suc now) step (ends_fed n (slot_at (suc now)) port)) (ends_quiet n (suc now))
      (ends_same last n (suc now) [] port C) in
      rw (ended room beta port C) (record { log = log_append (log_idle now) rest.log (omega arith) (omega arith); carries = rest.carries })
  ends_same last (suc n) now (p ∷ queue) port C =
      let rest = ends_same last n (suc now) queue (holding port port.last queue) (ended_carries room beta port C) in
      rw (ended room beta port C)
      (record { log = log_append (log_sent now p (oldest_some room beta port C)) rest.log (omega arith) (omega arith); carries = rest.carries })

  record FedSame (now : ℕ) (trace : List Arrival) (entries : List Entry) (feed : Feed) : Type 0 where
    n : ℕ
    log : Log feed.calls entries trace now n
    is_sound : sound feed.port ≡ true
    none_held : feed.port.held ≡ 0

  module _ (all : List ℕ) (few : length all ≤ port_limits.number) where
    fed_same : (last now : ℕ) (queue : List Packet) (port : PortState) (slots values : List ℕ) → Carries room beta last queue port
        → length values ≡ length slots → ((k : ℕ) → k < length values → value_ok (get_or values k 0) ≡ true) → Comes all now last (arrivals_from (suc last) slots values)
        → FedSame now (arrivals_from (suc last) slots values) (course (by_rule (pg_rule room beta)) (slot_at now) queue (arrivals_from (suc last) slots values))
        (fed_from (slot_at now) port (arrivals_from (suc last) slots values))
    unfolding fed_from course arrivals_from
    fed_same last now queue port [] values C same ok comes =
        let E = ends_same last port.held now queue port C in
        let none = slot_ends_shorter (conserving_pg room beta) port.held (slot_at now) queue in
        let alike = ap (λ (step : Step (List Packet)). length step.next) (ends-alike (pg_rule room beta) (pg_at_once room beta) port.held (slot_at now) queue) in
        record {
          n = port.held;
          log =
              subst (λ (k : ℕ). Log (ends_fed port.held (slot_at now) port).calls (ends k now queue).entries [] now port.held) C.held_is E.log;
          is_sound = E.carries.is_sound;
          none_held = omega (arith, E.carries.held_is, C.held_is);
        }
    fed_same last now queue port (s ∷ slots) [] C same ok comes = absurd (omega arith)
    fed_same last now queue port (s ∷ slots) (v ∷ values) C same ok comes =
        let a : Arrival = record { slot = slot_at s; packet = packet_of (suc last) v } in
        let gap = slots_until (slot_at now) a.slot in
        let E = ends_same last gap now queue port C in
        let before = ends_fed gap (slot_at now) port in
        let step = ends gap now queue in
        let A = answered room beta last a step.next before.port E.carries refl (ok 0 (omega arith)) (omega (arith, comes.0.counted)) in
        let rest = fed_same (suc last) s _ _ slots values A.carries (omega arith) (λ k h. ok (suc k) (omega arith)) comes.1 in
        record {
          n = gap + rest.n;
          log =
              log_append {m = rest.n} E.log (log_append A.log rest.log (omega arith) (omega arith))
              (omega (arith, comes.0.later)) (omega arith);
          is_sound = rest.is_sound;
          none_held = rest.none_held;
        }

-- the making is not refused, and the port carries the empty queue
making : (slots values : List ℕ) (room : ℕ) (beta : Beta) (lists : Lists) → (pg_refusal beta slots values room lists).number ≡ 0
    → record { reply = of_making (Ok tt); port = fresh room beta } ≡ make_call room beta
unfolding pg_refusal
making slots values room beta lists e =
    let one = or_else_zero (lengths_refusal slots values lists) _ e in
    let two = or_else_zero (packets_refusal slots) _ one.1 in
    let three = or_else_zero (room_refusal room) _ two.1 in
    let four = or_else_zero (beta_refusal beta) _ three.1 in
    making_done room beta (not-false _ (verdict_if_zero _ 2 0 three.0)) (not-false _ (verdict_if_zero _ 3 0 four.0))

made_carries : (room : ℕ) (beta : Beta) → record { reply = of_making (Ok tt); port = fresh room beta } ≡ make_call room beta
    → Carries room beta 0 [] (make_call room beta).port
unfolding packets_of
made_carries room beta done =
    subst (Carries room beta 0 []) (ap (λ (o : PortOutcome). o.port) done)
    (record {
      is_sound = ap (λ (o : PortOutcome). sound o.port) done ∙ made_sound room beta (ap (λ (o : PortOutcome). o.reply.number) (sym done));
      room_is = refl;
      beta_is = refl;
      last_is = refl;
      held_is = refl;
      queue_is = refl;
    })

-- what PG's call leaves where it is not refused
left_by_pg : (slots values : List ℕ) (room : ℕ) (beta : Beta) (lists : Lists) → (pg_refusal beta slots values room lists).number ≡ 0
    → (pg_call slots values room beta lists).lists ≡ record_of (length slots) (pg_run room beta (arrivals slots values))
unfolding pg_call run_unless
left_by_pg slots values room beta lists e = rw e refl

pub port_decides_as_pg : PortDecidesAsPG
port_decides_as_pg slots values room beta lists e =
    let T = pg_accepted slots values room lists beta e in
    let done = making slots values room beta lists e in
    let F = fed_same room beta slots (omega (arith, T.few)) 0 1 [] (make_call room beta).port slots values (made_carries room beta done) T.lengths
    (λ k h. T.packets.taken k (rw T.lengths at h)) T.comes in
    record {
      made = ap (λ (o : PortOutcome). o.reply) (sym done);
      none_refused = F.log.none_refused;
      numbers = F.log.numbers;
      every_slot = (F.n, F.log.slots);
      held_none = F.none_held;
      queue_empty = queue_none (fed slots values room beta).port F.none_held;
      then_idle = sym (slot_idle _ F.is_sound F.none_held);
      entries = F.log.tells;
      left = ap (record_of (length slots)) F.log.tells ∙ sym (left_by_pg slots values room beta lists e);
    }

pub fed_by_hand : FedByHand
unfolding arrivals_from fed_from ends_fed make_call making_refusal arrive_call arrival_refusal end_of_slot_call unless_refused or_else within
    sound all rises_from packets_of holding pg_rule preempted_at greedy_rule
fed_by_hand = refl
