-- The audit passes the record that any run writes and answers that run's totals: the lists are as long as before, so no refusal is new, and a record that
-- obeys the rules has no first fault.
use Prim.Native.Nat.{ℕ}
use mathlib.Core.Path.{◌≡◌, refl}
use mathlib.Core.Bool.{Bool, true}
use mathlib.Core.List.{List, [], ◌∷◌}
use lib.ListN.{length}
use borrow.Author.Tests.{not-false}
use Rattle.model.specs.declared.Beta.{Beta}
use Rattle.model.specs.declared.Slot.{Slot}
use Rattle.model.specs.Packets.{Arrival, arrivals}
use Rattle.model.specs.Record.{Entry, Lists, blank, record_of}
use Rattle.model.specs.Rules.{Verdict, clear, or_else, Obeys, buffer_of}
use Rattle.model.specs.Refusals.{beta_refusal, marking_refusal, value_ok, lo_or_hi, packet_refusal_from, trace_refusal, plain_refusal, pg_refusal, mf_refusal}
use Rattle.model.specs.Policies.Greedy.{greedy_run}
use Rattle.model.specs.Policies.PG.{pg_run}
use Rattle.model.specs.declared.Marking.{Marking}
use Rattle.model.specs.Policies.MF.{mf_run}
use Rattle.model.specs.Policies.Plan.{plan_run}
use Rattle.model.specs.Calls.{ran, run_unless, greedy_call, pg_call, mf_call, plan_call, audit_call}
use Rattle.laws.specs.Recorded.{Sized, recorded}
use Rattle.laws.specs.Accepted.{Accepted}
use Rattle.laws.proofs.FirstFault.{or_else_zero, verdict_if_zero, obeys_clear_from}
use Rattle.laws.proofs.Entered.{blank_sized, entered_sized}
use Rattle.laws.proofs.Accepted.{plain_accepted, pg_accepted, mf_accepted, lo_or_hi_ok}
use Rattle.laws.proofs.Lawful.{lawful_greedy, lawful_pg, lawful_plan}
use Rattle.laws.proofs.LawfulMF.{lawful_mf}

zero_or_else : (v w : Verdict) → v.number ≡ 0 → w.number ≡ 0 → (or_else v w).number ≡ 0
unfolding or_else
zero_or_else v w h k = rw h k

-- a stricter test of the values refuses no less
packet_refusal_looser : (ok looser : ℕ → Bool) → ((v : ℕ) → ok v ≡ true → looser v ≡ true) → (before : Slot) (trace : List Arrival) →
    (packet_refusal_from ok before trace).number ≡ 0 → (packet_refusal_from looser before trace).number ≡ 0
unfolding packet_refusal_from
packet_refusal_looser ok looser f before [] z = refl
packet_refusal_looser ok looser f before (a ∷ trace) z =
    let slot = or_else_zero _ _ z in
    let value = or_else_zero _ _ slot.1 in
    let passes = f a.packet.value (not-false _ (verdict_if_zero _ 5 _ value.0)) in
    zero_or_else _ _ slot.0 (zero_or_else _ _ (rw passes) (packet_refusal_looser ok looser f a.slot trace value.1))

-- a call that is not refused on some lists: the audit isn't refused on others of the right length
pub audit_unrefused : (own : Verdict) (ok : ℕ → Bool) → ((v : ℕ) → ok v ≡ true → value_ok v ≡ true) → (slots values : List ℕ) (room : ℕ) (lists after : Lists) →
    Sized (length slots) lists → Sized (length slots) after →
    (trace_refusal own ok slots values room lists).number ≡ 0 → (plain_refusal slots values room after).number ≡ 0
unfolding plain_refusal
audit_unrefused own ok f slots values room lists after x y z =
    let first = or_else_zero _ _ z in
    let second = or_else_zero _ _ first.1 in
    let third = or_else_zero _ _ second.1 in
    let fourth = or_else_zero _ _ third.1 in
    zero_or_else _ _ (rw (y.fates, y.whens, y.bys) (rw (x.fates, x.whens, x.bys) at first.0))
    (zero_or_else _ _ second.0 (zero_or_else _ _ third.0 (zero_or_else _ _ refl (packet_refusal_looser ok value_ok f _ _ fourth.1))))

-- the audit of a record that a run wrote
audit_ran : (slots values : List ℕ) (room : ℕ) (entries : List Entry) → (plain_refusal slots values room (record_of (length slots) entries)).number ≡ 0 →
    Obeys (buffer_of slots room) (recorded slots values entries) →
    audit_call slots values room (ran slots values entries).lists ≡ (ran slots values entries).reply
unfolding audit_call or_else
audit_ran slots values room entries z h = rw (z, obeys_clear_from _ [] (recorded slots values entries) h)

module _ (slots values : List ℕ) (room : ℕ) (lists : Lists) where
  -- a run that is not refused, whatever its own parameters and its test of the values
  audited : (own : Verdict) (ok : ℕ → Bool) → ((v : ℕ) → ok v ≡ true → value_ok v ≡ true) → (entries : List Entry) → Accepted ok slots values room lists →
      (trace_refusal own ok slots values room lists).number ≡ 0 → Obeys (buffer_of slots room) (recorded slots values entries) →
      audit_call slots values room (run_unless (trace_refusal own ok slots values room lists) lists (ran slots values entries)).lists
      ≡ (run_unless (trace_refusal own ok slots values room lists) lists (ran slots values entries)).reply
  unfolding run_unless
  audited own ok f entries A z h =
      let packets = length slots in
      let after = entered_sized packets entries (blank packets) (blank_sized packets) in
      rw z (audit_ran slots values room entries (audit_unrefused own ok f slots values room lists (record_of packets entries) A.sized after z) h)

  pub audit_greedy : (plain_refusal slots values room lists).number ≡ 0 →
      audit_call slots values room (greedy_call slots values room lists).lists ≡ (greedy_call slots values room lists).reply
  unfolding greedy_call plain_refusal
  audit_greedy z =
      audited clear value_ok (λ v h. h) (greedy_run room (arrivals slots values)) (plain_accepted slots values room lists z) z
      (lawful_greedy slots values room lists z).obeys

  pub audit_pg : (beta : Beta) → (pg_refusal beta slots values room lists).number ≡ 0 →
      audit_call slots values room (pg_call slots values room beta lists).lists ≡ (pg_call slots values room beta lists).reply
  unfolding pg_call pg_refusal
  audit_pg beta z =
      audited (beta_refusal beta) value_ok (λ v h. h) (pg_run room beta (arrivals slots values)) (pg_accepted slots values room lists beta z) z
      (lawful_pg slots values room lists beta z).obeys

  pub audit_mf : (M : Marking) → (mf_refusal M slots values room lists).number ≡ 0 →
      audit_call slots values room (mf_call slots values room M lists).lists ≡ (mf_call slots values room M lists).reply
  unfolding mf_call mf_refusal
  audit_mf M z =
      audited (marking_refusal M) (lo_or_hi M) (lo_or_hi_ok M) (mf_run room M slots values)
      (mf_accepted slots values room lists M z) z (lawful_mf slots values room lists M z).obeys

  pub audit_plan : (plain_refusal slots values room lists).number ≡ 0 →
      audit_call slots values room (plan_call slots values room lists).lists ≡ (plan_call slots values room lists).reply
  unfolding plan_call plain_refusal
  audit_plan z =
      audited clear value_ok (λ v h. h) (plan_run room (arrivals slots values)) (plain_accepted slots values room lists z) z
      (lawful_plan slots values room lists z).obeys
