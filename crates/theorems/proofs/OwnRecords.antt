-- An accepted call was not refused, so it leaves the record of its run's entries. Each packet is entered once, since no packet is made or unmade in a run and
-- the trace has each number once; so what the lists held before is gone. The record obeys the rules, so the audit passes it with the same totals.
use Prim.Native.Nat.{ℕ, zero, suc, ◌+◌, ◌≤◌, ◌<◌}
use native.Mathlib.Omega.{arith}
use mathlib.Core.Path.{◌≡◌, refl, sym, ap, ◌∙◌}
use mathlib.Core.Bool.{Bool}
use mathlib.Core.List.{List, [], ◌∷◌}
use lib.ListN.{length}
use Rattle.model.specs.Packets.{arrivals_from, arrivals}
use Rattle.model.specs.Record.{Entry, Lists, blank}
use Rattle.model.specs.Rules.{Verdict, clear}
use Rattle.model.specs.Refusals.{value_ok, lo_or_hi, beta_refusal, marking_refusal, trace_refusal, plain_refusal, pg_refusal, mf_refusal}
use Rattle.model.specs.Course.{first}
use Rattle.model.specs.Policies.MF.{unmarked}
use Rattle.model.specs.Policies.Plan.{plan_kept}
use Rattle.model.specs.Calls.{Outcome, ran, run_unless, greedy_call, pg_call, mf_call, plan_call, audit_call}
use Rattle.laws.specs.Times.{times, times_entered, times_arriving}
use Rattle.laws.specs.Recorded.{Sized}
use Rattle.laws.specs.Accepted.{Accepted}
use Rattle.laws.proofs.Cases.{eqb_cases}
use Rattle.laws.proofs.PG.{pg_run_lem}
use Rattle.laws.proofs.Entered.{EnteredOnce, blank_sized, entered_sized, entered_all}
use Rattle.laws.proofs.Conserving.{course_conserves, conserving_greedy, conserving_pg, conserving_kept, conserving_mf}
use Rattle.laws.proofs.WellFormed.{once_greedy, once_pg, once_mf, once_plan}
use Rattle.laws.proofs.Accepted.{accepted}
use Rattle.laws.proofs.Audited.{audit_greedy, audit_pg, audit_mf, audit_plan}
use Rattle.theorems.specs.OwnRecords.{Planner, greedy, pg, mf, plan, entries_by, call_by, OwnRecordsPass, OwnRecordsWritten, LentForgotten}
use Rattle.theorems.proofs.Within.{counts_within}
use Rattle.theorems.proofs.Answered.{not_refused}
use Rattle.theorems.proofs.PlainMF.{run_clear}

-- the refusal of a planner's own parameters, and its test of the values
abbrev own : Planner → Verdict
own greedy = clear
own (pg beta) = beta_refusal beta
own (mf M) = marking_refusal M
own plan = clear

abbrev taken : Planner → ℕ → Bool
taken greedy = value_ok
taken (pg beta) = value_ok
taken (mf M) = lo_or_hi M
taken plan = value_ok

-- an outcome with number 0 is no refusal's
verdict_zero : (v : Verdict) (lists : Lists) (outcome : Outcome) → (run_unless v lists outcome).reply.number ≡ 0 → v.number ≡ 0
unfolding run_unless
verdict_zero v lists outcome z = eqb_cases v.number 0 _ (λ t q. q) (λ t q. rw t at z)

once_below : {packets : ℕ} {entries : List Entry} (n : ℕ) → EnteredOnce packets entries → n < 1 → times_entered n entries ≡ 0
once_below zero O h = O.nobody
once_below (suc k) O h = absurd (omega arith)

once_among : {packets : ℕ} {entries : List Entry} (n : ℕ) → EnteredOnce packets entries → 1 ≤ n → n ≤ packets → times_entered n entries ≡ 1
once_among zero O h k = absurd (omega arith)
once_among (suc k) O h below = O.once k below

-- no number above the trace's arrives
arrivals_above : (m n : ℕ) (slots values : List ℕ) → n + length slots ≤ m → times_arriving m (arrivals_from n slots values) ≡ 0
unfolding arrivals_from times
arrivals_above m n [] values h = refl
arrivals_above m n (s ∷ slots) [] h = refl
arrivals_above m n (s ∷ slots) (v ∷ values) h =
    eqb_cases n m _ (λ t q. absurd (omega arith)) λ t q. rw t (omega (arith, arrivals_above m (suc n) slots values (omega arith)))

module _ (slots values : List ℕ) (room : ℕ) where
  abbrev refusal : Planner → Lists → Verdict
  refusal by lent = trace_refusal (own by) (taken by) slots values room lent

  abbrev outcome : Planner → Outcome
  outcome by = ran slots values (entries_by by slots values room)

  call_is : (by : Planner) (lent : Lists) → call_by by slots values room lent ≡ run_unless (refusal by lent) lent (outcome by)
  unfolding greedy_call pg_call mf_call plan_call plain_refusal pg_refusal mf_refusal
  call_is greedy lent = refl
  call_is (pg beta) lent = refl
  call_is (mf M) lent = refl
  call_is plan lent = refl

  -- the audit passes the record that a call left, where nothing was refused
  passes : (by : Planner) (lent : Lists) → (refusal by lent).number ≡ 0 → audit_call slots values room (call_by by slots values room lent).lists ≡ (call_by by slots values room lent).reply
  unfolding plain_refusal pg_refusal mf_refusal
  passes greedy lent z = audit_greedy slots values room lent z
  passes (pg beta) lent z = audit_pg slots values room lent beta z
  passes (mf M) lent z = audit_mf slots values room lent M z
  passes plan lent z = audit_plan slots values room lent z

  -- a run enters what arrives
  entered_arriving : (n : ℕ) (by : Planner) → times_entered n (entries_by by slots values room) ≡ 0 + times_arriving n (arrivals slots values)
  unfolding times
  entered_arriving n greedy = course_conserves (conserving_greedy room) n first [] (arrivals slots values)
  entered_arriving n (pg beta) =
      rw (pg_run_lem room beta (arrivals slots values)) (course_conserves (conserving_pg room beta) n first [] (arrivals slots values))
  entered_arriving n (mf M) = course_conserves (conserving_mf room M slots) n first (unmarked (length slots)) (arrivals slots values)
  entered_arriving n plan = course_conserves (conserving_kept (plan_kept room (arrivals slots values))) n first [] (arrivals slots values)

  entered_once : (by : Planner) → length values ≡ length slots → EnteredOnce (length slots) (entries_by by slots values room)
  entered_once greedy l = once_greedy slots values l room
  entered_once (pg beta) l = once_pg slots values l room beta
  entered_once (mf M) l = once_mf slots values l room M
  entered_once plan l = once_plan slots values l room

  module _ (by : Planner) (lent : Lists) (z : (call_by by slots values room lent).reply.number ≡ 0) where
    ran_number : (run_unless (refusal by lent) lent (outcome by)).reply.number ≡ 0
    ran_number = ap (λ (o : Outcome). o.reply.number) (sym (call_is by lent)) ∙ z

    -- an accepted call is its run
    call_ran : call_by by slots values room lent ≡ outcome by
    call_ran = call_is by lent ∙ not_refused (refusal by lent) lent (outcome by) ran_number

    unrefused : (refusal by lent).number ≡ 0
    unrefused = verdict_zero (refusal by lent) lent (outcome by) ran_number

    fits : Accepted (taken by) slots values room lent
    fits = accepted (own by) (taken by) slots values room lent unrefused

  -- refusals look at the lent lists' lengths only
  refusal_same : (by : Planner) (lent other : Lists) → Sized (length slots) lent → Sized (length slots) other → refusal by lent ≡ refusal by other
  refusal_same by lent other x y = rw (x.fates, x.whens, x.bys, y.fates, y.whens, y.bys) refl

pub own_records_pass : OwnRecordsPass
own_records_pass by slots values room lent z = passes slots values room by lent (unrefused slots values room by lent z)

pub own_records_written : OwnRecordsWritten
own_records_written by slots values room lent z =
    let packets = length slots in
    let entries = entries_by by slots values room in
    let once = entered_once slots values room by (fits slots values room by lent z).lengths in
    let left = ap (λ (o : Outcome). o.lists) (call_ran slots values room by lent z) in
    record {
      one_each = λ n.
          counts_within _ _ n _ _
          (λ h. once_below n once (omega arith))
          (λ h k. omega (arith, once_among n once (omega arith) (omega arith)))
          (λ h. omega (arith, entered_arriving slots values room n by, arrivals_above n 1 slots values (omega arith)));
      as_long = rw left (entered_sized packets entries (blank packets) (blank_sized packets));
      over_any = λ before b. left ∙ sym (entered_all packets entries once before b);
    }

pub lent_forgotten : LentForgotten
lent_forgotten by slots values room lent z other b =
    let same = refusal_same slots values room by lent other (fits slots values room by lent z).sized b in
    let clear : (refusal slots values room by other).number ≡ 0 = ap (λ (v : Verdict). v.number) (sym same) ∙ unrefused slots values room by lent z in
    call_ran slots values room by lent z ∙ sym (call_is slots values room by other ∙ run_clear _ other _ clear)
