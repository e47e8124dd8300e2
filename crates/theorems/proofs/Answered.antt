-- Demand 3 in the totals' words. A call that answers number 0 has passed all its tests, and the totals that it answers are its record's.
use Prim.Native.Nat.{ℕ}
use mathlib.Core.Path.{◌≡◌, refl}
use mathlib.Core.Bool.{Bool, true, false, cond}
use mathlib.Core.List.{List}
use lib.Dec.{eqb}
use borrow.Author.Tests.{eqb-true, eqb-false}
use Rattle.model.specs.Packets.{arrivals}
use Rattle.model.specs.Record.{Lists, rows}
use Rattle.model.specs.Rules.{Buffer, Verdict, Obeys, first_fault, or_else, buffer_of}
use Rattle.model.specs.Refusals.{plain_refusal}
use Rattle.model.specs.Policies.Greedy.{greedy_run}
use Rattle.model.specs.Policies.Plan.{plan_run}
use Rattle.model.specs.Calls.{Outcome, reply_to, reply_with, ran, run_unless, plan_call, greedy_call, audit_call}
use Rattle.laws.proofs.FirstFault.{or_else_zero, obeys_iff_clear}
use Rattle.theorems.specs.Demand3.{TotalsPlan, TotalsGreedy}
use Rattle.theorems.proofs.Demand3.{demand3_plan, demand3_greedy}

-- a run that answers number 0 was not refused
pub not_refused : (v : Verdict) (lists : Lists) (outcome : Outcome) → (run_unless v lists outcome).reply.number ≡ 0 → run_unless v lists outcome ≡ outcome
unfolding run_unless
not_refused v lists outcome = go (eqb v.number 0) refl
  where
    go : (t : Bool) → eqb v.number 0 ≡ t → (cond t outcome (record { reply = reply_to v; lists = lists })).reply.number ≡ 0
        → cond t outcome (record { reply = reply_to v; lists = lists }) ≡ outcome
    go true e z = refl
    go false e z = absurd (eqb-false v.number 0 e z)

-- an audit that answers number 0 found nothing to refuse and no fault
record Passes (slots values : List ℕ) (room : ℕ) (lists : Lists) : Type 0 where
  accepted : (plain_refusal slots values room lists).number ≡ 0
  obeys : Obeys (buffer_of slots room) (rows (arrivals slots values) lists)
  says : audit_call slots values room lists ≡ reply_with slots values lists

passes : (slots values : List ℕ) (room : ℕ) (lists : Lists) → (audit_call slots values room lists).number ≡ 0 → Passes slots values room lists
unfolding audit_call
passes slots values room lists z = go (eqb v.number 0) refl z refl
  where
    B : Buffer
    B = buffer_of slots room

    v : Verdict
    v = or_else (plain_refusal slots values room lists) (first_fault B (rows (arrivals slots values) lists))

    go : (t : Bool) → eqb v.number 0 ≡ t → (cond t (reply_with slots values lists) (reply_to v)).number ≡ 0
        → audit_call slots values room lists ≡ cond t (reply_with slots values lists) (reply_to v)
        → Passes slots values room lists
    go true e z s =
        let clear = or_else_zero _ _ (eqb-true v.number 0 e) in
        record {
          accepted = clear.0;
          obeys = (obeys_iff_clear B (rows (arrivals slots values) lists)).1 clear.1;
          says = s;
        }
    go false e z s = absurd (eqb-false v.number 0 e z)

pub totals_plan : TotalsPlan
unfolding plan_call
totals_plan slots values room audited lent a p =
    let h = passes slots values room audited a in
    rw (h.says, not_refused _ lent (ran slots values (plan_run room (arrivals slots values))) p)
    (demand3_plan slots values room audited h.accepted h.obeys)

pub totals_greedy : TotalsGreedy
unfolding greedy_call
totals_greedy slots values room audited lent a p =
    let h = passes slots values room audited a in
    rw (h.says, not_refused _ lent (ran slots values (greedy_run room (arrivals slots values))) p)
    (demand3_greedy slots values room audited h.accepted h.obeys)
