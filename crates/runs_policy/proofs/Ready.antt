-- A trace that the test of MF or of the plan accepts is one on which its policy can run.
use Prim.Native.Nat.{ℕ, min}
use mathlib.Core.Path.{◌≡◌, sym, ap, subst, ◌∙◌}
use mathlib.Core.List.{List, []}
use native.Mathlib.Omega.{arith}
use lib.ListN.{length}
use Rattle.model.specs.declared.Marking.{Marking}
use Rattle.model.specs.Limits.{record_limits}
use Rattle.model.specs.Packets.{arrivals}
use Rattle.model.specs.Record.{Lists}
use Rattle.model.specs.Rules.{clear}
use Rattle.model.specs.Course.{by_rule, run_by}
use Rattle.model.specs.Policies.MF.{mf_policy, unmarked}
use Rattle.model.specs.Policies.Plan.{plan_kept, kept_rule, plan_run}
use Rattle.model.specs.Refusals.{value_ok, lo_or_hi, plain_refusal, mf_refusal, marking_refusal}
use Rattle.laws.specs.Accepted.{Accepted}
use Rattle.laws.proofs.WellFormed.{well_formed_mf, well_formed_plan}
use Rattle.laws.proofs.Lawful.{lawful_plan}
use Rattle.laws.proofs.LawfulMF.{lawful_mf}
use Rattle.laws.proofs.Accepted.{clear_number, accepted, lo_or_hi_ok}
use Rattle.steps.specs.Calls.{Ready}
use Rattle.steps.proofs.Answering.{ready}
use Rattle.plan_kept.specs.Keep.{kept_after}
use Rattle.plan_kept.proofs.Planned.{accepted_kept}

module _ (slots values : List ℕ) (room : ℕ) (lists : Lists) where
  pub mf_ready : (M : Marking) → clear ≡ mf_refusal M slots values room lists → Ready (mf_policy room M slots) (unmarked (length slots)) slots values lists
  unfolding mf_refusal
  mf_ready M e =
      let none = clear_number _ e in
      let T = accepted (marking_refusal M) (lo_or_hi M) slots values room lists none in
      ready (mf_policy room M slots) (unmarked (length slots)) (lo_or_hi M) (lo_or_hi_ok M) slots values room lists T
      (well_formed_mf slots values T.lengths room M) (lawful_mf slots values room lists M none)

  module _ (e : clear ≡ plain_refusal slots values room lists) where
    tested : Accepted value_ok slots values room lists
    unfolding plain_refusal
    tested = accepted clear value_ok slots values room lists (clear_number _ e)

    -- the plan's list has an entry for each packet
    pub entry_for_each_lem : (n : ℕ) → n ≡ min (length slots) record_limits.packets → n ≡ length slots
    entry_for_each_lem n e = omega (arith, tested.few)

    plan_ready : Ready (by_rule (kept_rule (plan_kept room (arrivals slots values)))) [] slots values lists
    unfolding plain_refusal
    plan_ready =
        ready (by_rule (kept_rule (plan_kept room (arrivals slots values)))) [] value_ok (λ v h. h) slots values room lists tested
        (well_formed_plan slots values tested.lengths room) (lawful_plan slots values room lists (clear_number _ e))

    -- what `keep` made of a list as long as the trace, and is lent to the run
    module _ (zeros part kept : List ℕ) (same : length zeros ≡ length slots) (lent : kept ≡ part)
        (K : part ≡ kept_after (plain_refusal slots values room lists) slots values room zeros) where
      planned : kept ≡ plan_kept room (arrivals slots values)
      planned = lent ∙ K ∙ accepted_kept slots values room zeros _ e same

      pub plan_runs : Ready (by_rule (kept_rule kept)) [] slots values lists
      plan_runs = subst (λ (k : List ℕ). Ready (by_rule (kept_rule k)) [] slots values lists) (sym planned) plan_ready

      pub plan_course : run_by (kept_rule kept) (arrivals slots values) ≡ plan_run room (arrivals slots values)
      plan_course = ap (λ (k : List ℕ). run_by (kept_rule k) (arrivals slots values)) planned
