-- A refusal of the test is the answer. Where it accepts, the list has an entry for each packet, so `keep` told in it which packets the plan keeps, and the run
-- holds these.
use Prim.Native.Nat.{ℕ, ◌≤◌}
use mathlib.Core.Path.{◌≡◌, sym, ap, ◌∙◌}
use native.Mathlib.Omega.{arith}
use lib.ListN.{length, take, replicate}
use lib.Seq.{length-take-le, take_at}
use Rattle.model.specs.Limits.{record_limits}
use Rattle.model.specs.Record.{lists_of}
use Rattle.model.specs.Calls.{ran, plan_call}
use Rattle.std.proofs.Common.{rules}
use Rattle.std.specs.Prelude.{Err, ◌≡◌}
use Rattle.steps.proofs.Answering.{refused, not_refused}
use Rattle.plan_kept.proofs.Planned.{part_fits}
use Rattle.runs_loop.proofs.Lists.{into_any}
use Rattle.runs_policy.proofs.Ready.{entry_for_each_lem, plan_runs, plan_course}
use Rattle.runs_policy.proofs.plan.Goals as goal

-- the list that `keep` is lent, and what it is then, have an entry for each packet
lent : (n : ℕ) → n ≤ record_limits.packets → length {A = ℕ} (take n (replicate record_limits.packets 0)) ≡ n
lent n less = length-take-le n (replicate {A = ℕ} record_limits.packets 0) less

pub slice_bounds-keep-end : goal.slice_bounds-keep-end
slice_bounds-keep-end c = sym (lent c.min-n.result (omega (arith, c.min-n.ensures)))

pub slice_bounds-kept-end-2 : goal.slice_bounds-kept-end-2
slice_bounds-kept-end-2 c =
    let part = c.keep in
    part_fits c.min-n.result part.new.kept _ (part.auto.kept ∙ lent c.min-n.result (omega (arith, c.min-n.ensures)))

pub slice_bounds-policy-end : goal.slice_bounds-policy-end
slice_bounds-policy-end c =
    let part = c.keep in
    let long = part.auto.kept ∙ lent c.min-n.result (omega (arith, c.min-n.ensures)) in
    sym (ap length (take_at part.new.kept _ c.min-n.result long) ∙ long)

pub invariant_of-accepted : goal.invariant_of-accepted
invariant_of-accepted c =
    let a = c.args in
    let part = c.keep in
    let zeros = lent c.min-n.result (omega (arith, c.min-n.ensures)) in
    let accepted = c.in_ok-keep.ensures.0 in
    let ready = plan_runs a.slots.now a.values.now a.room (lists_of a.fates.now a.whens.now a.bys.now) accepted _ part.new.kept _
    (zeros ∙ entry_for_each_lem _ _ _ _ accepted c.min-n.result c.min-n.ensures)
    (take_at part.new.kept _ c.min-n.result (part.auto.kept ∙ zeros)) part.ensures.1 in
    record { runnable = ready.runnable; ready = ∣ into_any ready ∣₁ }

pub returns-in_err-keep : goal.returns-in_err-keep
unfolding plan_call
returns-in_err-keep c =
    let refusal = c.in_err-keep.field-0.0 in
    let is : c.from_residual.result ≡ Err refusal = search rules in
    rw is (refused _ _ _ refusal (c.in_err-keep.ensures.0))

pub returns : goal.returns
unfolding plan_call
returns c =
    let a = c.args in
    let part = c.keep in
    let zeros = lent c.min-n.result (omega (arith, c.min-n.ensures)) in
    let accepted = c.in_ok-keep.ensures.0 in
    let each = zeros ∙ entry_for_each_lem _ _ _ _ accepted c.min-n.result c.min-n.ensures in
    let same = take_at part.new.kept _ c.min-n.result (part.auto.kept ∙ zeros) in
    let lists = lists_of a.fates.now a.whens.now a.bys.now in
    c.finish.ensures.ran (plan_runs a.slots.now a.values.now a.room lists accepted _ part.new.kept _ each same part.ensures.1).sized
    ∙ ap (ran a.slots.now a.values.now) (plan_course a.slots.now a.values.now a.room lists accepted _ part.new.kept _ each same part.ensures.1)
    ∙ not_refused _ _ _ accepted
