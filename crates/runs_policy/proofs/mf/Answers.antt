-- A refusal of the test is the answer; an accepted trace is one on which the policy can run, and the lent part of the marks holds a 0 for each packet.
use mathlib.Core.Path.{sym, ap, subst, ◌∙◌}
use mathlib.Core.List.{[]}
use lib.ListN.{length, take, replicate}
use lib.Seq.{length-take-le}
use Rattle.model.specs.Calls.{ran, mf_call}
use Rattle.model.specs.Course.{course, first}
use Rattle.model.specs.Limits.{record_limits}
use Rattle.model.specs.Packets.{arrivals}
use Rattle.model.specs.Policies.MF.{Marked, mf_policy}
use Rattle.model.specs.Record.{lists_of}
use Rattle.std.proofs.Common.{rules}
use Rattle.std.specs.Prelude.{Err, ◌≡◌}
use Rattle.steps.specs.Calls.{Ready}
use Rattle.steps.proofs.Answering.{refused, not_refused}
use Rattle.steps.proofs.Places.{first_zeros}
use Rattle.mf_marks.specs.Mark.{beside}
use Rattle.runs_loop.proofs.Lists.{into_any}
use Rattle.runs_policy.proofs.Ready.{mf_ready}
use Rattle.runs_policy.proofs.mf.Goals as goal

pub slice_bounds-marks-end : goal.slice_bounds-marks-end
slice_bounds-marks-end c = (mf_ready _ _ _ _ _ c.in_ok-check_mf.ensures).runnable.few

pub slice_bounds-marks-end-2 : goal.slice_bounds-marks-end-2
slice_bounds-marks-end-2 c = sym (length-take-le (length c.args.slots.now) _ (mf_ready _ _ _ _ _ c.in_ok-check_mf.ensures).runnable.few)

pub invariant_of-accepted : goal.invariant_of-accepted
invariant_of-accepted c =
    let a = c.args in
    let ready = mf_ready _ _ _ _ _ c.in_ok-check_mf.ensures in
    let from_zeros : Ready (mf_policy a.room a.marking a.slots.now) (beside [] (take (length a.slots.now) (replicate record_limits.packets 0))) a.slots.now a.values.now (lists_of a.fates.now a.whens.now a.bys.now) =
    subst (λ (s : Marked). Ready (mf_policy a.room a.marking a.slots.now) s a.slots.now a.values.now (lists_of a.fates.now a.whens.now a.bys.now))
    (sym (ap (beside []) (first_zeros (length a.slots.now) record_limits.packets ready.runnable.few))) ready in
    record { runnable = from_zeros.runnable; ready = ∣ into_any from_zeros ∣₁ }

pub returns-in_err-check_mf : goal.returns-in_err-check_mf
unfolding mf_call
returns-in_err-check_mf c =
    let refusal = c.in_err-check_mf.field-0.0 in
    let is : c.from_residual.result ≡ Err refusal = search rules in
    rw is (refused _ _ _ refusal (c.in_err-check_mf.ensures))

pub returns : goal.returns
unfolding mf_call
returns c =
    let a = c.args in
    let accepted = c.in_ok-check_mf.ensures in
    let ready = mf_ready _ _ _ _ _ accepted in
    c.finish.ensures.ran ready.sized
    ∙ ap (λ (s : Marked). ran a.slots.now a.values.now (course (mf_policy a.room a.marking a.slots.now) first s (arrivals a.slots.now a.values.now)))
    (ap (beside []) (first_zeros (length a.slots.now) record_limits.packets ready.runnable.few))
    ∙ not_refused _ _ _ accepted
