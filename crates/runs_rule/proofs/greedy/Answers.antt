-- A refusal of the test is the answer; an accepted trace is one on which the policy can run.
use mathlib.Core.Path.{sym, ap, ◌∙◌}
use Rattle.model.specs.Calls.{greedy_call}
use Rattle.std.proofs.Common.{rules}
use Rattle.std.specs.Prelude.{Err, ◌≡◌}
use Rattle.steps.proofs.Answering.{refused, not_refused}
use Rattle.runs_loop.proofs.Lists.{into_any}
use Rattle.runs_rule.proofs.Ready.{greedy_ready}
use Rattle.runs_rule.proofs.greedy.Goals as goal

pub invariant_of-policy : goal.invariant_of-policy
invariant_of-policy c = record { le_room = (greedy_ready _ _ _ _ c.in_ok-check_plain.ensures).1 }

pub invariant_of-accepted : goal.invariant_of-accepted
invariant_of-accepted c =
    let ready = (greedy_ready _ _ _ _ c.in_ok-check_plain.ensures).0 in
    record { runnable = ready.runnable; ready = ∣ into_any ready ∣₁ }

pub returns-in_err-check_plain : goal.returns-in_err-check_plain
unfolding greedy_call
returns-in_err-check_plain c =
    let refusal = c.in_err-check_plain.field-0.0 in
    let is : c.from_residual.result ≡ Err refusal = search rules in
    rw is (refused _ _ _ refusal (c.in_err-check_plain.ensures))

pub returns : goal.returns
unfolding greedy_call
returns c =
    let accepted = c.in_ok-check_plain.ensures in
    c.finish.ensures.ran (greedy_ready _ _ _ _ accepted).0.sized
    ∙ not_refused _ _ _ accepted
