-- A refusal of the test is the answer; an accepted trace is one on which the policy can run.
use mathlib.Core.Path.{sym, ap, ◌∙◌}
use Rattle.model.specs.Calls.{ran, pg_call}
use Rattle.model.specs.Packets.{arrivals}
use Rattle.model.specs.declared.Rule.TheVariants.{PG}
use Rattle.laws.proofs.PG.{rule_run}
use Rattle.std.proofs.Common.{rules}
use Rattle.std.specs.Prelude.{Err, ◌≡◌}
use Rattle.steps.proofs.Answering.{refused, not_refused}
use Rattle.runs_loop.proofs.Lists.{into_any}
use Rattle.runs_rule.proofs.Ready.{pg_ready}
use Rattle.runs_rule.proofs.pg.Goals as goal

pub invariant_of-policy : goal.invariant_of-policy
invariant_of-policy c = record { le_room = (pg_ready _ _ _ _ _ c.in_ok-check_pg.ensures).1 }

pub invariant_of-accepted : goal.invariant_of-accepted
invariant_of-accepted c =
    let ready = (pg_ready _ _ _ _ _ c.in_ok-check_pg.ensures).0 in
    record { runnable = ready.runnable; ready = ∣ into_any ready ∣₁ }

pub returns-in_err-check_pg : goal.returns-in_err-check_pg
unfolding pg_call
returns-in_err-check_pg c =
    let refusal = c.in_err-check_pg.field-0.0 in
    let is : c.from_residual.result ≡ Err refusal = search rules in
    rw is (refused _ _ _ refusal (c.in_err-check_pg.ensures))

pub returns : goal.returns
unfolding pg_call
returns c =
    let a = c.args in
    let accepted = c.in_ok-check_pg.ensures in
    c.finish.ensures.ran (pg_ready _ _ _ _ _ accepted).0.sized
    ∙ ap (ran a.slots.now a.values.now) (sym (rule_run a.room (PG a.beta) (arrivals a.slots.now a.values.now)))
    ∙ not_refused _ _ _ accepted
