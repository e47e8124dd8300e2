-- `lab_jobs::jobs::command_from` meets its contract: the words behind the room are those that the code lends.
use mathlib.Core.Path.{refl}
use Rattle.lab_jobs.proofs.Asking.{run_asked, table_asked}
use Rattle.lab_jobs.proofs.jobs.command_from.Goals as goal

pub returns-in_err-policy-in-Run-len2-up : goal.returns-in_err-policy-in-Run-len2-up
returns-in_err-policy-in-Run-len2-up c = let asked = run_asked c.args.parameters.now c.in-Run-len2-up.is-0 c.in-Run-len2-up.len_at_least c.policy_from.ensures refl in
    rw c.from_residual.ensures (rw c.in_err-policy-in-Run-len2-up.was at asked)

pub returns-in_ok-room-in-Run-len2-up : goal.returns-in_ok-room-in-Run-len2-up
returns-in_ok-room-in-Run-len2-up c = let asked = run_asked c.args.parameters.now c.in-Run-len2-up.is-0 c.in-Run-len2-up.len_at_least c.policy_from.ensures c.number.ensures in
    rw (c.in_ok-policy-in-Run-len2-up.was, c.in_ok-room-in-Run-len2-up.was) at asked

pub returns-in_ok-room-in-Table-len1-up : goal.returns-in_ok-room-in-Table-len1-up
returns-in_ok-room-in-Table-len1-up c = let asked = table_asked c.args.parameters.now c.in-Table-len1-up.is-0 c.in-Table-len1-up.len_at_least c.all_betas.ensures c.number-in-Table-len1-up.ensures in
    rw (c.if-all_betas.true, c.in_ok-room-in-Table-len1-up.was) at asked

pub returns-in_default-3 : goal.returns-in_default-3
returns-in_default-3 c = let asked = table_asked c.args.parameters.now c.in-Table-len1-up.is-0 c.in-Table-len1-up.len_at_least c.all_betas.ensures refl in
    rw c.if-all_betas.false at asked
