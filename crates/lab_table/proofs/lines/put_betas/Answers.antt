-- `lab_table::lines::put_betas` meets its contract: what the lines that are left come to, behind those that were written, is what all come to.
use native.Mathlib.Omega.{arith}
use Rattle.std.proofs.Common.{Ok, Err}
use Rattle.std.proofs.lemmas.Result.{err_from_is_err_and}
use Rattle.lab_table.proofs.Tables.{lined_near, betas_turn, betas_refused, betas_end}
use Rattle.lab_table.proofs.lines.put_betas.Goals as goal

pub returns-in_err-end : goal.returns-in_err-end
returns-in_err-end c = let p = err_from_is_err_and c.from_residual.result c.from_residual.ensures.1 in
    let a = c.args in
    rw (p.1, p.2) (c.loop-beta.invariant.1 (Err c.in_err-end.field-0.0) _ (betas_refused a.room a.slots.now a.values.now a.plan a.betas.now c.loop-beta.beta-index (record { num = 0; den = 0 }) c.loop-beta-test.true c.in_err-end.field-0.0 c.loop-beta.end _ _ c.in_err-end.ensures))

pub loop-beta-preserved : goal.loop-beta-preserved
loop-beta-preserved c = let a = c.args in
    let l = c.loop-beta in
    let near = lined_near a.room a.slots.now a.values.now a.plan _ c.in_ok-end.end l.end _ _ c.in_ok-end.ensures in
    (omega (arith, l.invariant.0, c.put_policy.auto.out), λ r o L. l.invariant.1 r o (betas_turn a.room a.slots.now a.values.now a.plan a.betas.now l.beta-index (record { num = 0; den = 0 }) c.loop-beta-test.true r l.end c.in_ok-end.end _ _ _ c.in_ok-end.ensures L))

pub returns : goal.returns
returns c = let a = c.args in
    c.loop-beta.invariant.1 (Ok c.loop-beta.end) _ (betas_end a.room a.slots.now a.values.now a.plan a.betas.now c.loop-beta.beta-index c.loop-beta-test.false c.loop-beta.end _ (omega (arith, c.loop-beta.invariant.0)))
