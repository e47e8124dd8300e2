-- `lab_table::lines::put_compared` meets its contract: greedy's line, and those of the betas behind it.
use mathlib.Core.List.{[], ◌∷◌}
use native.Mathlib.Omega.{arith}
use Rattle.std.proofs.lemmas.Result.{err_from_is_err_and}
use Rattle.runs.specs.declared.Policy.TheVariants.{Greedy}
use Rattle.lab_table.specs.Table.{betas_of}
use Rattle.lab_table.proofs.Tables.{lined_near, lined_behind, lined_first}
use Rattle.lab_table.proofs.lines.put_compared.Goals as goal

pub returns-in_err-next : goal.returns-in_err-next
returns-in_err-next c = let p = err_from_is_err_and c.from_residual.result c.from_residual.ensures.1 in
    let a = c.args in
    rw (p.1, p.2) (lined_first a.room a.slots.now a.values.now a.plan Greedy (betas_of a.betas.now) c.in_err-next.field-0.0 a.at a.out.now _ c.in_err-next.ensures)

pub put_betas-requires : goal.put_betas-requires
put_betas-requires c = let a = c.args in
    let near = lined_near a.room a.slots.now a.values.now a.plan (Greedy ∷ []) _ a.at a.out.now _ c.in_ok-next.ensures in
    omega (arith, c.requires, c.put_policy.auto.out)

pub returns : goal.returns
returns c = let a = c.args in
    lined_behind a.room a.slots.now a.values.now a.plan Greedy (betas_of a.betas.now) c.put_betas.result a.at c.in_ok-next.next a.out.now _ _ c.in_ok-next.ensures c.put_betas.ensures
