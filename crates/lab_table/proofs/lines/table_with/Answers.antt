-- `lab_table::lines::table_with` meets its contract: the header, the lines and the last two, or the refusal.
use mathlib.Core.Path.{refl}
use native.Mathlib.Omega.{arith}
use Rattle.output.proofs.Writing.{wrote_same}
use Rattle.lab_table.proofs.Chain.{wrote_long}
use Rattle.lab_table.proofs.Tables.{begins, mf_length, table_refused, table_written, table_near}
use Rattle.lab_table.proofs.lines.table_with.Goals as goal

pub put_compared-requires : goal.put_compared-requires
put_compared-requires c = let head = c.put-at.ensures.fits (omega (arith, c.requires.table_limit_in_bounds)) in
    omega (arith, c.requires.betas_len_bound, c.requires.table_limit_in_bounds, head.behind, wrote_long head)

pub put_mf-end-requires : goal.put_mf-end-requires
put_mf-end-requires c = let head = c.put-at.ensures.fits (omega (arith, c.requires.table_limit_in_bounds)) in
    let long = wrote_long head in
    let near = table_near c.args.room c.args.betas.now c.args.slots.now c.args.values.now c.args.plan _ _ _ c.in-Ok.ensures in
    omega (arith, c.requires.betas_len_bound, c.requires.table_limit_in_bounds, head.behind, c.put_compared.auto.out)

pub put_line-requires : goal.put_line-requires
put_line-requires c = let head = c.put-at.ensures.fits (omega (arith, c.requires.table_limit_in_bounds)) in
    let long = wrote_long head in
    let near = table_near c.args.room c.args.betas.now c.args.slots.now c.args.values.now c.args.plan _ _ _ c.in-Ok.ensures in
    omega (arith, c.requires.betas_len_bound, c.requires.table_limit_in_bounds, head.behind, c.put_compared.auto.out, c.put_mf-end.auto.out, c.put_mf-end.ensures.behind, mf_length c.args.room c.args.slots.now c.args.values.now c.args.plan.sent.value)

pub returns-in-Err : goal.returns-in-Err
returns-in-Err c = begins (wrote_same (table_refused c.args.room c.args.betas.now c.args.slots.now c.args.values.now c.args.plan c.in-Err.refusal _ _ _ c.in-Err.ensures) refl (c.refuse.ensures.fits (omega (arith, c.requires.table_limit_in_bounds, c.put_compared.auto.out, c.put-at.auto.out))))

pub returns-in-Ok : goal.returns-in-Ok
returns-in-Ok c = let head = c.put-at.ensures.fits (omega (arith, c.requires.table_limit_in_bounds)) in
    begins (table_written c.args.room c.args.betas.now c.args.slots.now c.args.values.now c.args.plan _ _ _ _ head c.in-Ok.ensures c.put_mf-end.ensures c.put_line.ensures)
