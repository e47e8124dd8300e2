-- `lab_table::lines::draft` meets its contract: by the plan's answer.
use mathlib.Core.Path.{refl}
use native.Mathlib.Omega.{arith}
use Rattle.output.proofs.Writing.{wrote_same}
use Rattle.lab_table.proofs.Tables.{begins, begins_same, text_refused, text_ran}
use Rattle.lab_table.proofs.lines.draft.Goals as goal

pub returns-in-Err : goal.returns-in-Err
returns-in-Err c = begins (wrote_same (text_refused c.args.room c.args.betas.now c.args.slots.now c.args.values.now c.reply.result c.reply.ensures c.in-Err.refusal c.in-Err.is) refl (c.refuse.ensures.fits (omega (arith, c.requires.table_limit_in_bounds))))

pub returns-in-Ok : goal.returns-in-Ok
returns-in-Ok c = begins_same (text_ran c.args.room c.args.betas.now c.args.slots.now c.args.values.now c.reply.result c.reply.ensures c.in-Ok.totals c.in-Ok.is) c.table_with.ensures
