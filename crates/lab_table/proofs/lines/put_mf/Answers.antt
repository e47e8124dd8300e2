-- `lab_table::lines::put_mf` meets its contract: the policy is the trace's own, and its line is left out where it is refused.
use native.Mathlib.Omega.{arith}
use Rattle.lab_table.proofs.Tables.{mf_none, mf_some}
use Rattle.lab_table.proofs.lines.put_mf.Goals as goal

pub returns-in-Err : goal.returns-in-Err
returns-in-Err c = mf_none c.args.room c.args.slots.now c.args.values.now c.args.plan c.lowest.result c.greatest.result c.lowest.ensures c.greatest.ensures c.reply.result c.reply.ensures _ c.in-Err.is c.args.at c.args.out.now (omega arith)

pub returns-in-Ok : goal.returns-in-Ok
returns-in-Ok c = mf_some c.args.room c.args.slots.now c.args.values.now c.args.plan c.lowest.result c.greatest.result c.lowest.ensures c.greatest.ensures c.reply.result c.reply.ensures c.in-Ok.totals c.in-Ok.is c.put_line.ensures
