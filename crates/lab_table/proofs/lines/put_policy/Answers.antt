-- `lab_table::lines::put_policy` meets its contract: a refusal is told, and a line is written.
use mathlib.Core.Path.{◌≡◌}
use Rattle.std.proofs.Common.{rules, Err}
use Rattle.lab_table.proofs.Tables.{lined_refused, lined_ran}
use Rattle.lab_table.proofs.lines.put_policy.Goals as goal

pub returns-in_err-totals : goal.returns-in_err-totals
returns-in_err-totals c =
    let is : c.from_residual.result ≡ Err c.in_err-totals.field-0.0 = search rules in
    rw is (lined_refused c.args.room c.args.slots.now c.args.values.now c.args.plan c.args.policy c.reply.result c.in_err-totals.field-0.0 _ _ _ (c.in_err-totals.was) c.reply.ensures)

pub returns : goal.returns
returns c = lined_ran c.args.room c.args.slots.now c.args.values.now c.args.plan c.args.policy c.reply.result c.in_ok-totals.totals (c.in_ok-totals.was) c.reply.ensures c.put_line.ensures
