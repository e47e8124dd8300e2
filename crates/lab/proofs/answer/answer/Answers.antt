-- `lab::answer::answer` meets its contract: by the job.
use mathlib.Core.Path.{ap}
use native.Mathlib.Omega.{arith}
use lib.ListN.{length}
use Rattle.lab.proofs.Answering.{column_length, answer_run, answer_table, answer_audit}
use Rattle.lab.proofs.answer.answer.Goals as goal

pub check-requires-clause-numbers_len_bound : goal.check-requires-clause-numbers_len_bound
check-requires-clause-numbers_len_bound c = omega (arith, c.requires.count_le_packets, ap length c.column-first.ensures, column_length c.args.rows.now c.args.count 0 (omega (arith, c.requires.rows_len, c.requires.count_le_packets)))

pub returns-in-Run : goal.returns-in-Run
returns-in-Run c = answer_run c.args.rows.now c.args.count c.args.job c.args.betas.now c.column-first.ensures c.column-second.ensures c.in-Run.is c.requires.output_limit_in_bounds c.run.ensures

pub returns-in-Table : goal.returns-in-Table
returns-in-Table c = answer_table c.args.rows.now c.args.count c.args.job c.args.betas.now c.column-first.ensures c.column-second.ensures c.in-Table.is c.requires.betas_len_bound c.requires.output_limit_in_bounds c.table.ensures

pub returns-in-Audit : goal.returns-in-Audit
returns-in-Audit c = answer_audit c.args.rows.now c.args.count c.args.job c.args.betas.now c.column-first.ensures c.column-second.ensures c.in-Audit.is c.column.ensures c.column-in-Audit.ensures c.column-in-Audit-2.ensures c.column-in-Audit-3.ensures c.check.ensures
