-- `lab::read_input` meets its contract: by the job, in as much of the table as its columns take.
use mathlib.Core.Path.{sym, ◌∙◌}
use native.Mathlib.Omega.{arith}
use lib.ListN.{drop}
use lib.Seq.{length-take-le}
use Rattle.lab.proofs.Reading.{read_record, read_trace}
use Rattle.lab.proofs.read_input.Goals as goal

pub returns-in-Audit : goal.returns-in-Audit
returns-in-Audit g c = read_record c.args.job c.in-Audit.is c.read_rows.result c.args.table.now c.read_rows.new.table c.requires (c.read_rows.auto.table ∙ c.requires) c.read_rows.ensures

pub slice_bounds-read_rows-end-4 : goal.slice_bounds-read_rows-end-4
slice_bounds-read_rows-end-4 g c = sym (length-take-le 4096 c.args.table.now (omega (arith, c.requires)))

pub returns : goal.returns
returns g c = read_trace c.args.job c.in_default.not-Audit c.read_rows-2.result c.args.table.now c.read_rows-2.new.table (drop 4096 c.args.table.now) (c.read_rows-2.auto.table ∙ length-take-le 4096 c.args.table.now (omega (arith, c.requires))) c.read_rows-2.ensures
