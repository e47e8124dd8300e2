-- `output::write_rows` meets its contract: the rows that are left, and 128 places for each.
use mathlib.Core.Path.{refl, ap}
use native.Mathlib.Omega.{arith}
use Rattle.output.specs.Output.{line_with}
use Rattle.output.proofs.Writing.{left_none, wrote_same, rows_again, rows_done, row_fits, row_long}
use Rattle.output.proofs.write.write_rows.Goals as goal

pub loop-i-preserved : goal.loop-i-preserved
loop-i-preserved c = let loop = c.loop-i in
    let a = c.args in
    let row = wrote_same (ap line_with c.row.ensures) refl c.write_line-end.ensures in
    let fits = row_fits a.rows c.requires.same_lengths a.at a.out.now loop.end _ loop.i c.loop-i-test.true loop.invariant.1 _ _ row in
    let long = row_long a.rows c.requires.same_lengths a.at a.out.now loop.end _ loop.i c.loop-i-test.true loop.invariant.1 _ _ row in
    (omega arith, rows_again a.rows c.requires.same_lengths a.at a.out.now loop.end _ loop.i c.loop-i-test.true loop.invariant.1 _ _ row)

pub returns : goal.returns
returns c = let loop = c.loop-i in
    let a = c.args in
    left_none a.at _ a.out.now _ _ _ (rows_done a.rows c.requires.same_lengths loop.i c.loop-i-test.false) (omega arith) loop.invariant.1
