-- `output::write_line` meets its contract: what is left of the line, and 21 places for each number that is left.
use mathlib.Core.Path.{refl}
use native.Mathlib.Omega.{arith}
use lib.ListN.{length-set}
use Rattle.output.proofs.Writing.{left_none, left_wrote, line_done, wrote_fits, line_turn, line_end, number_fits, number_long}
use Rattle.output.proofs.write.write_line.Goals as goal
use Rattle.output.proofs.write.write_line.Goals.{then-more, else-more}

pub bounds-out-end : goal.bounds-out-end
bounds-out-end c = let loop = c.loop-i in
    let a = c.args in
    let fits = number_fits a.at a.numbers.now a.out.now loop.end _ loop.i loop.invariant.1 _ _ c.write_number-end.ensures in
    let long = number_long a.at a.numbers.now a.out.now loop.end _ loop.i loop.invariant.1 _ _ c.write_number-end.ensures in
    omega arith

pub loop-i-preserved : goal.loop-i-preserved
loop-i-preserved c = let loop = c.loop-i in
    let a = c.args in
    let fits = number_fits a.at a.numbers.now a.out.now loop.end _ loop.i loop.invariant.1 _ _ c.write_number-end.ensures in
    let long = number_long a.at a.numbers.now a.out.now loop.end _ loop.i loop.invariant.1 _ _ c.write_number-end.ensures in
    elim c.if-more.branch [
      | then-more w ↦
          rw (w.end-is, w.out-is)
          (simp length-set (omega arith), line_turn a.at a.numbers.now a.out.now loop.end _ loop.i loop.invariant.1 _ _ c.write_number-end.ensures w.if-more.true)
      | else-more w ↦
          rw (w.end-is, w.out-is)
          (omega arith, line_end a.at a.numbers.now a.out.now loop.end _ loop.i loop.invariant.1 _ _ c.write_number-end.ensures c.loop-i-test.true w.if-more.false)
    ]

pub returns : goal.returns
returns c = let loop = c.loop-i in
    let a = c.args in
    left_none a.at _ a.out.now _ _ _ refl (wrote_fits _ _ _ _ _ c.write_bytes.ensures)
    (left_wrote a.at _ a.out.now loop.end _ _ _ _ _ _ (line_done a.numbers.now loop.i c.loop-i-test.false) loop.invariant.1 c.write_bytes.ensures)
