-- `lab_table::line::put_numbers` meets its contract: what is left to write, and 21 places for each number that is left.
use native.Mathlib.Omega.{arith}
use Rattle.output.proofs.Writing.{left_none}
use Rattle.lab_table.proofs.Chain.{commas_done, commas_turn, commas_near, commas_long}
use Rattle.lab_table.proofs.line.put_numbers.Goals as goal

pub loop-number-preserved : goal.loop-number-preserved
loop-number-preserved c = let l = c.loop-number in
    let near = commas_near c.args.at c.args.numbers.now c.args.out.now l.end _ l.number-index l.invariant.1 (omega arith) (omega arith) _ _ c.put_number-end.ensures in
    let long = commas_long c.args.at c.args.numbers.now c.args.out.now l.end _ l.number-index l.invariant.1 (omega arith) (omega arith) _ _ c.put_number-end.ensures in
    (omega arith, commas_turn c.args.at c.args.numbers.now c.args.out.now l.end _ l.number-index l.invariant.1 (omega arith) (omega arith) _ _ c.put_number-end.ensures)

pub returns : goal.returns
returns c = left_none c.args.at _ c.args.out.now _ _ _ (commas_done c.args.numbers.now c.loop-number.number-index c.loop-number-test.false) (omega arith) c.loop-number.invariant.1
