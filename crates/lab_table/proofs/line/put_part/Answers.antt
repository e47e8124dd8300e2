-- `lab_table::line::put_part` meets its contract: a dash, or the whole part and the three decimals behind it.
use mathlib.Core.Path.{refl}
use native.Mathlib.Omega.{arith}
use Rattle.output.proofs.Writing.{wrote_same, decimal_length}
use Rattle.lab_table.proofs.Chain.{near, near_more, part_none, part_some}
use Rattle.lab_table.proofs.line.put_part.Goals as goal

pub returns-then-plan-eq0 : goal.returns-then-plan-eq0
returns-then-plan-eq0 c = wrote_same (part_none c.args.value c.args.plan c.if-plan-eq0.true) refl (c.put.ensures.fits (omega arith))

pub returns : goal.returns
returns c = let one = near c.put_number-whole.ensures (omega arith) (decimal_length _) in
    let two = near_more one c.put-2.ensures (omega arith) (omega arith) in
    wrote_same (part_some c.args.value c.args.plan c.if-plan-eq0.false) refl two.wrote
