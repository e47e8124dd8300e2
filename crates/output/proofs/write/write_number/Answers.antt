-- `output::write_number` meets its contract: the digits that are left and those that stand at the end of the local list are the number's.
use native.Mathlib.Omega.{arith}
use lib.ListN.{length-set}
use Rattle.output.proofs.Writing.{digits_more, digits_part, digits_all, wrote_same}
use Rattle.output.proofs.write.write_number.Goals as goal

pub returns-then-last : goal.returns-then-last
returns-then-last c = let loop = c.loop-i in
    wrote_same (digits_part c.args.number _ loop.left loop.i loop.invariant.1 (omega arith) (omega arith) loop.invariant.2 c.if-last.true) loop.invariant.0 c.write_bytes.ensures

pub loop-i-preserved : goal.loop-i-preserved
loop-i-preserved c = let loop = c.loop-i in
    (loop.invariant.0, simp length-set loop.invariant.1, digits_more c.args.number _ loop.left loop.i loop.invariant.1 (omega arith) (omega arith) loop.invariant.2 c.if-last.false)

pub returns : goal.returns
returns c = let loop = c.loop-i in
    wrote_same (digits_all c.args.number _ loop.left loop.i (omega arith) loop.invariant.2) loop.invariant.0 c.write_bytes-2.ensures
