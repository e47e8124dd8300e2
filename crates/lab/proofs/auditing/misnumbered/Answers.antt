-- `lab::auditing::misnumbered` meets its contract: the rows that are left tell what all do.
use Rattle.lab.proofs.Audits.{numbered_turn, numbered_wrong, numbered_all}
use Rattle.lab.proofs.auditing.misnumbered.Goals as goal

pub returns-then-other : goal.returns-then-other
returns-then-other c = numbered_wrong c.args.numbers.now c.loop-i.i c.loop-i-test.true c.loop-i.invariant c.if-other.true

pub loop-i-preserved : goal.loop-i-preserved
loop-i-preserved c = numbered_turn c.args.numbers.now c.loop-i.i c.loop-i-test.true c.loop-i.invariant c.if-other.false

pub returns : goal.returns
returns c = numbered_all c.args.numbers.now c.loop-i.i c.loop-i-test.false c.loop-i.invariant
