-- The counts from the place up to i are one more.
use Rattle.std.proofs.Common.{arith}
use Rattle.plan_kept.proofs.Keeping.{raised_start, raised_turn, raised_low}
use Rattle.plan_kept.proofs.raise.Goals as goal

pub loop-i-init : goal.loop-i-init
loop-i-init c = raised_start _ _

pub overflow_add-held : goal.overflow_add-held
overflow_add-held c = let loop = c.loop-i in
    omega (arith, c.requires.low loop.i (omega arith) c.loop-i-test.true, raised_low _ _ _ loop.i loop.invariant)

pub loop-i-preserved : goal.loop-i-preserved
loop-i-preserved c = let loop = c.loop-i in
    raised_turn _ _ _ loop.i (omega arith) (omega (arith, loop.invariant.same, c.requires.inside)) loop.invariant
