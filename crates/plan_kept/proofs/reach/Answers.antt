-- While the loop goes on, one packet more is still there, and there was room for it at each arrival before.
use Rattle.std.proofs.Common.{◌≡◌, ◌-◌, length, arith}
use Rattle.plan_kept.proofs.Keeping.{reaching_full}
use Rattle.plan_kept.proofs.reach.Goals as goal

pub returns-then-room-there : goal.returns-then-room-there
returns-then-room-there c = reaching_full _ _ _ _ _ c.loop-i.invariant (omega (arith, c.if-room-there.true))

pub returns-then-room-held : goal.returns-then-room-held
returns-then-room-held c =
    let last : c.loop-i.i ≡ length c.args.slots.now - 1 = omega arith in
    reaching_full _ _ _ _ _ c.loop-i.invariant (rw last c.if-room-held.true)
