-- `audit::front` meets its contract: the slots never go down, so one that is not after `when` has only such before it.
use Prim.Native.Nat.{◌-◌}
use native.Mathlib.Omega.{arith}
use borrow.Author.Tests.{leb-true}
use Rattle.audit.proofs.UpTo.{reaches}
use Rattle.audit.proofs.front.Goals as goal

pub returns-then-slots-near : goal.returns-then-slots-near
returns-then-slots-near c = let start = c in
    omega (arith, reaches start.args.slots.now start.args.when.0 (start.args.near - 1) start.requires (omega arith) (leb-true _ _ c.if-slots-near.true-raw))
