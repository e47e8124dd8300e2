-- `audit::up_to` meets its contract. The loop's invariant: low and high bracket the end of the front. The slots never go down, so the one in between settles
-- all on one side of it, wherever it stands; the measure is what lies between the two.
use Prim.Native.Nat.{◌+◌, ◌-◌, ◌/◌, ◌≤◌}
use Rattle.std.proofs.Common.{rules}
use native.Mathlib.Omega.{arith}
use Rattle.audit.proofs.UpTo.{bracket_start, bracket_up, bracket_down, met}
use Rattle.audit.proofs.up_to.Goals as goal

pub loop-low-init : goal.loop-low-init
loop-low-init c = let a = c.args in
    bracket_start a.slots.now a.when.0 c.front-low.result c.front-low.ensures

pub loop-low-preserved-then-slots-middle : goal.loop-low-preserved-then-slots-middle
loop-low-preserved-then-slots-middle c = let half = c in
    let loop = half in
    let a = loop.args in
    let ahead : half.min-ahead.result ≤ (loop.loop-low.high - loop.loop-low.low) / 2 = search rules in
    bracket_up a.slots.now a.when.0 loop.loop-low.low loop.loop-low.high loop.requires loop.loop-low.invariant (loop.loop-low.low + half.min-ahead.result) (omega arith) (omega (arith, ahead)) c.if-slots-middle.true

pub loop-low-preserved : goal.loop-low-preserved
loop-low-preserved c = let half = c in
    let loop = half in
    let a = loop.args in
    let ahead : half.min-ahead.result ≤ (loop.loop-low.high - loop.loop-low.low) / 2 = search rules in
    bracket_down a.slots.now a.when.0 loop.loop-low.low loop.loop-low.high loop.requires loop.loop-low.invariant (loop.loop-low.low + half.min-ahead.result) (omega arith) (omega (arith, ahead)) c.if-slots-middle.false

pub returns : goal.returns
returns c = let loop = c in
    let start = loop in
    met start.args.slots.now start.args.when.0 loop.loop-low.low loop.loop-low.high start.requires loop.loop-low.invariant c.loop-low-test.false
