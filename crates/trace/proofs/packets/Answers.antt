-- `trace::packets` meets its contract. The loop's invariant: what the walk answers from the packet at place i on is what it answers of the whole trace.
use mathlib.Core.Path.{refl, sym, ◌∙◌}
use native.Mathlib.Omega.{arith}
use Rattle.trace.proofs.Laws.{turn, turn_none}
use Rattle.trace.specs.Checked.{ok_of}
use Rattle.trace.proofs.packets.Goals as goal

pub loop-i-init : goal.loop-i-init
loop-i-init c = (omega arith, refl)

-- the packet's turn, once both of its tests are made
pub returns-then-not-slot_fits : goal.returns-then-not-slot_fits
returns-then-not-slot_fits c =
    let a = c.args in
    let loop = c.loop-i in
    let this = turn (ok_of a.marking) a.slots.now a.values.now loop.before loop.i c.requires.equal c.loop-i-test.true c.slot_ok-slot_fits.ensures c.value_taken-value_fits.ensures in
    sym (this.by_slot (cc)) ∙ loop.invariant.1

pub returns-then-not-value_fits : goal.returns-then-not-value_fits
returns-then-not-value_fits c =
    let a = c.args in
    let loop = c.loop-i in
    let this = turn (ok_of a.marking) a.slots.now a.values.now loop.before loop.i c.requires.equal c.loop-i-test.true c.slot_ok-slot_fits.ensures c.value_taken-value_fits.ensures in
    sym (this.by_value (cc) (cc)) ∙ loop.invariant.1

pub loop-i-preserved : goal.loop-i-preserved
loop-i-preserved c =
    let a = c.args in
    let loop = c.loop-i in
    let this = turn (ok_of a.marking) a.slots.now a.values.now loop.before loop.i c.requires.equal c.loop-i-test.true c.slot_ok-slot_fits.ensures c.value_taken-value_fits.ensures in
    (omega arith, this.by_none (cc) (cc) ∙ loop.invariant.1)

pub returns : goal.returns
returns c =
    let a = c.args in
    sym (turn_none (ok_of a.marking) a.slots.now a.values.now c.loop-i.before c.loop-i.i c.loop-i-test.false)
    ∙ c.loop-i.invariant.1
