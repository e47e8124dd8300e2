-- `trace::slots_fit` meets its contract. The loop's invariant: where nothing bad was found, all that was passed fits.
use mathlib.Core.Path.{refl}
use native.Mathlib.Omega.{arith}
use native.Mathlib.Numerals.{add-one}
use borrow.Author.Tests.{not-true}
use Rattle.trace.proofs.Fitting.{slots_more}
use Rattle.trace.proofs.slots_fit.Goals as goal

pub loop-slot-init : goal.loop-slot-init
loop-slot-init c = (omega arith, refl, λ e k h. absurd (omega arith))

pub loop-slot-preserved : goal.loop-slot-preserved
loop-slot-preserved c = let loop = c in
    let slots = loop.args.slots.now in
    (omega arith, rw add-one refl, slots_more slots loop.loop-slot.slot-index loop.loop-slot.last loop.loop-slot.invariant.1 loop.loop-slot.invariant.2 refl)

pub returns : goal.returns
returns c = λ e k h. c.loop-slot.invariant.2 (not-true _ e) k (omega arith)
