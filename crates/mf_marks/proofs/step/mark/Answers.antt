-- The invariant: going on from place i with the marks as they are gives what going through all places gives with the marks as they were.
use Prim.Native.Nat.{◌+◌, ◌-◌}
use mathlib.Core.Path.{ap, ◌∙◌}
use mathlib.Core.List.{List, []}
use native.Mathlib.Omega.{arith}
use Rattle.model.specs.declared.Packet.{Packet}
use Rattle.model.specs.Policies.MF.{mark_from}
use Rattle.steps.specs.Window.{Within}
use Rattle.steps.proofs.Windows.{window}
use Rattle.mf_marks.proofs.Marking.{window_take, passing_all, passing_none, passing_turn}
use Rattle.mf_marks.proofs.step.mark.Goals as goal

pub loop-i-init : goal.loop-i-init
loop-i-init c = let a = c.args in
    passing_all a.numbers.now a.values.now a.slots.now a.w.head c.positions-n.result a.marking a.slot a.marks.now

pub loop-i-preserved : goal.loop-i-preserved
loop-i-preserved c = let a = c.args in
    let loop = c.loop-i in
    let n = c.positions-n.result in
    let W : Within (window a.w.head (a.w.head + n)) a.numbers.now a.values.now = record { ordered = omega arith; inside = omega arith; same = c.requires.same } in
    passing_turn a.numbers.now a.values.now a.slots.now a.w.head n a.marking a.slot a.marks.now
    W loop.i loop.marks loop.invariant c.loop-i-test.true c.mark_by.new.marks c.mark_by.ensures c.mark_by.auto.marks

pub returns : goal.returns
returns c = let a = c.args in
    let loop = c.loop-i in
    let n = c.positions-n.result in
    let W : Within (window a.w.head (a.w.head + n)) a.numbers.now a.values.now = record { ordered = omega arith; inside = omega arith; same = c.requires.same } in
    passing_none a.numbers.now a.values.now a.slots.now a.w.head n a.marking a.slot a.marks.now W loop.i loop.marks loop.invariant c.loop-i-test.false
    ∙ ap (λ (queue : List Packet). mark_from a.marking a.slots.now a.slot [] queue a.marks.now)
    (window_take a.w a.numbers.now a.values.now c.requires n (a.room - 1) c.positions-n.ensures)
