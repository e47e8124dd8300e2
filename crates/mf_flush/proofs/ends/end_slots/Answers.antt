-- The invariant: the ends still to come complete what all of them do. They are over where no slot is left, or nothing is held.
use Prim.Native.Nat.{◌+◌, ◌<◌}
use mathlib.Core.Path.{refl, sym, ap₂, ◌∙◌}
use native.Mathlib.Omega.{arith}
use Rattle.model.specs.Policies.MF.{Marked, mf_policy}
use Rattle.model.specs.Record.{lists_of}
use Rattle.steps.specs.Window.{window_of}
use Rattle.mf_marks.specs.Mark.{beside}
use Rattle.steps.specs.Lent.{Lent, lent}
use Rattle.steps.proofs.Windows.{window, window_length}
use Rattle.mf_flush.proofs.Ending.{ending_all}
use Rattle.mf_flush.proofs.Leaving.{ends, ends_past, ends_idle, ends_turn}
use Rattle.mf_flush.proofs.Finishing.{left_turn, left_past, left_idle}
use Rattle.mf_flush.proofs.ends.end_slots.Goals as goal

pub loop-slot-init : goal.loop-slot-init
loop-slot-init c = let a = c.args in
    (record { within = c.requires; ends = ending_all (mf_policy a.room a.marking a.slots.now) a.until.0 a.from.0 (beside (window_of a.w a.numbers.now a.values.now) a.marks.now) (lists_of a.fates.now a.whens.now a.bys.now) }, refl)

pub loop-slot-preserved : goal.loop-slot-preserved
loop-slot-preserved c = let a = c.args in
    let loop = c.loop-slot in
    let end = c.end_slot-held in
    let state = beside (window_of (window loop.held.head loop.held.tail) loop.numbers loop.values) loop.marks in
    let some : loop.held.head < loop.held.tail = c.if-held.false in
    let held = window_length (window loop.held.head loop.held.tail) loop.numbers loop.values loop.invariant.0.within in
    let went =
    ap₂ (λ (s : Marked) (l : Lent). ends a.room a.marking a.slots.now a.until.0 (loop.slot + 1) s l) end.ensures.0.state end.ensures.1
    ∙ sym (ends_turn a.room a.marking a.slots.now a.until.0 loop.slot state (lent (window loop.held.head loop.held.tail) loop.numbers loop.values) c.loop-slot-test.true (omega (arith, held, some)))
    ∙ loop.invariant.1
    in (
      left_turn a.room a.marking a.slots.now a.until.0 a.from.0 (beside (window_of a.w a.numbers.now a.values.now) a.marks.now) (lists_of a.fates.now a.whens.now a.bys.now)
          loop.slot loop.held.head loop.held.tail loop.numbers loop.values loop.marks (lists_of loop.fates loop.whens loop.bys) loop.invariant.0 c.loop-slot-test.true some
          end.result end.new.numbers end.new.values end.new.marks (lists_of end.new.fates end.new.whens end.new.bys) end.ensures.0,
      went,
    )

pub returns-then-held : goal.returns-then-held
returns-then-held c = let a = c.args in
    let loop = c.loop-slot in (
      left_idle a.room a.marking a.slots.now a.until.0 a.from.0 (beside (window_of a.w a.numbers.now a.values.now) a.marks.now) (lists_of a.fates.now a.whens.now a.bys.now)
          loop.slot loop.held.head loop.held.tail loop.numbers loop.values loop.marks (lists_of loop.fates loop.whens loop.bys) loop.invariant.0 c.if-held.true,
      sym (ends_idle a.room a.marking a.slots.now a.until.0 loop.slot (beside (window_of (window loop.held.head loop.held.tail) loop.numbers loop.values) loop.marks) (lent (window loop.held.head loop.held.tail) loop.numbers loop.values)
          (omega (arith, window_length (window loop.held.head loop.held.tail) loop.numbers loop.values loop.invariant.0.within, c.if-held.true))) ∙ loop.invariant.1,
    )

pub returns : goal.returns
returns c = let a = c.args in
    let loop = c.loop-slot in (
      left_past a.room a.marking a.slots.now a.until.0 a.from.0 (beside (window_of a.w a.numbers.now a.values.now) a.marks.now) (lists_of a.fates.now a.whens.now a.bys.now)
          loop.slot loop.held.head loop.held.tail loop.numbers loop.values loop.marks (lists_of loop.fates loop.whens loop.bys) loop.invariant.0 c.loop-slot-test.false,
      sym (ends_past a.room a.marking a.slots.now a.until.0 loop.slot (beside (window_of (window loop.held.head loop.held.tail) loop.numbers loop.values) loop.marks) (lent (window loop.held.head loop.held.tail) loop.numbers loop.values) c.loop-slot-test.false) ∙ loop.invariant.1,
    )
