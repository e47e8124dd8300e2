-- The test of the window decides what is left. The invariant: the sendings still to come complete what all of them do. Each turn ends one slot.
use mathlib.Core.Path.{refl, sym, ◌∙◌}
use native.Mathlib.Omega.{arith}
use borrow.Author.Tests.{not-true, not-false}
use Rattle.model.specs.Record.{lists_of}
use Rattle.steps.proofs.Windows.{window}
use Rattle.steps.proofs.Guarding.{lies_within_lem}
use Rattle.steps.proofs.Keeping.{sendings_kept, none_sent}
use Rattle.steps.proofs.Sending.{left_all, left_none, left_idle, left_turn}
use Rattle.steps.proofs.send_until.Goals as goal

pub returns-then-not-lies_within : goal.returns-then-not-lies_within
returns-then-not-lies_within c = let a = c.args in
    none_sent a.w a.numbers.now a.values.now a.from a.until (lists_of a.fates.now a.whens.now a.bys.now) (sym c.lies_within.ensures ∙ not-true _ c.if-not-lies_within.true-raw)

pub loop-slot-init : goal.loop-slot-init
loop-slot-init c = let a = c.args in
    let lies = sym c.lies_within.ensures ∙ not-false _ c.if-not-lies_within.false-raw in
    left_all a.numbers.now a.values.now a.w.tail a.until.0 a.w.head a.from.0 (lists_of a.fates.now a.whens.now a.bys.now) (lies_within_lem a.w a.numbers.now a.values.now lies)

pub returns-in_default : goal.returns-in_default
returns-in_default c = let loop = c in
    let a = c.args in
    let first = lists_of a.fates.now a.whens.now a.bys.now in
    let now = lists_of loop.loop-slot.fates loop.loop-slot.whens loop.loop-slot.bys in
    sendings_kept a.w a.numbers.now a.values.now a.from a.until first (window loop.loop-slot.head a.w.tail) now
    (sym c.lies_within.ensures ∙ not-false _ c.if-not-lies_within.false-raw)
    (left_idle a.numbers.now a.values.now a.w.tail a.until.0 a.w.head a.from.0 first loop.loop-slot.head loop.loop-slot.slot now loop.loop-slot.invariant
    (λ p e. c.in_default.not-Some p (c.oldest.ensures ∙ e)))
    refl

pub loop-slot-preserved : goal.loop-slot-preserved
loop-slot-preserved c = let enter = c.enter in
    let loop = c in
    let a = c.args in
    let first = lists_of a.fates.now a.whens.now a.bys.now in
    let now = lists_of loop.loop-slot.fates loop.loop-slot.whens loop.loop-slot.bys in
    let sent = sym c.oldest.ensures ∙ c.in-Some.is in
    let turn =
    left_turn a.numbers.now a.values.now a.w.tail a.until.0 a.w.head a.from.0 first loop.loop-slot.head loop.loop-slot.slot now loop.loop-slot.invariant
    c.in-Some.p (lists_of enter.new.fates enter.new.whens enter.new.bys) c.loop-slot-test.true sent enter.ensures in
    turn.1

pub returns : goal.returns
returns c = let loop = c in
    let a = c.args in
    let first = lists_of a.fates.now a.whens.now a.bys.now in
    let now = lists_of loop.loop-slot.fates loop.loop-slot.whens loop.loop-slot.bys in
    sendings_kept a.w a.numbers.now a.values.now a.from a.until first (window loop.loop-slot.head a.w.tail) now
    (sym c.lies_within.ensures ∙ not-false _ c.if-not-lies_within.false-raw)
    (left_none a.numbers.now a.values.now a.w.tail a.until.0 a.w.head a.from.0 first loop.loop-slot.head loop.loop-slot.slot now loop.loop-slot.invariant (omega arith))
    refl
