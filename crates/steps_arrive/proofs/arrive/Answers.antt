-- The test of the window decides what is left. Where it passes, the choice made on the values of the window is the decision of the rule on its queue, and each
-- case leaves what the decision says.
use native.Mathlib.Omega.{arith}
use mathlib.Core.Path.{sym, ◌∙◌}
use Rattle.model.specs.Record.{lists_of}
use Rattle.queue.specs.declared.Choice.TheVariants.{Hold, Reject}
use Rattle.queue.proofs.Told.{told}
use Rattle.laws.specs.AtOnce.{at_once}
use Rattle.steps.specs.Step.{arrival}
use Rattle.steps.specs.Lent.{lent, moved}
use Rattle.steps.proofs.Windows.{part_length}
use Rattle.steps_arrive.proofs.Guarding.{has_place_lem, no_place, place_within, place_free}
use Rattle.steps_arrive.proofs.Arriving.{lost_inside}
use Rattle.steps_arrive.proofs.Deciding.{held_in_lem, rejected_in, by_rule_lem}
use Rattle.steps_arrive.proofs.Keeping.{arrival_kept, none_arrives}
use borrow.Author.Rules.{rules}
use Rattle.steps_arrive.proofs.arrive.Goals as goal

pub returns-then-not-has_place : goal.returns-then-not-has_place
returns-then-not-has_place c = let a = c.args in
    none_arrives a.w a.numbers.now a.values.now (at_once a.room a.rule) (arrival a.slot a.p) (lists_of a.fates.now a.whens.now a.bys.now)
    (no_place a.w a.numbers.now a.values.now _ c.has_place.ensures c.if-not-has_place.true-raw)

pub offset_bounds-values-head : goal.offset_bounds-values-head
offset_bounds-values-head c = let a = c.args in
    let within = place_within a.w a.numbers.now a.values.now (has_place_lem a.w a.numbers.now a.values.now _ c.has_place.ensures c.if-not-has_place.false-raw) in
    search (rules, within)

pub slice_bounds-decide-count : goal.slice_bounds-decide-count
slice_bounds-decide-count c = let a = c.args in
    let within = place_within a.w a.numbers.now a.values.now (has_place_lem a.w a.numbers.now a.values.now _ c.has_place.ensures c.if-not-has_place.false-raw) in
    omega (arith, within.ordered)

pub slice_bounds-decide-start : goal.slice_bounds-decide-start
slice_bounds-decide-start c = let a = c.args in
    let within = place_within a.w a.numbers.now a.values.now (has_place_lem a.w a.numbers.now a.values.now _ c.has_place.ensures c.if-not-has_place.false-raw) in
    omega (arith, within.ordered)

pub slice_bounds-decide-end : goal.slice_bounds-decide-end
slice_bounds-decide-end c = let a = c.args in
    let within = place_within a.w a.numbers.now a.values.now (has_place_lem a.w a.numbers.now a.values.now _ c.has_place.ensures c.if-not-has_place.false-raw) in
    omega (arith, within.inside)

pub hold-requires : goal.hold-requires
hold-requires c = let a = c.args in
    let place = has_place_lem a.w a.numbers.now a.values.now _ c.has_place.ensures c.if-not-has_place.false-raw in
    record { within = place_within a.w a.numbers.now a.values.now place; head_in_bounds = place_free a.w a.numbers.now a.values.now place }

pub replace-requires : goal.replace-requires
replace-requires c = let a = c.args in
    let within = place_within a.w a.numbers.now a.values.now (has_place_lem a.w a.numbers.now a.values.now _ c.has_place.ensures c.if-not-has_place.false-raw) in
    let chosen = sym (told _ _ c.decide.ensures) ∙ c.in-Lose.is in
    let inside = lost_inside a.room a.rule _ a.p.value _ _ chosen in
    record { within = within; place_bound = omega (arith, inside, part_length a.w a.values.now within.inside) }

pub returns-in-Hold : goal.returns-in-Hold
returns-in-Hold c = let a = c.args in
    let place = has_place_lem a.w a.numbers.now a.values.now _ c.has_place.ensures c.if-not-has_place.false-raw in
    let within = place_within a.w a.numbers.now a.values.now place in
    let now = lists_of a.fates.now a.whens.now a.bys.now in
    let held = c.hold in
    let done = lent held.result held.new.numbers held.new.values in
    let left = moved done now in
    arrival_kept a.w a.numbers.now a.values.now (at_once a.room a.rule) (arrival a.slot a.p) now left place
    (by_rule_lem a.w a.numbers.now a.values.now within a.slot a.p now a.room a.rule Hold
    (sym (told _ _ c.decide.ensures) ∙ c.in-Hold.is) left
    (held_in_lem a.w a.numbers.now a.values.now within a.slot a.p now done held.ensures))

pub returns-in-Reject : goal.returns-in-Reject
returns-in-Reject c = let a = c.args in
    let place = has_place_lem a.w a.numbers.now a.values.now _ c.has_place.ensures c.if-not-has_place.false-raw in
    let within = place_within a.w a.numbers.now a.values.now place in
    let now = lists_of a.fates.now a.whens.now a.bys.now in
    let entered = c.enter in
    let after = lists_of entered.new.fates entered.new.whens entered.new.bys in
    let left = moved (lent a.w a.numbers.now a.values.now) after in
    arrival_kept a.w a.numbers.now a.values.now (at_once a.room a.rule) (arrival a.slot a.p) now left place
    (by_rule_lem a.w a.numbers.now a.values.now within a.slot a.p now a.room a.rule Reject
    (sym (told _ _ c.decide.ensures) ∙ c.in-Reject.is) left
    (rejected_in a.w a.numbers.now a.values.now within a.slot a.p now after entered.ensures))

pub returns-in-Lose : goal.returns-in-Lose
returns-in-Lose c = let a = c.args in
    let place = has_place_lem a.w a.numbers.now a.values.now _ c.has_place.ensures c.if-not-has_place.false-raw in
    let within = place_within a.w a.numbers.now a.values.now place in
    let now = lists_of a.fates.now a.whens.now a.bys.now in
    let replaced = c.replace in
    let left =
    moved (lent replaced.result replaced.new.numbers replaced.new.values) (lists_of replaced.new.fates replaced.new.whens replaced.new.bys) in
    arrival_kept a.w a.numbers.now a.values.now (at_once a.room a.rule) (arrival a.slot a.p) now left place
    (by_rule_lem a.w a.numbers.now a.values.now within a.slot a.p now a.room a.rule _
    (sym (told _ _ c.decide.ensures) ∙ c.in-Lose.is) left
    replaced.ensures)
