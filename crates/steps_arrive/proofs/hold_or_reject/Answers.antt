-- The test of the window decides what is left; where it passes, the bool decides which of two choices it is.
use Rattle.model.specs.Course.{held_if}
use Rattle.model.specs.Record.{lists_of}
use Rattle.steps.specs.Step.{arrival}
use Rattle.steps.specs.Lent.{lent, moved}
use Rattle.steps_arrive.proofs.Guarding.{has_place_lem, no_place, place_within, place_free}
use Rattle.steps_arrive.proofs.Deciding.{held_in_lem, rejected_in}
use Rattle.steps_arrive.proofs.Keeping.{arrival_kept, none_arrives}
use Rattle.steps_arrive.proofs.hold_or_reject.Goals as goal

pub returns-then-not-has_place : goal.returns-then-not-has_place
returns-then-not-has_place c = let a = c.args in
    none_arrives a.w a.numbers.now a.values.now (held_if a.keep) (arrival a.slot a.p) (lists_of a.fates.now a.whens.now a.bys.now)
    (no_place a.w a.numbers.now a.values.now _ c.has_place.ensures c.if-not-has_place.true-raw)

pub hold-requires : goal.hold-requires
hold-requires c = let a = c.args in
    let place = has_place_lem a.w a.numbers.now a.values.now _ c.has_place.ensures c.if-not-has_place.false-raw in
    record { within = place_within a.w a.numbers.now a.values.now place; head_in_bounds = place_free a.w a.numbers.now a.values.now place }

pub returns-then-holds : goal.returns-then-holds
returns-then-holds c = let a = c.args in
    let place = has_place_lem a.w a.numbers.now a.values.now _ c.has_place.ensures c.if-not-has_place.false-raw in
    let now = lists_of a.fates.now a.whens.now a.bys.now in
    let held = c.hold in
    let done = lent held.result held.new.numbers held.new.values in
    arrival_kept a.w a.numbers.now a.values.now (held_if a.keep) (arrival a.slot a.p) now (moved done now) place
    (rw c.if-holds.true (held_in_lem a.w a.numbers.now a.values.now (place_within a.w a.numbers.now a.values.now place) a.slot a.p now done held.ensures))

pub returns : goal.returns
returns c = let a = c.args in
    let place = has_place_lem a.w a.numbers.now a.values.now _ c.has_place.ensures c.if-not-has_place.false-raw in
    let now = lists_of a.fates.now a.whens.now a.bys.now in
    let entered = c.enter in
    let after = lists_of entered.new.fates entered.new.whens entered.new.bys in
    arrival_kept a.w a.numbers.now a.values.now (held_if a.keep) (arrival a.slot a.p) now (moved (lent a.w a.numbers.now a.values.now) after) place
    (rw c.if-holds.false (rejected_in a.w a.numbers.now a.values.now (place_within a.w a.numbers.now a.values.now place) a.slot a.p now after entered.ensures))
