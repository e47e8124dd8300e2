-- The test of the window decides what is left.
use Rattle.steps.specs.Lent.{lent}
use Rattle.steps_arrive.proofs.Guarding.{has_place_lem, no_place, place_within, place_free}
use Rattle.steps_arrive.proofs.Keeping.{held_kept, none_held}
use Rattle.steps_arrive.proofs.hold.Goals as goal

pub returns-then-not-has_place : goal.returns-then-not-has_place
returns-then-not-has_place c = let a = c.args in
    none_held a.w a.numbers.now a.values.now a.p (no_place a.w a.numbers.now a.values.now _ c.has_place.ensures c.if-not-has_place.true-raw)

pub hold-requires : goal.hold-requires
hold-requires c = let a = c.args in
    let place = has_place_lem a.w a.numbers.now a.values.now _ c.has_place.ensures c.if-not-has_place.false-raw in
    record { within = place_within a.w a.numbers.now a.values.now place; head_in_bounds = place_free a.w a.numbers.now a.values.now place }

pub returns : goal.returns
returns c = let a = c.args in
    let held = c.hold in
    held_kept a.w a.numbers.now a.values.now a.p (lent held.result held.new.numbers held.new.values) (has_place_lem a.w a.numbers.now a.values.now _ c.has_place.ensures c.if-not-has_place.false-raw) held.ensures
