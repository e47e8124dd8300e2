-- The lent parts are as long as the trace, nothing is kept yet, and so none is held; the order is the plan's, so what is kept in the end is the plan's.
use Rattle.std.proofs.Common.{rules, ◌≡◌, ◌∙◌, length, replicate}
use Rattle.std.proofs.Math.Seq.{length-take-le, take_at}
use Rattle.model.specs.Limits.{record_limits}
use Rattle.steps.proofs.Places.{first_zeros}
use Rattle.plan_kept.proofs.Keeping.{held_none}
use Rattle.plan_kept.proofs.Planned.{order_inside, plan_kept_lem}
use Rattle.plan_kept.proofs.keep_all.Goals as goal

pub keep_in_turn-requires-clause-held_as : goal.keep_in_turn-requires-clause-held_as
keep_in_turn-requires-clause-held_as c = let a = c.args in
    let none : c.fill.new.self ≡ replicate (length a.slots.now) 0 = search rules in
    held_none a.slots.now a.room c.fill.new.self _ none (first_zeros (length a.slots.now) record_limits.packets c.requires.accepted.few)

pub keep_in_turn-requires-clause-inside : goal.keep_in_turn-requires-clause-inside
keep_in_turn-requires-clause-inside c = let a = c.args in
    let n = length a.slots.now in
    let placed = c.by_falling_value in
    let zeros = length-take-le n _ c.requires.accepted.few in
    order_inside a.slots.now a.values.now a.room c.requires.accepted _ placed.new.order _ zeros (take_at placed.new.order _ n (placed.auto.order ∙ zeros)) placed.ensures

pub returns : goal.returns
returns c = let a = c.args in
    let n = length a.slots.now in
    let placed = c.by_falling_value in
    let zeros = length-take-le n _ c.requires.accepted.few in
    let none : c.fill.new.self ≡ replicate n 0 = search rules in
    plan_kept_lem a.slots.now a.values.now a.room c.requires.accepted _ placed.new.order _ zeros (take_at placed.new.order _ n (placed.auto.order ∙ zeros)) placed.ensures
    c.fill.new.self c.keep_in_turn.new.kept none c.keep_in_turn.ensures
