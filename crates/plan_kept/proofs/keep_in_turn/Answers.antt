-- What is left of the order, taken in turn from what is kept now, gives what the whole order gives; and the counts are those of what is kept now.
use Rattle.std.proofs.Common.{refl, ◌∙◌}
use Rattle.plan_kept.proofs.Keeping.{turning_start, turning_next, turning_end}
use Rattle.plan_kept.proofs.keep_in_turn.Goals as goal

pub loop-place-init : goal.loop-place-init
loop-place-init c = (refl, c.requires.held_as, turning_start _ _ _ _)

pub loop-place-preserved : goal.loop-place-preserved
loop-place-preserved c = let loop = c.loop-place in
    let taken = c.keep_if_fits in
    (taken.auto.kept ∙ loop.invariant.0, taken.ensures.held_as_2, turning_next _ _ _ _ _ _ loop.invariant.2 c.loop-place-test.true _ taken.ensures.taken_in_turn)

pub returns : goal.returns
returns c = turning_end _ _ _ _ _ _ c.loop-place.invariant.2 c.loop-place-test.false
