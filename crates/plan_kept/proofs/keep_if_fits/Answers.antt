-- A packet that is kept already stays so. Any other is kept where it reaches its end, and the counts on the way are then one more.
use Prim.Native.Nat.{◌<◌}
use mathlib.Core.Path.{◌≡◌}
use native.Mathlib.Omega.{arith}
use lib.ListN.{length, get_or}
use Rattle.plan_kept.proofs.Keeping.{more_kept, tried_not, tried_again}
use Rattle.plan_kept.proofs.keep_if_fits.Goals as goal

pub returns-then-kept-place-eq1 : goal.returns-then-kept-place-eq1
returns-then-kept-place-eq1 c = let start = c in
    record { held_as_2 = start.requires.held_as; taken_in_turn = tried_again _ _ _ _ c.if-kept-place-eq1.true }

pub raise-requires : goal.raise-requires
raise-requires c = let start = c in
    let spans = c.reach-end.ensures.spans c.if-place-end.true in
    record { some = omega arith; inside = omega (arith, spans.inside, start.requires.held_as.same); low = λ k l m. omega (arith, spans.roomy k l m, start.requires.keepable.room_to) }

pub returns-then-place-end : goal.returns-then-place-end
returns-then-place-end c = let start = c in
    let inside : start.args.place < length start.args.slots.now = omega (arith, start.requires.keepable.same, start.requires.place_in_bounds) in
    let free : get_or start.args.kept.now start.args.place 0 ≡ 0 = omega (arith, start.requires.held_as.single start.args.place inside, c.if-kept-place-eq1.false) in
    let both = more_kept start.args.slots.now start.args.room start.args.kept.now start.args.held.now start.args.place start.requires.keepable start.requires.held_as inside free _ c.if-place-end.true (c.reach-end.ensures.spans c.if-place-end.true) _ c.raise.ensures in
    record { held_as_2 = both.0; taken_in_turn = both.1 }

pub returns-else-place-end : goal.returns-else-place-end
returns-else-place-end c = let start = c in
    let inside : start.args.place < length start.args.slots.now = omega (arith, start.requires.keepable.same, start.requires.place_in_bounds) in
    let free : get_or start.args.kept.now start.args.place 0 ≡ 0 = omega (arith, start.requires.held_as.single start.args.place inside, c.if-kept-place-eq1.false) in
    record { held_as_2 = start.requires.held_as; taken_in_turn = tried_not _ _ _ _ (c.reach-end.ensures.none c.if-place-end.false _ start.requires.keepable start.requires.held_as free) }
