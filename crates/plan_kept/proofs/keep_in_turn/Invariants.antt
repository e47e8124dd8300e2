-- What is left of the order, taken in turn from what is kept now, gives what the whole order gives; and the counts are those of what is kept now.
use Rattle.std.proofs.Common.{◌≡◌, length}
use Rattle.plan_kept.specs.Keep.{HeldAs}
use Rattle.plan_kept.proofs.Keeping.{Turning}
use Rattle.plan_kept.proofs.keep_in_turn.Given as goal

abbrev pub invariant-loop-place : goal.invariant-loop-place
invariant-loop-place l = (length l.kept ≡ length l.initial.kept) × HeldAs l.slots l.room l.kept l.held × Turning l.slots l.room l.order l.initial.kept l.kept l.place-index
