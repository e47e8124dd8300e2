-- An arrival of at most the lowest held value is the loser itself; above it, the newest of the lowest is.
use Rattle.std.proofs.Common.{◌∙◌, sym}
use Rattle.queue.proofs.Choose.{overflow_rejects, overflow_pushes}
use Rattle.queue.proofs.Loser.{held_there}
use Rattle.queue.proofs.overflow.Goals as goal

pub returns-then-arrival-low : goal.returns-then-arrival-low
returns-then-arrival-low c = overflow_rejects _ _ c.args.low c.requires c.if-arrival-low.true

pub unwrap-place-requires : goal.unwrap-place-requires
unwrap-place-requires c = rw c.newest.ensures (held_there _ c.args.low c.requires)

pub returns : goal.returns
returns c = overflow_pushes _ _ c.args.low c.requires c.unwrap-place.result c.if-arrival-low.false (sym c.newest.ensures ∙ c.unwrap-place.ensures)
