-- The test of the room decides between the two cases of the definition. Where nothing is held the arrival is the loser.
use mathlib.Core.Path.{sym, ◌∙◌}
use native.Mathlib.Omega.{arith}
use Rattle.queue.proofs.Choose.{greedy_holds, greedy_overflows, overflow_empty}
use Rattle.queue.proofs.decide_greedy.Goals as goal

pub returns-in-None : goal.returns-in-None
returns-in-None c = overflow_empty _ _ (sym c.lowest.ensures ∙ c.in-None.is) ∙ greedy_overflows _ _ _ (omega arith)

pub overflow-requires : goal.overflow-requires
overflow-requires c = sym c.lowest.ensures ∙ c.in-Some.is

pub returns-in-Some : goal.returns-in-Some
returns-in-Some c = c.overflow.ensures ∙ greedy_overflows _ _ _ (omega arith)

pub returns-else-room-values : goal.returns-else-room-values
returns-else-room-values c = greedy_holds _ _ _ (omega arith)
