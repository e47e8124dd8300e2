-- The place found is that of the beta step. Where none is found, as where nothing is held, plain greedy goes on.
use Rattle.std.proofs.Common.{◌∙◌, sym}
use Rattle.queue.proofs.Choose.{greedy_holds, greedy_overflows, nothing_held, preempts_first, preempts_none}
use Rattle.queue.proofs.decide_pg.Goals as goal

pub returns-in_default : goal.returns-in_default
returns-in_default c = let a = c.args in
    c.decide_greedy.ensures
    ∙ preempts_none a.beta a.arrival a.values.now a.room (sym (nothing_held a.beta a.arrival a.values.now (sym c.lowest.ensures ∙ c.in_default.is)))

pub preempted-requires : goal.preempted-requires
preempted-requires c = sym c.lowest.ensures ∙ c.in-Some.is

pub overflow-requires : goal.overflow-requires
overflow-requires c = sym c.lowest.ensures ∙ c.in-Some.is

pub returns-in-Some-preempted : goal.returns-in-Some-preempted
returns-in-Some-preempted c = let a = c.args in
    preempts_first a.beta a.arrival a.values.now a.room c.in-Some-preempted.place (sym c.preempted.ensures ∙ c.in-Some-preempted.is)

pub returns-then-values-room : goal.returns-then-values-room
returns-then-values-room c = let a = c.args in
    greedy_holds a.values.now a.arrival a.room c.if-values-room.true
    ∙ preempts_none a.beta a.arrival a.values.now a.room (sym c.preempted.ensures ∙ c.in_default-preempted.is)

pub returns-else-values-room : goal.returns-else-values-room
returns-else-values-room c = let a = c.args in
    c.overflow.ensures
    ∙ greedy_overflows a.values.now a.arrival a.room c.if-values-room.false
    ∙ preempts_none a.beta a.arrival a.values.now a.room (sym c.preempted.ensures ∙ c.in_default-preempted.is)
