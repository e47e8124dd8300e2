-- Each arm of the match is the choice under its rule.
use mathlib.Core.Path.{◌∙◌, sym, ap}
use Rattle.model.specs.declared.Rule.{Rule}
use Rattle.queue.specs.Choose.{choose, of_choice}
use Rattle.queue.proofs.Choose.{plain}
use Rattle.queue.proofs.decide.Goals as goal

pub returns-in-Greedy : goal.returns-in-Greedy
returns-in-Greedy c = let a = c.args in
    ap of_choice
    (c.decide_greedy.ensures
    ∙ sym (plain a.values.now a.arrival a.room)
    ∙ ap (λ (rule : Rule). choose a.room rule a.values.now a.arrival) (sym c.in-Greedy.is))

pub returns-in-PG : goal.returns-in-PG
returns-in-PG c = let a = c.args in
    ap of_choice
    (c.decide_pg.ensures ∙ ap (λ (rule : Rule). choose a.room rule a.values.now a.arrival) (sym c.in-PG.is))
