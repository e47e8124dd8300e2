-- The packet is written behind the window, at the place that was made free.
use Rattle.steps.specs.Window.{window_of}
use Rattle.steps.specs.Lent.{lent}
use Rattle.steps_arrive.specs.Arrive.{open_place}
use Rattle.steps.proofs.Placing.{placed_behind}
use Rattle.steps_arrive.proofs.held.hold.Goals as goal

pub returns : goal.returns
returns c = let freed = c.freed-o in
    let a = c.args in
    placed_behind (open_place (lent a.w a.numbers.now a.values.now)) (window_of a.w a.numbers.now a.values.now) (lent a.w a.numbers.now a.values.now)
    a.p (lent freed.result freed.new.numbers freed.new.values) freed.ensures.0
