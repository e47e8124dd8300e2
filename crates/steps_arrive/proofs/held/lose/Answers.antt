-- The packets behind the place move down by one, and the window ends one place earlier.
use Rattle.steps_arrive.proofs.Placing.{placed_without}
use Rattle.steps_arrive.proofs.held.lose.Goals as goal

pub returns : goal.returns
returns c = let start = c in
    let a = start.args in
    rw (c.slide.ensures, c.slide-2.ensures)
    (placed_without a.w a.numbers.now a.values.now start.requires.within a.place start.requires.place_bound)
