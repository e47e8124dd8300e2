-- Where the window has come to the end of its lists it moves to their start, and then a place behind it is free.
use native.Mathlib.Omega.{arith}
use Rattle.steps_arrive.proofs.Placing.{open_here, open_start}
use borrow.Author.Rules.{rules}
use Rattle.steps_arrive.proofs.held.freed.Goals as goal

pub returns-then-free : goal.returns-then-free
returns-then-free c = let start = c in
    let a = start.args in
    (open_here a.w a.numbers.now a.values.now start.requires.within (omega arith), omega arith)

pub returns : goal.returns
returns c = let start = c in
    let a = start.args in (
      rw (c.slide.ensures, c.slide-2.ensures)
          (open_start a.w a.numbers.now a.values.now start.requires.within (omega arith)),
      search rules,
    )
