-- At each return the tests that led there decide the parts of `place_in`.
use borrow.Author.Tests.{le-leb, lt-leb, eq-eqb, ne_eqb}
use Rattle.steps_arrive.proofs.has_place.Goals as goal

pub returns-then-w : goal.returns-then-w
returns-then-w c = simp (lt-leb _ _ c.if-w.true)

pub returns-then-values-w : goal.returns-then-values-w
returns-then-values-w c = simp (le-leb _ _ c.if-w.false, lt-leb _ _ c.if-values-w.true)

pub returns-then-numbers-values : goal.returns-then-numbers-values
returns-then-numbers-values c = simp (le-leb _ _ c.if-w.false, le-leb _ _ c.if-values-w.false, ne_eqb _ _ c.if-numbers-values.true)

pub returns : goal.returns
returns c = simp (le-leb _ _ c.if-w.false, le-leb _ _ c.if-values-w.false, eq-eqb _ _ c.if-numbers-values.false)
