-- `trace::slot_ok` meets its contract: at each return the tests that led there decide the parts of `slot_ok`.
use borrow.Author.Tests.{le-leb, lt-leb}
use Rattle.model.specs.Limits.{within}
use Rattle.trace.proofs.slot_ok.Goals as goal

pub returns-then-slot-lt1 : goal.returns-then-slot-lt1
unfolding within
returns-then-slot-lt1 c = simp (lt-leb _ _ c.if-slot-lt1.true)

pub returns-then-slot-gt-SLOT : goal.returns-then-slot-gt-SLOT
unfolding within
returns-then-slot-gt-SLOT c = simp (le-leb _ _ c.if-slot-lt1.false, lt-leb _ _ c.if-slot-gt-SLOT.true)

pub returns : goal.returns
unfolding within
returns c = simp (le-leb _ _ c.if-slot-lt1.false, le-leb _ _ c.if-slot-gt-SLOT.false)
