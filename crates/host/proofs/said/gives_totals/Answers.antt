-- By its two tests: 0, below the faults, or from the first on.
use Rattle.host.proofs.Saying.{gives_zero, gives_none, gives_some}
use Rattle.host.proofs.said.gives_totals.Goals as goal

pub returns-then-number-eq0 : goal.returns-then-number-eq0
returns-then-number-eq0 c = gives_zero _ c.if-number-eq0.true

pub returns-then-number-first : goal.returns-then-number-first
returns-then-number-first c = gives_none _ c.if-number-eq0.false c.from-first.ensures c.if-number-first.true

pub returns : goal.returns
returns c = gives_some _ c.if-number-eq0.false c.from-first.ensures c.if-number-first.false c.from-last.ensures
