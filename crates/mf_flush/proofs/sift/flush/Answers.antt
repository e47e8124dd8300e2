-- Under a head with no mark nothing goes.
use Rattle.model.specs.Record.{lists_of}
use Rattle.mf_flush.proofs.Flushing.{nothing_goes}
use Rattle.mf_flush.proofs.sift.flush.Goals as goal

pub returns-then-m-eq0 : goal.returns-then-m-eq0
returns-then-m-eq0 c = let a = c.args in
    nothing_goes a.m a.marks.now a.slot a.w a.numbers.now a.values.now (lists_of a.fates.now a.whens.now a.bys.now) c.requires c.if-m-eq0.true
