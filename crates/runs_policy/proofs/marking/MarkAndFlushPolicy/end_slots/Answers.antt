-- The ends of slots mark and flush.
use Rattle.model.specs.Record.{lists_of}
use Rattle.runs_policy.proofs.Marked.{ends}
use Rattle.runs_policy.proofs.marking.MarkAndFlushPolicy.end_slots.Goals as goal

pub returns-clause-ends : goal.returns-clause-ends
returns-clause-ends c =
    let a = c.args in
    let s = a.self.now in
    let ended = c.end_slots in
    ends s.room s.marking s.slots.now a.w a.numbers.now a.values.now s.marks.now (lists_of a.fates.now a.whens.now a.bys.now)
    (lists_of ended.new.fates ended.new.whens ended.new.bys) ended.result ended.new.numbers ended.new.values ended.new.marks a.from a.until ended.ensures
