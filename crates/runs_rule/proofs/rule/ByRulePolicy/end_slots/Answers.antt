-- The ends of slots only send, under either rule.
use Rattle.laws.specs.AtOnce.{at_once}
use Rattle.model.specs.Record.{lists_of}
use Rattle.runs_loop.proofs.Queueing.{sends}
use Rattle.runs_rule.proofs.rule.ByRulePolicy.end_slots.Goals as goal

pub returns-clause-ends : goal.returns-clause-ends
returns-clause-ends c =
    let a = c.args in
    let sent = c.send_until in
    sends a.w a.numbers.now a.values.now (lists_of a.fates.now a.whens.now a.bys.now) (lists_of sent.new.fates sent.new.whens sent.new.bys) sent.result a.from a.until sent.ensures
    (at_once a.self.now.room a.self.now.rule)
