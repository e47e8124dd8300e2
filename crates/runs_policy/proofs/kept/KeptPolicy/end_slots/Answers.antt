-- The ends of slots only send.
use Rattle.model.specs.Policies.Plan.{kept_rule}
use Rattle.model.specs.Record.{lists_of}
use Rattle.runs_loop.proofs.Queueing.{sends}
use Rattle.runs_policy.proofs.kept.KeptPolicy.end_slots.Goals as goal

pub returns-clause-ends : goal.returns-clause-ends
returns-clause-ends c =
    let a = c.args in
    let sent = c.send_until in
    sends a.w a.numbers.now a.values.now (lists_of a.fates.now a.whens.now a.bys.now) (lists_of sent.new.fates sent.new.whens sent.new.bys) sent.result a.from a.until sent.ensures
    (kept_rule a.self.now.kept.now)
