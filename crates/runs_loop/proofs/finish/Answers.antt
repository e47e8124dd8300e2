-- The run writes the record and answers its greatest length, from which and from the record the totals are counted.
use Rattle.std.proofs.Common.{[]}
use Rattle.std.proofs.Math.Logic.{∥∥₁_elim}
use Rattle.model.specs.Record.{lists_of}
use Rattle.steps.proofs.Answering.{finished}
use Rattle.runs_loop.proofs.Lists.{outcome_set}
use Rattle.runs_loop.proofs.finish.Goals as goal

pub returns-clause-ran : goal.returns-clause-ran
returns-clause-ran g c =
    let a = c.args in
    let m = g.P.Policy in
    let done = c.run-most in
    let before = lists_of a.fates.now a.whens.now a.bys.now in
    λ sized.
    ∥∥₁_elim a.accepted.ready (outcome_set _ _)
    (λ ready.
    finished (m.policy a.accepted.policy) (m.state a.accepted.policy []) a.accepted.slots.now a.accepted.values.now before (ready before sized)
    (lists_of done.new.fates done.new.whens done.new.bys) done.result done.ensures c.totals.result c.totals.ensures)
