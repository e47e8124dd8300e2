-- A kept packet is held, any other rejected.
use Rattle.model.specs.Course.{held_if}
use Rattle.model.specs.Policies.Plan.{kept_rule}
use Rattle.model.specs.Record.{lists_of}
use Rattle.steps.specs.Step.{arrival}
use Rattle.steps_arrive.proofs.Lending.{kept_steps}
use Rattle.runs_loop.proofs.Queueing.{by_queue, none_arrived}
use Rattle.runs_policy.proofs.kept.KeptPolicy.arrive.Goals as goal

pub returns : goal.returns
unfolding kept_rule
returns c =
    let a = c.args in
    let keep = c.is_kept-keep in
    let done = c.hold_or_reject in
    let before = lists_of a.fates.now a.whens.now a.bys.now in
    let after = lists_of done.new.fates done.new.whens done.new.bys in
    let here = arrival a.slot a.p in
    record {
      passed = λ free.
          let steps = kept_steps a.w a.numbers.now a.values.now free keep.result here before after done.result done.new.numbers done.new.values done.ensures in
          by_queue (rw keep.ensures at steps);
      failed = λ none. none_arrived a.w a.numbers.now a.values.now before after done.result done.new.numbers done.new.values none (held_if keep.result) here done.ensures;
    }
