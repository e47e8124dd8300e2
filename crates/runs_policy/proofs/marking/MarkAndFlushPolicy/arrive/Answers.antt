-- An arrival goes as in plain greedy, and the marks stay.
use Rattle.model.specs.declared.Rule.TheVariants.{Greedy}
use Rattle.model.specs.Policies.Greedy.{greedy_rule}
use Rattle.model.specs.Record.{lists_of}
use Rattle.steps.specs.Step.{arrival}
use Rattle.steps_arrive.proofs.Lending.{arrived_steps}
use Rattle.runs_loop.proofs.Queueing.{none_arrived}
use Rattle.runs_policy.proofs.Marked.{arrival_done}
use Rattle.runs_policy.proofs.marking.MarkAndFlushPolicy.arrive.Goals as goal

pub returns : goal.returns
returns c =
    let a = c.args in
    let s = a.self.now in
    let done = c.arrive in
    let before = lists_of a.fates.now a.whens.now a.bys.now in
    let after = lists_of done.new.fates done.new.whens done.new.bys in
    let here = arrival a.slot a.p in
    record {
      passed = λ free.
          arrival_done s.room s.marking s.slots.now a.w a.numbers.now a.values.now s.marks.now before after done.result done.new.numbers done.new.values here
          (arrived_steps a.w a.numbers.now a.values.now free s.room Greedy here before after done.result done.new.numbers done.new.values done.ensures);
      failed = λ none. none_arrived a.w a.numbers.now a.values.now before after done.result done.new.numbers done.new.values none (greedy_rule s.room) here done.ensures;
    }
