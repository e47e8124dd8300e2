-- An arrival is decided by the rule; one that finds nothing held is held under either.
use Rattle.std.proofs.Common.{◌≡◌, length, refl, arith}
use Rattle.model.specs.Record.{lists_of}
use Rattle.laws.specs.AtOnce.{at_once}
use Rattle.queue.specs.declared.Choice.TheVariants.{Hold}
use Rattle.steps.specs.Step.{arrival}
use Rattle.steps.specs.Window.{window_of}
use Rattle.steps.proofs.Windows.{window_length}
use Rattle.steps_arrive.proofs.Arriving.{held, by_choice}
use Rattle.steps_arrive.proofs.Guarding.{place_within}
use Rattle.steps_arrive.proofs.Lending.{held_holds, arrived_steps}
use Rattle.runs_loop.proofs.Queueing.{by_queue, none_arrived, none_held}
use Rattle.runs_rule.proofs.Empty.{holds_at_once}
use Rattle.runs_rule.proofs.rule.ByRulePolicy.arrive.Goals as goal

pub returns-then-w : goal.returns-then-w
returns-then-w c =
    let a = c.args in
    let s = a.self.now in
    let done = c.hold in
    let before = lists_of a.fates.now a.whens.now a.bys.now in
    record {
      passed = λ free.
          let W = place_within a.w a.numbers.now a.values.now free in
          let queue = window_of a.w a.numbers.now a.values.now in
          let none : length queue ≡ 0 = omega (arith, window_length a.w a.numbers.now a.values.now W, c.if-w.true) in
          by_queue
          (by_choice a.w a.numbers.now a.values.now W a.slot a.p before (at_once s.room s.rule) Hold (holds_at_once s.room s.rule queue a.p s.le_room none)
          done.result done.new.numbers done.new.values before
          (held a.w a.numbers.now a.values.now W a.slot a.p before done.result done.new.numbers done.new.values
          (held_holds a.w a.numbers.now a.values.now free a.p done.result done.new.numbers done.new.values done.ensures)));
      failed = λ none. none_held a.w a.numbers.now a.values.now before before done.result done.new.numbers done.new.values none a.p done.ensures refl;
    }

pub returns : goal.returns
returns c =
    let a = c.args in
    let s = a.self.now in
    let done = c.arrive in
    let before = lists_of a.fates.now a.whens.now a.bys.now in
    let after = lists_of done.new.fates done.new.whens done.new.bys in
    record {
      passed = λ free.
          by_queue
          (arrived_steps a.w a.numbers.now a.values.now free s.room s.rule (arrival a.slot a.p) before after done.result done.new.numbers done.new.values done.ensures);
      failed = λ none.
          none_arrived a.w a.numbers.now a.values.now before after done.result done.new.numbers done.new.values none (at_once s.room s.rule) (arrival a.slot a.p) done.ensures;
    }
