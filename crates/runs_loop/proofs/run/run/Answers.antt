-- The invariant holds before the first packet, each packet takes the run one place further, and the ends of slots complete it.
use Rattle.std.proofs.Common.{◌≡◌, [], ◌+◌, ◌-◌, max, refl, ◌∙◌, arith, rules}
use Rattle.model.specs.Record.{lists_of}
use Rattle.steps.proofs.Guarding.{within_lies}
use Rattle.steps.proofs.Running.{going_free}
use Rattle.steps_arrive.proofs.Guarding.{free_place}
use Rattle.runs_loop.proofs.Going.{started, turn_taken, ends_taken}
use Rattle.runs_loop.proofs.run.run.Goals as goal

pub loop-i-init : goal.loop-i-init
loop-i-init g c =
    let a = c.args in
    let m = g.P.Policy in
    (refl, started (m.policy a.policy) a.slots.now a.values.now (lists_of a.fates.now a.whens.now a.bys.now) (m.state a.policy) (g.met.P.Policy.held a.policy) _ _ (search rules) (search rules))

pub loop-i-preserved : goal.loop-i-preserved
loop-i-preserved g c =
    let a = c.args in
    let m = g.P.Policy in
    let at = c.loop-i in
    let ended = c.end_slots-left in
    let arrived = c.arrive-w in
    let ends = ended.ensures.ends.passed (within_lies at.w at.numbers at.held_values at.invariant.1.within) in
    let short = going_free (m.policy a.policy) (m.state a.policy []) a.slots.now a.values.now _ c.requires _ at.numbers at.held_values at.w.head at.w.tail at.last.0 at.most at.i _ at.invariant.1 in
    let free = free_place ended.result ended.new.numbers ended.new.values ends.0.within (omega (arith, ends.1, ended.auto.values, short)) in
    let same = ended.ensures.same ∙ at.invariant.0 in
    let holds = rw same at (g.met.P.Policy.held ended.new.self) in
    let most : c.max-most.result ≡ max at.most (arrived.result.tail - arrived.result.head) = search rules in
    let G = turn_taken c.requires at.invariant.1 at.invariant.0 (at.i, (_, _)) (c.loop-i-test.true, refl) (m.state ended.new.self) holds ended.ensures.same ends.0 (arrived.ensures.passed free)
    (arrived.auto.values ∙ ended.auto.values) most in
    (same, G)

pub returns : goal.returns
returns g c =
    let a = c.args in
    let m = g.P.Policy in
    let at = c.loop-i in
    let ends = c.end_slots.ensures.ends.passed (within_lies at.w at.numbers at.held_values at.invariant.1.within) in
    ends_taken c.requires at.invariant.1 at.invariant.0 (omega (arith, c.loop-i-test.false, at.auto.i-end))
    (record { 0 = at.last.0 + (at.w.tail - at.w.head) }) refl (m.state c.end_slots.new.self) ends.0
