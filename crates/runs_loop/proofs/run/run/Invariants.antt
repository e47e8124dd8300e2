-- The invariant: the policy is the same, and the run is going. The window's queue, with what the policy keeps, is the state, and what is left of the course
-- completes the entries and the greatest length.
use Rattle.std.proofs.Common.{◌≡◌, []}
use Rattle.model.specs.Record.{lists_of}
use Rattle.steps.specs.Window.{window_of}
use Rattle.steps.proofs.Running.{Going}
use Rattle.runs_loop.proofs.run.run.Given as goal

abbrev pub invariant-loop-i : goal.invariant-loop-i
invariant-loop-i g l =
    let m = g.P.Policy in
    let before = lists_of l.initial.fates l.initial.whens l.initial.bys in
    let now = lists_of l.fates l.whens l.bys in
    (m.policy l.policy ≡ m.policy l.fn.policy)
    × Going (m.policy l.fn.policy) (m.state l.fn.policy []) l.slots l.values before
    (m.state l.policy (window_of l.w l.numbers l.held_values)) l.numbers l.held_values l.w.head l.w.tail l.last.0 l.most l.i now
