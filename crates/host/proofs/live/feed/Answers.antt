-- `host::live::feed` meets its contract. The loop's invariant: what is heard of the events that are left, from the port and the sum so far, is what is heard of
-- all of them.
use mathlib.Core.Path.{refl, sym, ◌∙◌}
use native.Mathlib.Omega.{arith}
use Rattle.port.specs.State.{state_of}
use Rattle.host.proofs.Hearing.{mixed_fits, heard_done, heard_end, heard_arrival}
use Rattle.host.proofs.live.feed.Goals as goal
use Rattle.host.proofs.live.feed.Goals.{else-ends, then-ends}

pub loop-event-init : goal.loop-event-init
loop-event-init c = (omega arith, refl)

pub loop-event-preserved : goal.loop-event-preserved
loop-event-preserved c = let loop = c in
    let events = loop.args.events.now in
    let i = loop.loop-event.event-index in
    elim c.if-ends.branch [
      | then-ends w ↦ (
        rw (w.sum-is, w.mix_slot-sum.ensures) (mixed_fits _ _ _ _ _ _),
        rw (w.left-is, w.sum-is)
            (heard_end (state_of loop.loop-event.left) loop.loop-event.sum events i (omega arith) _ w.end_of_slot-end.ensures w.if-ends.true w.mix_slot-sum.ensures loop.loop-event.invariant.1),
      )
      | else-ends w ↦ (
        rw (w.sum-is, w.mix_arrival-sum.ensures) (mixed_fits _ _ _ _ _ _),
        rw (w.left-is, w.sum-is)
            (heard_arrival (state_of loop.loop-event.left) loop.loop-event.sum events i (omega arith) _ w.arrive-arrival.ensures w.if-ends.false w.mix_arrival-sum.ensures loop.loop-event.invariant.1),
      )
    ]

pub returns : goal.returns
returns c = let loop = c in
    sym (heard_done _ _ loop.args.events.now loop.loop-event.event-index (omega arith)) ∙ loop.loop-event.invariant.1
