-- The test of the window decides what is left. The invariant: the sendings still to come complete what all of them do. Each turn ends one slot.
use Rattle.model.specs.Record.{lists_of}
use Rattle.steps.proofs.Sending.{Left}
use Rattle.steps.proofs.send_until.Given as goal

abbrev pub invariant-loop-slot : goal.invariant-loop-slot
invariant-loop-slot l =
    Left l.numbers l.values l.tail l.slot-end l.initial.head l.initial.slot (lists_of l.initial.fates l.initial.whens l.initial.bys) l.head l.slot (lists_of l.fates l.whens l.bys)
