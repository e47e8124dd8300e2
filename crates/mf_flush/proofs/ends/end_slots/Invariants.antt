-- The invariant: the ends still to come complete what all of them do. They are over where no slot is left, or nothing is held.
use mathlib.Core.Path.{◌≡◌}
use Rattle.model.specs.Record.{lists_of}
use Rattle.steps.specs.Window.{window_of}
use Rattle.mf_marks.specs.Mark.{beside}
use Rattle.steps.specs.Lent.{lent}
use Rattle.steps.proofs.Windows.{window}
use Rattle.mf_flush.proofs.Leaving.{ends}
use Rattle.mf_flush.proofs.Finishing.{Left}
use Rattle.mf_flush.proofs.ends.end_slots.Given as goal

abbrev pub invariant-loop-slot : goal.invariant-loop-slot
invariant-loop-slot l =
    Left l.room l.marking l.slots l.slot-end l.initial.slot (beside (window_of l.initial.held l.initial.numbers l.initial.values) l.initial.marks) (lists_of l.initial.fates l.initial.whens l.initial.bys)
    l.slot l.held.head l.held.tail l.numbers l.values l.marks (lists_of l.fates l.whens l.bys)
    × (ends l.room l.marking l.slots l.slot-end l.slot (beside (window_of (window l.held.head l.held.tail) l.numbers l.values) l.marks) (lent (window l.held.head l.held.tail) l.numbers l.values)
    ≡ ends l.room l.marking l.slots l.slot-end l.initial.slot (beside (window_of l.initial.held l.initial.numbers l.initial.values) l.initial.marks) (lent l.initial.held l.initial.numbers l.initial.values))
