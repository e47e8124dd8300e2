-- The invariant: going on from place i with the marks as they are gives what going through all places gives with the marks as they were.
use Rattle.mf_marks.proofs.Marking.{Passing}
use Rattle.mf_marks.proofs.step.mark.Given as goal

abbrev pub invariant-loop-i : goal.invariant-loop-i
invariant-loop-i l = Passing l.numbers l.values l.slots l.head l.n l.marking l.slot l.initial.marks l.i l.marks
