-- The invariant: what is left of the marking, on the marks as they are, gives what the whole gives on the marks as they were. Each turn is one step of the definition.
use Rattle.mf_marks.proofs.Marking.{Down}
use Rattle.mf_marks.proofs.step.mark_down.Given as goal

abbrev pub invariant-loop-i : goal.invariant-loop-i
invariant-loop-i l = Down l.numbers l.values l.head l.n l.lo l.r l.by l.initial.marks l.i l.left l.marks
