-- `audit::sweep` meets its contract. The loop's invariant is what Kept says of the packets passed; each way through a turn is one of the laws of Turn.
use Rattle.audit.proofs.Kept.{Kept}
use Rattle.model.specs.Record.{lists_of}
use Rattle.audit.proofs.sweep.Given as goal

abbrev pub invariant-loop-i : goal.invariant-loop-i
invariant-loop-i l = Kept l.slots l.values l.room (lists_of l.fates l.whens l.bys) l.i l.held l.most l.last.0 l.leaving
