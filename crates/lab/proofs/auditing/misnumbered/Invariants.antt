-- `lab::auditing::misnumbered` meets its contract: the rows that are left tell what all do.
use Rattle.lab.proofs.Audits.{Numbered}
use Rattle.lab.proofs.auditing.misnumbered.Given as goal

abbrev pub invariant-loop-i : goal.invariant-loop-i
invariant-loop-i l = Numbered l.numbers l.i
