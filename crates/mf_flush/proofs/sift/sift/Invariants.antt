-- The invariant: what is held so far and what still stays is all that stays; what still goes completes what has gone.
use Rattle.model.specs.Record.{lists_of}
use Rattle.mf_flush.proofs.Flushing.{Sifting}
use Rattle.mf_flush.proofs.sift.sift.Given as goal

abbrev pub invariant-loop-from : goal.invariant-loop-from
invariant-loop-from l =
    Sifting l.m l.marks l.slot l.head l.tail l.initial.numbers l.initial.values (lists_of l.initial.fates l.initial.whens l.initial.bys) l.numbers l.values l.from l.to (lists_of l.fates l.whens l.bys)
