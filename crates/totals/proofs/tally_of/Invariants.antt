-- What is counted of the fate and what is left come to what there is.
use Rattle.std.specs.Slice.Iter.{iter_rest}
use Rattle.std.specs.Iterator.Adapters.{zip_first, zip_second}
use Rattle.totals.proofs.Counting.{Counted}
use Rattle.totals.proofs.tally_of.Given as goal

abbrev pub invariant-loop-worth : goal.invariant-loop-worth
invariant-loop-worth l = Counted l.number l.values l.fates l.count l.value (iter_rest (zip_first l.worth-iterator)) (iter_rest (zip_second l.worth-iterator))
