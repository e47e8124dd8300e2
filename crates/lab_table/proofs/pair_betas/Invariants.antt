-- `lab_table::pair_betas` meets its contract: the first betas are those of the pairs so far.
use Rattle.lab_table.proofs.Pairs.{Paired}
use Rattle.lab_table.proofs.pair_betas.Given as goal

abbrev pub invariant-loop-place : goal.invariant-loop-place
invariant-loop-place l = Paired l.nums l.dens l.place l.betas
