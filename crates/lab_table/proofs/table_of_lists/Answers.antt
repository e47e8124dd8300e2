-- `lab_table::table_of_lists` meets its contract: nothing where the lists are not as long as they have to be; else it is the table of the pairs.
use native.Mathlib.Omega.{arith}
use Rattle.lab_table.proofs.Pairs.{other_lengths, many_pairs, pairs_wrote}
use Rattle.lab_table.proofs.table_of_lists.Goals as goal

pub returns-then-dens-nums : goal.returns-then-dens-nums
returns-then-dens-nums c = let a = c.args in
    other_lengths a.room a.nums.now a.dens.now a.slots.now a.values.now a.out.now (omega arith)

pub returns-then-many : goal.returns-then-many
returns-then-many c = let a = c.args in
    many_pairs a.room a.nums.now a.dens.now a.slots.now a.values.now a.out.now (omega arith) c.if-many.true

pub returns : goal.returns
returns c = let a = c.args in
    pairs_wrote a.room a.nums.now a.dens.now a.slots.now a.values.now a.out.now (omega arith) c.pair_betas.ensures c.table.ensures
