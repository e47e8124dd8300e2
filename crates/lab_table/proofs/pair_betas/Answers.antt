-- `lab_table::pair_betas` meets its contract: the first betas are those of the pairs so far.
use mathlib.Core.Path.{refl}
use native.Mathlib.Omega.{arith}
use Rattle.lab_table.proofs.Pairs.{paired_turn, paired_all}
use Rattle.lab_table.proofs.pair_betas.Goals as goal

pub loop-place-init : goal.loop-place-init
loop-place-init c = record { are = refl }

pub loop-place-preserved : goal.loop-place-preserved
loop-place-preserved c = let l = c.loop-place in
    paired_turn c.args.nums.now c.args.dens.now l.place l.betas (omega arith) (omega arith) (omega arith) l.invariant

pub returns : goal.returns
returns c = paired_all c.args.nums.now c.args.dens.now c.loop-place.place c.loop-place.betas (omega arith) c.loop-place.invariant
