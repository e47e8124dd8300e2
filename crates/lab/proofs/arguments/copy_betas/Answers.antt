-- `lab::arguments::copy_betas` meets its contract: the betas so far are those among the words so far.
use native.Mathlib.Omega.{arith}
use Rattle.lab.proofs.Hearing.{copied_beta, copied_other, behind_length, copied_all}
use Rattle.lab.proofs.arguments.copy_betas.Goals as goal
use Rattle.lab.proofs.arguments.copy_betas.Goals.{in-Some, in_default-beta}

pub loop-word-preserved : goal.loop-word-preserved
loop-word-preserved c = let l = c.loop-word in
    elim c.match-beta.branch [
      | in-Some w ↦ rw (w.betas-is, w.count-is) (copied_beta _ l.word-index c.loop-word-test.true l.betas l.count w.in-Some.beta (omega (arith, l.invariant.few, behind_length c.args.words.now)) w.in-Some.ensures l.invariant)
      | in_default-beta w ↦ rw (w.betas-is, w.count-is) (copied_other _ l.word-index c.loop-word-test.true l.betas l.count w.in_default-beta.ensures l.invariant)
    ]

pub returns-clause-copied : goal.returns-clause-copied
returns-clause-copied c = copied_all c.args.words.now c.loop-word.word-index c.loop-word.betas c.loop-word.count c.loop-word-test.false c.loop-word.invariant
