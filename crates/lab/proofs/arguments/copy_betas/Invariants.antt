-- `lab::arguments::copy_betas` meets its contract: the betas so far are those among the words so far.
use Rattle.lab.proofs.Hearing.{Copied}
use Rattle.lab.proofs.arguments.copy_betas.Given as goal

abbrev pub invariant-loop-word : goal.invariant-loop-word
invariant-loop-word l = Copied l.behind l.word-index l.betas l.count
