-- `lab::arguments::read_words` meets its contract: the words so far are those of the arguments so far.
use Rattle.lab.specs.Heard.{Heard}
use Rattle.lab.proofs.arguments.read_words.Given as goal

abbrev pub invariant-loop-place : goal.invariant-loop-place
invariant-loop-place g l = Heard l.place l.words
