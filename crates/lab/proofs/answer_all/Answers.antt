-- `lab::answer_all` meets its contract: arguments that are none of ours ask for nothing.
use Rattle.lab.proofs.Reading.{told_strange}
use Rattle.lab.proofs.answer_all.Goals as goal

pub returns-in_default : goal.returns-in_default
returns-in_default g c = told_strange _
