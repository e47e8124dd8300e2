-- A packet's mark is its entry in the list of marks.
use Rattle.mf_marks.proofs.mark_of.Goals as goal

pub returns : goal.returns
returns c = c.number_of.ensures
