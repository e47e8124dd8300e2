-- `host::said::tell` meets its contract: each tally is put in its turn, then the most held.
use Rattle.host.proofs.said.tell.Goals as goal

pub returns : goal.returns
returns c = cc
