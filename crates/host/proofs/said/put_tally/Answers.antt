-- `host::said::put_tally` meets its contract: two numbers are put.
use Rattle.host.proofs.said.put_tally.Goals as goal

pub returns : goal.returns
returns c = cc
