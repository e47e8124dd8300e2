-- `host::host_greedy` meets its contract: what the call answers is said.
use Rattle.host.proofs.Saying.{said}
use Rattle.host.proofs.host_greedy.Goals as goal

pub returns : goal.returns
returns c = let ran = c in
    said ran.greedy.result ran.greedy.ensures c.say_run.ensures
