-- `host::host_mf` meets its contract: what the call answers is said.
use Rattle.host.proofs.Saying.{said}
use Rattle.host.proofs.host_mf.Goals as goal

pub returns : goal.returns
returns c = let ran = c in
    said ran.mf.result ran.mf.ensures c.say_run.ensures
