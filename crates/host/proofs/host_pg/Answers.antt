-- `host::host_pg` meets its contract: what the call answers is said.
use Rattle.host.proofs.Saying.{said}
use Rattle.host.proofs.host_pg.Goals as goal

pub returns : goal.returns
returns c = let ran = c in
    said ran.pg.result ran.pg.ensures c.say_run.ensures
