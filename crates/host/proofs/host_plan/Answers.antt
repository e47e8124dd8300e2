-- `host::host_plan` meets its contract: what the call answers is said.
use Rattle.host.proofs.Saying.{said}
use Rattle.host.proofs.host_plan.Goals as goal

pub returns : goal.returns
returns c = let ran = c in
    said ran.plan.result ran.plan.ensures c.say_run.ensures
