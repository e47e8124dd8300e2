-- `host::host_audit` meets its contract: what the audit answers is said.
use Rattle.host.proofs.Saying.{said_of_audit}
use Rattle.host.proofs.host_audit.Goals as goal

pub returns : goal.returns
returns c = said_of_audit c.audit.result c.audit.ensures c.say_audit.ensures
