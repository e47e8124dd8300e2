-- What the answer says as a reply is said.
use Rattle.host.proofs.Saying.{replied}
use Rattle.host.proofs.said.say_audit.Goals as goal

pub returns : goal.returns
returns c = replied c.of_audit.ensures c.say.ensures
