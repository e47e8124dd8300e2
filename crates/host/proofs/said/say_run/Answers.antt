-- What the answer says as a reply is said.
use Rattle.host.proofs.Saying.{replied}
use Rattle.host.proofs.said.say_run.Goals as goal

pub returns : goal.returns
returns c = replied c.of_run.ensures c.say.ensures
