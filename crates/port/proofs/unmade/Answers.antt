-- `port::unmade` meets its contract: what it hands back is the empty port with no room and no beta.
use mathlib.Core.Path.{ap}
use Rattle.model.specs.Answers.{cause_number}
use Rattle.port.specs.State.{refusing}
use Rattle.port.proofs.unmade.Goals as goal

pub returns : goal.returns
returns c = ap (refusing (cause_number c.args.cause)) c.empty.ensures
