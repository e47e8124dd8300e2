-- `port::Port::hold` meets its contract: the two stores go behind the queue.
use Rattle.port.specs.State.{state_of}
use Rattle.port.proofs.Holding.{holds_more}
use Rattle.port.proofs.Port.hold.Goals as goal

pub returns : goal.returns
returns c = holds_more (state_of c.args.self) c.requires.placed c.args.packet c.requires.held_lt_room
