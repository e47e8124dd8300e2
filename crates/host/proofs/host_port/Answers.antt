-- `host::host_port` meets its contract: by the making's number, a refusal that is coded, or a port that is fed.
use Rattle.host.proofs.Hearing.{of_made, of_not_made}
use Rattle.host.proofs.host_port.Goals as goal

pub returns-then-reply-ne0 : goal.returns-then-reply-ne0
returns-then-reply-ne0 c = of_not_made c.new-made.result.answer _ c.new-made.ensures c.of_making-reply.ensures c.if-reply-ne0.true c.code.ensures

pub returns : goal.returns
returns c = of_made c.new-made.result.answer _ c.new-made.ensures c.of_making-reply.ensures c.if-reply-ne0.false c.feed.ensures
