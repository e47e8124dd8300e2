-- What `rposition` finds has the value, and nothing after it has; where it finds nothing no value is this one.
use Rattle.std.proofs.Common.{rules}
use Rattle.queue.proofs.Search.{newest_found}
use Rattle.queue.proofs.newest.Goals as goal

pub returns : goal.returns
returns c = newest_found c.args.value c.args.values.now c.rposition.result (search rules)
