-- What the answer says as a reply is mixed in.
use mathlib.Core.Path.{ap, ◌∙◌}
use Rattle.host.specs.Live.{mixed_in}
use Rattle.host.proofs.live.mix_arrival.Goals as goal

pub returns : goal.returns
returns c = c.mix.ensures ∙ ap (mixed_in c.args.sum) c.of_arrival.ensures
