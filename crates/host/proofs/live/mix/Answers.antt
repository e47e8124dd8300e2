-- The sum is its contract.
use mathlib.Core.Path.{refl}
use Rattle.host.specs.Live.{mixed}
use Rattle.host.proofs.live.mix.Goals as goal

pub returns : goal.returns
unfolding mixed
returns c = refl
