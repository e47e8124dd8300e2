-- `bench::answer_input` meets its contract: what was read to the end is answered.
use mathlib.Core.Path.{refl}
use native.Mathlib.Omega.{arith}
use Rattle.bench.proofs.Reading.{answered}
use Rattle.bench.proofs.answer_input.Goals as goal

pub returns : goal.returns
returns g c = answered c.in_ok-read.ensures refl c.read_rows.auto.table (omega arith) c.answer-n.ensures
