-- `lab::arguments::read_words` meets its contract: the words so far are those of the arguments so far.
use native.Mathlib.Omega.{arith}
use Rattle.lab.proofs.Hearing.{heard_more, heard_at}
use Rattle.lab.proofs.arguments.read_words.Goals as goal

pub loop-place-preserved : goal.loop-place-preserved
loop-place-preserved g c = heard_more c.loop-place.place c.loop-place.words _ _ (omega (arith, c.requires)) c.word_of.ensures c.loop-place.invariant

pub returns-in-Err-NotPresent-arg-2 : goal.returns-in-Err-NotPresent-arg-2
returns-in-Err-NotPresent-arg-2 g c = (omega arith, heard_at c.loop-place.place _ _ (omega arith) c.loop-place.invariant)
