-- `checks::all_zero` meets its contract: nothing bad was found and what is left passes exactly where the whole list does.
use Rattle.std.proofs.Common.{◌∙◌, arith, eqb}
use Rattle.std.proofs.lemmas.Bool.Decides.{nat_tests}
use Rattle.checks.proofs.Tests.{all_turn, all_done}
use Rattle.checks.proofs.all_zero.Goals as goal

pub loop-place-preserved : goal.loop-place-preserved
loop-place-preserved c = all_turn c.args.places.now c.loop-place.place-index (eqb 0) (omega arith) c.loop-place.bad _ (grind (arith, nat_tests)) ∙ c.loop-place.invariant

pub returns : goal.returns
returns c = all_done c.args.places.now c.loop-place.place-index (eqb 0) (omega arith) c.loop-place.bad ∙ c.loop-place.invariant
