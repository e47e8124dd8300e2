-- `output::write_number` meets its contract: the digits that are left and those that stand at the end of the local list are the number's.
use Rattle.output.proofs.Writing.{Digits}
use mathlib.Core.Path.{◌≡◌}
use lib.ListN.{length}
use Rattle.output.proofs.write.write_number.Given as goal

abbrev pub invariant-loop-i : goal.invariant-loop-i
invariant-loop-i l = (l.out ≡ l.initial.out) × (length l.digits ≡ 20) × Digits l.number l.digits l.left l.i
