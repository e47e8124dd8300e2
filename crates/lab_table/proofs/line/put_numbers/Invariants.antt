-- `lab_table::line::put_numbers` meets its contract: what is left to write, and 21 places for each number that is left.
use Prim.Native.Nat.{◌+◌, ◌-◌, ◌*◌, ◌≤◌}
use lib.ListN.{length, drop}
use Rattle.output.proofs.Writing.{Left}
use Rattle.lab_table.specs.Line.{behind_commas}
use Rattle.lab_table.proofs.line.put_numbers.Given as goal

abbrev pub invariant-loop-number : goal.invariant-loop-number
invariant-loop-number l = (l.end + 21 * (length l.numbers - l.number-index) ≤ length l.out)
    × Left l.at (behind_commas l.numbers) l.initial.out l.end (behind_commas (drop l.number-index l.numbers)) l.out
