-- `output::write_line` meets its contract: what is left of the line, and 21 places for each number that is left.
use Prim.Native.Nat.{◌+◌, ◌-◌, ◌*◌, ◌≤◌}
use lib.ListN.{length, drop}
use Rattle.output.specs.Output.{line_with}
use Rattle.output.proofs.Writing.{Left}
use Rattle.output.proofs.write.write_line.Given as goal

abbrev pub invariant-loop-i : goal.invariant-loop-i
invariant-loop-i l = (l.end + 21 * (length l.numbers - l.i) + 2 ≤ length l.out)
    × Left l.at (line_with l.numbers) l.initial.out l.end (line_with (drop l.i l.numbers)) l.out
