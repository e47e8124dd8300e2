-- `output::write_rows` meets its contract: the rows that are left, and 128 places for each.
use Prim.Native.Nat.{◌+◌, ◌-◌, ◌*◌, ◌≤◌}
use lib.ListN.{length}
use Rattle.output.proofs.Writing.{Left, rows_left}
use Rattle.output.proofs.write.write_rows.Given as goal

abbrev pub invariant-loop-i : goal.invariant-loop-i
invariant-loop-i l = (l.end + 128 * (length l.rows.slots.now - l.i) ≤ length l.out)
    × Left l.at (rows_left l.rows 0) l.initial.out l.end (rows_left l.rows l.i) l.out
