-- `input::read_rows` meets its contract. The loop's invariant: the parser and the table stand behind the pieces that came; its measure is the bytes left.
use Rattle.rows.specs.Reading.{state, start_parser}
use Rattle.input.proofs.Reading.{SoFar}
use Rattle.input.proofs.read_rows.Given as goal

abbrev pub invariant-loop-left : goal.invariant-loop-left
invariant-loop-left g l = SoFar l.header (state (start_parser l.header) l.initial.table) (state l.parser l.table) l.left

abbrev pub decreases-loop-left : goal.decreases-loop-left
decreases-loop-left g l = l.left
