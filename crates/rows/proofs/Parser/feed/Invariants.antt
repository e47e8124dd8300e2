-- `rows::Parser::feed` meets its contract. The loop's invariant: what is left of the bytes, read from the present state, gives what all of them give.
use mathlib.Core.Path.{◌≡◌}
use lib.ListN.{drop}
use Rattle.rows.specs.Reading.{state, after_all}
use Rattle.rows.proofs.Parser.feed.Given as goal

abbrev pub invariant-loop-byte : goal.invariant-loop-byte
invariant-loop-byte l = after_all l.header (drop l.byte-index l.bytes) (state l.parser l.table) ≡ after_all l.header l.bytes (state l.initial.parser l.initial.table)
