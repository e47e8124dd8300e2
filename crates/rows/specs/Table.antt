-- The lent table: a column of 2,048 places for each name of the header, one behind the other.
use Rattle.std.specs.Prelude.{ℕ, ◌+◌, ◌*◌, ◌/◌, cond, List, length, take, drop, set, ltb}
use Rattle.model.specs.Limits.{record_limits}

-- a number in its row's place of its column; no change where the table has no such column, or a column no such place
unfoldable pub written : ℕ → ℕ → ℕ → List ℕ → List ℕ
written column row n table =
    cond (ltb row record_limits.packets)
    (cond (ltb column (length table / record_limits.packets)) (set table (column * record_limits.packets + row) n) table)
    table

-- the first places of a column
abbrev pub column_in : ℕ → ℕ → List ℕ → List ℕ
column_in column count table = take count (drop (column * record_limits.packets) table)
