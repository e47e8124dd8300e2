-- What the program says of what was read: 21 at its bad line, 2 where more packets came than there are places for, or what PG makes of those that were
-- read.
use Rattle.std.specs.Prelude.{ℕ, ◌*◌, ◌≤◌, ◌≡◌, cond, List, [], ◌++◌, length, drop, ltb, eqb, Result, Ok, Err}
use Rattle.model.specs.declared.Cause.TheVariants.{Packets, Text}
use Rattle.model.specs.Limits.{record_limits}
use Rattle.model.specs.Numbers.{cause_number}
use Rattle.rows.specs.declared.RowsError.{RowsError}
use Rattle.rows.specs.declared.RowsError.TheVariants.{Malformed, TooMany}
use Rattle.rows.specs.Table.{column_in}
use Rattle.output.specs.Output.{output_limit, refusal_text}
use Rattle.text.specs.Bench.{trace_output}

-- the table's first column has the slots, its second the values
abbrev pub says_of : Result ℕ RowsError → List ℕ → List ℕ
says_of (Err (Malformed line)) table = refusal_text (cause_number Text) line
says_of (Err TooMany) table = refusal_text (cause_number Packets) 0
says_of (Ok count) table =
    cond (ltb record_limits.packets count) (refusal_text (cause_number Packets) 0) (trace_output (column_in 0 count table) (column_in 1 count table))

abbrev pub table_size : ℕ
table_size = 2 * record_limits.packets

-- nothing is said where a list is not as long as it has to be
unfoldable pub spoken : Result ℕ RowsError → List ℕ → List ℕ → List ℕ
spoken read table out =
    cond (eqb (length table) table_size) (cond (ltb (length out) output_limit) [] (says_of read table)) []

-- what is said stands at the start of the list, the rest of which is as before
pub record Answered (read : Result ℕ RowsError) (table out : List ℕ) (r : ℕ) (out' : List ℕ) : Type 0 where
  pub inside : r ≤ length out
  pub count : r ≡ length (spoken read table out)
  pub written : out' ≡ spoken read table out ++ drop r out
