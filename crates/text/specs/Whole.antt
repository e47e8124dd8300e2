-- The answer as a whole: what is said of what was read in a text is the output of the text.
use Rattle.std.specs.Prelude.{ℕ, ◌≤◌, ◌≡◌, List, length, take, Result}
use Rattle.signs.specs.Signs.{trace_header}
use Rattle.rows.specs.declared.RowsError.{RowsError}
use Rattle.rows.specs.Whole.{Tells}
use Rattle.output.specs.Output.{output_limit}
use Rattle.text.specs.Bench.{bench_output}
use Rattle.text.specs.Says.{table_size, Answered}

abbrev pub Whole : Type 0
Whole =
    (text : List ℕ) (read : Result ℕ RowsError) (table : List ℕ) → Tells trace_header text read table → length table ≡ table_size
    → (out : List ℕ) → output_limit ≤ length out → (r : ℕ) (out' : List ℕ) → Answered read table out r out'
    → take r out' ≡ bench_output text
