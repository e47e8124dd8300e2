-- What was read of the reads is answered: their text's output stands at the start of the list.
use Prim.Native.Nat.{ℕ, ◌≤◌}
use mathlib.Core.Path.{◌≡◌, refl, ap}
use mathlib.Core.List.{List}
use native.Mathlib.Omega.{arith}
use lib.ListN.{length, length-append, length-drop}
use Rattle.signs.specs.Signs.{trace_header}
use Rattle.field.specs.Fields.{fields_of, lettered}
use Rattle.std.specs.Prelude.{Result}
use Rattle.rows.specs.declared.RowsError.{RowsError}
use Rattle.rows.specs.Whole.{all_lettered, HeaderOfLetters, text_of}
use Rattle.input.specs.Reads as reads
use Rattle.input.specs.Reads.{Output}
use Rattle.output.specs.Output.{output_limit}
use Rattle.text.specs.Bench.{bench_output}
use Rattle.text.specs.Says as says
use Rattle.text.specs.Says.{table_size}
use Rattle.text.proofs.Whole.{whole}

of_letters : HeaderOfLetters trace_header
unfolding all_lettered lettered fields_of
of_letters = refl

-- what was read is answered
pub answered : {read : Result ℕ RowsError} {table table' : List ℕ} → reads.ReadToEnd trace_header read table table' → length table ≡ table_size → length table' ≡ table_size
    → {out out' : List ℕ} {r : ℕ} → output_limit ≤ length out → says.Answered read table' out r out' → Output bench_output r out'
unfolding fields_of
answered {read} {table} {table'} ended size size' {out} {out'} {r} long told =
    let inside = told.inside in
    let count = told.count in
    record {
      inside = omega (arith, simp (length-append, length-drop) at (ap length told.written));
      pieces = ended.pieces;
      whole = ended.whole;
      output = whole (text_of ended.pieces) read table' (ended.tells of_letters size) size' out long r out' told;
    }
