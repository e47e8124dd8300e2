-- The bench program, from all bytes of its input to all bytes of its output: PG with room 2 and beta 9/1. Malformed text is refused with 21, before 2, 5
-- and 6.
use Rattle.std.specs.Prelude.{ℕ, List}
use Rattle.model.specs.declared.Beta.{Beta}
use Rattle.model.specs.declared.Cause.TheVariants.{Text}
use Rattle.model.specs.Numbers.{cause_number}
use Rattle.signs.specs.Signs.{trace_header}
use Rattle.rows.specs.Input.{Input, malformed, rows, input_of, column_of}
use Rattle.output.specs.Output.{refusal_text}
use Rattle.runs.specs.declared.Policy.TheVariants.{PG}
use Rattle.text.specs.Run.{run_text}

abbrev pub bench_room : ℕ
bench_room = 2

abbrev pub bench_beta : Beta
bench_beta = record { num = 9; den = 1 }

-- what PG says of a trace
unfoldable pub trace_output : List ℕ → List ℕ → List ℕ
trace_output = run_text (PG bench_beta) bench_room

unfoldable pub output_by : Input → List ℕ
output_by (malformed line) = refusal_text (cause_number Text) line
output_by (rows table) = trace_output (column_of 0 table) (column_of 1 table)

unfoldable pub bench_output : List ℕ → List ℕ
bench_output text = output_by (input_of trace_header text)
