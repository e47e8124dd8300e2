-- What is said of what was read in a text is the text's output: by what was read. More packets than there are places for are refused by PG's own tests
-- with 2, whatever they are.
use Prim.Native.Nat.{ℕ, ◌<◌}
use mathlib.Core.Path.{◌≡◌, refl, sym, ap, ◌∙◌}
use mathlib.Core.Bool.{Bool, true, false, cond}
use mathlib.Core.List.{List}
use native.Mathlib.Omega.{arith}
use lib.ListN.{length, get_or, take, drop, length-map}
use lib.Seq.{take_at}
use lib.Dec.{ltb}
use borrow.Author.Tests.{ltb-true, ltb-false, eq-eqb}
use Rattle.model.specs.declared.Cause.TheVariants.{Packets}
use Rattle.model.specs.Limits.{record_limits}
use Rattle.model.specs.Answers.{cause_number}
use Rattle.signs.specs.Signs.{trace_header}
use Rattle.field.specs.Fields.{fields_of}
use Rattle.std.specs.Prelude.{Result, Ok, Err}
use Rattle.rows.specs.declared.RowsError.{RowsError}
use Rattle.rows.specs.declared.RowsError.TheVariants.{TooMany}
use Rattle.rows.specs.Input.{Input, malformed, rows, column_of, input_of}
use Rattle.rows.specs.Whole.{Stands}
use Rattle.rows.specs.Whole as read
use Rattle.output.specs.Output.{refusal_text}
use Rattle.runs.specs.declared.Policy.TheVariants.{PG}
use Rattle.text.specs.Bench.{bench_room, bench_beta, trace_output, output_by, bench_output}
use Rattle.text.specs.Says.{says_of, spoken}
use Rattle.text.specs.Whole.{Whole}
use Rattle.text.proofs.Policies.{over_said}
use Rattle.text.proofs.Saying.{says_all}

-- more than 2,048 packets are refused with 2, whatever they are
too_many_lem : (slots values : List ℕ) → length values ≡ length slots → record_limits.packets < length slots
    → trace_output slots values ≡ refusal_text (cause_number Packets) 0
unfolding trace_output
too_many_lem slots values same many =
    sym (over_said (PG bench_beta) bench_room slots values many (record { cause = Packets; place = 0 })
    (rw (eq-eqb (length values) (length slots) same) refl))

column_length : (j : ℕ) (all : List (List ℕ)) → length (column_of j all) ≡ length all
column_length j all = length-map all (λ (row : List ℕ). get_or row j 0)

says_input : (input : Input) (table : List ℕ) → Stands 2 input table → says_of (read.said_of input) table ≡ output_by input
unfolding output_by
says_input (malformed line) table stands = refl
says_input (rows all) table stands = go (ltb 2048 (length all)) refl
  where
    go : (t : Bool) → ltb 2048 (length all) ≡ t → says_of (cond t (Err TooMany) (Ok (length all))) table ≡ trace_output (column_of 0 all) (column_of 1 all)
    go true e =
        let slots = column_length 0 all in
        let values = column_length 1 all in
        sym (too_many_lem (column_of 0 all) (column_of 1 all) (values ∙ sym slots) (omega (arith, ltb-true 2048 (length all) e)))
    go false e =
        let few = ltb-false 2048 (length all) e in
        rw (e, stands few 0 (omega arith), stands few 1 (omega arith)) refl

pub whole : Whole
unfolding bench_output fields_of
whole text read table tells size out long r out' A =
    ap (take r) A.written
    ∙ take_at (spoken read table out) (drop r out) r (sym A.count)
    ∙ says_all read table out size long
    ∙ ap (λ (said : Result ℕ RowsError). says_of said table) tells.says
    ∙ says_input (input_of trace_header text) table tells.stands
