-- What is said at the end is what was read says, written at the start of the list.
use Prim.Native.Nat.{ℕ, ◌≤◌, ◌<◌}
use mathlib.Core.Path.{◌≡◌, refl, sym, ap, ap₂, ◌∙◌}
use mathlib.Core.List.{List, [], ◌++◌}
use native.Mathlib.Omega.{arith}
use lib.ListN.{length, take, drop}
use lib.Seq.{sets-eq}
use Rattle.std.proofs.lemmas.List.{take-take}
use borrow.Author.Tests.{eq-eqb, ne_eqb, le-ltb, lt-ltb}
use Rattle.model.specs.declared.Cause.TheVariants as causes
use Rattle.model.specs.Limits.{record_limits}
use Rattle.model.specs.Answers.{cause_number}
use Rattle.output.specs.Output.{output_limit, refusal_text}
use Rattle.output.specs.Writing.{Wrote}
use Rattle.std.specs.Prelude.{Result, Ok}
use Rattle.rows.specs.declared.RowsError.{RowsError}
use Rattle.runs.specs.declared.Policy.TheVariants.{PG}
use Rattle.text.specs.Run.{run_spoken}
use Rattle.text.specs.Bench.{bench_room, bench_beta, trace_output}
use Rattle.text.specs.Says.{says_of, table_size, spoken, Answered}
use Rattle.text.proofs.Policies.{spoken_all}

pub answered_none : (read : Result ℕ RowsError) (table out : List ℕ) → spoken read table out ≡ [] → Answered read table out 0 out
answered_none read table out none = record { inside = omega arith; count = rw none refl; written = rw none refl }

pub answered : (read : Result ℕ RowsError) (table out : List ℕ) (text : List ℕ) (r : ℕ) (out' : List ℕ) → spoken read table out ≡ text → Wrote 0 text out r out'
    → Answered read table out r out'
answered read table out text r out' e W =
    let n : r ≡ length text = omega (arith, W.behind) in
    record {
      inside = omega (arith, W.inside, W.behind);
      count = n ∙ ap length (sym e);
      written =
          W.written
          ∙ sets-eq text out 0 W.inside
          ∙ ap₂ (λ (said : List ℕ) (k : ℕ). said ++ drop k out) (sym e) (sym W.behind);
    }

module _ (read : Result ℕ RowsError) (table out : List ℕ) where
  pub short_table : (length table ≡ table_size → ⊥) → spoken read table out ≡ []
  unfolding spoken
  short_table h = rw (ne_eqb (length table) table_size h) refl

  module _ (size : length table ≡ table_size) where
    pub short_out : length out < output_limit → spoken read table out ≡ []
    unfolding spoken
    short_out h = rw (eq-eqb (length table) table_size size, lt-ltb (length out) output_limit h) refl

    pub says_all : output_limit ≤ length out → spoken read table out ≡ says_of read table
    unfolding spoken
    says_all long = rw (eq-eqb (length table) table_size size, le-ltb (length out) output_limit long) refl

    -- what was read, by what it is
    module _ (long : output_limit ≤ length out) where
      pub says_by : (k : Result ℕ RowsError) → read ≡ k → spoken read table out ≡ says_of k table
      says_by k is = says_all long ∙ ap (λ (r : Result ℕ RowsError). says_of r table) is

      pub says_many : (count : ℕ) → read ≡ Ok count → record_limits.packets < count → spoken read table out ≡ refusal_text (cause_number causes.Packets) 0
      says_many count is many = says_by (Ok count) is ∙ rw (lt-ltb 2048 count many) refl

      -- the table cut behind its first column
      pub says_trace : (count : ℕ) → read ≡ Ok count → count ≤ record_limits.packets → {front back : List ℕ} → front ≡ take 2048 table → back ≡ drop 2048 table
          → spoken read table out ≡ trace_output (take count front) (take count back)
      says_trace count is few slots values =
          says_by (Ok count) is ∙ rw (le-ltb 2048 count few, slots, values, take-take count 2048 table few) refl

-- what PG says of a trace, where the list is long enough
pub trace_spoken : (slots values out : List ℕ) → output_limit ≤ length out → run_spoken (PG bench_beta) bench_room slots values out ≡ trace_output slots values
unfolding trace_output
trace_spoken slots values out long = sym (spoken_all (PG bench_beta) bench_room slots values out long)
