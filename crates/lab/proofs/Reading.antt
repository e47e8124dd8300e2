-- What was read of the reads is answered: a job's columns stand in the first places of the table, so what is said of the table is the output of the text
-- that the reads handed over.
use Prim.Native.Nat.{ℕ, zero, suc, ◌+◌, ◌*◌, ◌≤◌, ◌<◌}
use mathlib.Core.Path.{◌≡◌, refl, sym, ap, ap₂, ◌∙◌}
use mathlib.Core.Bool.{Bool, true, false, cond}
use mathlib.Core.List.{List, [], ◌∷◌, ◌++◌}
use native.Mathlib.Omega.{arith}
use lib.ListN.{length, take, drop}
use lib.Seq.{length-take-le, take_all, take_at}
use lib.Dec.{ltb}
use borrow.Author.Tests.{ltb-false}
use Rattle.std.proofs.Common.{Option, Some, None, Ok, Result, Err}
use Rattle.model.specs.declared.Beta.{Beta}
use Rattle.model.specs.declared.Cause.TheVariants.{Packets}
use Rattle.model.specs.Limits.{record_limits}
use Rattle.model.specs.Numbers.{cause_number}
use Rattle.signs.specs.Signs.{trace_header, record_header}
use Rattle.field.specs.Fields.{fields_of, lettered}
use Rattle.rows.specs.declared.RowsError.{RowsError}
use Rattle.rows.specs.declared.RowsError.TheVariants.{TooMany}
use Rattle.rows.specs.Input.{Input, malformed, rows, columns_of, column_of, input_of}
use Rattle.rows.specs.Table.{column_in}
use Rattle.rows.specs.Whole.{all_lettered, HeaderOfLetters, text_of, said_of, Stands, Tells}
use Rattle.input.specs.declared.InputError.{InputError}
use Rattle.input.specs.declared.InputError.TheVariants.{Failed, TooLong}
use Rattle.input.specs.Reads.{to_end, ReadToEnd, EndedBy, Output}
use Rattle.input.proofs.Reading as reads
use Rattle.output.specs.Output.{refusal_text}
use Rattle.lab_jobs.specs.declared.jobs.Job.{Job}
use Rattle.lab_jobs.specs.declared.jobs.Job.TheVariants.{Run, Table, Audit}
use Rattle.lab_jobs.specs.declared.words.Word.{Word}
use Rattle.text.specs.Run.{run_text}
use Rattle.lab_table.specs.Table.{table_text}
use Rattle.lab_jobs.specs.Jobs.{job_from}
use Rattle.lab.specs.Heard.{betas_in}
use Rattle.lab.specs.Answer.{columns_in, answer_text, header_of, input_text, lab_output}
use Rattle.lab_table.specs.Writing.{Begins}
use Rattle.lab.specs.Told.{places_of, ReadFor, Few, read_text, words_output, ToldBy, ToldOf}

letters : (job : Job) → HeaderOfLetters (header_of job)
unfolding all_lettered lettered fields_of
letters (Run policy room) = refl
letters (Table room) = refl
letters (Audit room) = refl

places_fit : (job : Job) → places_of job ≤ 12288
unfolding fields_of
places_fit (Run policy room) = omega arith
places_fit (Table room) = omega arith
places_fit (Audit room) = omega arith

-- the audit reads into all of the table, and each other job into its first two columns
of_record : (r : Result (Result ℕ RowsError) InputError) (room : ℕ) (table table' : List ℕ) → EndedBy record_header r (take 12288 table) (take 12288 table')
    → ReadFor (Audit room) r table table'
unfolding fields_of
of_record r room table table' by = by

pub read_record : (job : Job) {room : ℕ} → job ≡ Audit room → (r : Result (Result ℕ RowsError) InputError) (table table' : List ℕ) → length table ≡ 12288 → length table' ≡ 12288
    → EndedBy record_header r table table' → ReadFor job r table table'
read_record job {room} is r table table' size size' by =
    let all = take_all 12288 table (omega arith) in
    let all' = take_all 12288 table' (omega arith) in
    rw is (of_record r room table table' (rw (all, all') by))

of_trace : (job : Job) → ((room : ℕ) → job ≡ Audit room → ⊥) → (r : Result (Result ℕ RowsError) InputError) (table table' : List ℕ)
    → EndedBy trace_header r (take 4096 table) (take 4096 table') → ReadFor job r table table'
unfolding fields_of
of_trace (Run policy room) not r table table' by = by
of_trace (Table room) not r table table' by = by
of_trace (Audit room) not r table table' by = absurd (not room refl)

pub read_trace : (job : Job) → ((room : ℕ) → job ≡ Audit room → ⊥) → (r : Result (Result ℕ RowsError) InputError) (table first rest : List ℕ) → length first ≡ 4096
    → EndedBy trace_header r (take 4096 table) first → ReadFor job r table (first ++ rest)
read_trace job not r table first rest size by = of_trace job not r table (first ++ rest) (rw (take_at first rest 4096 size) by)

-- a column that ends before the cut
taken : (k count m : ℕ) (l : List ℕ) → k + count ≤ m → take count (drop k (take m l)) ≡ take count (drop k l)
taken zero zero m l h = refl
taken zero (suc count) zero l h = absurd (omega arith)
taken zero (suc count) (suc m) [] h = refl
taken zero (suc count) (suc m) (x ∷ l) h = ap (λ (more : List ℕ). x ∷ more) (taken zero count m l (omega arith))
taken (suc k) count zero l h = absurd (omega arith)
taken (suc k) count (suc m) [] h = refl
taken (suc k) count (suc m) (x ∷ l) h = taken k count m l (omega arith)

-- the columns of some rows stand in the first places of a table
abbrev InPlace : ℕ → ℕ → List ℕ → List (List ℕ) → Type 0
InPlace columns places table all = (j : ℕ) → j < columns → column_in j (length all) (take places table) ≡ column_of j all

module _ (table : List ℕ) (all : List (List ℕ)) (few : length all ≤ record_limits.packets) where
  column : (columns places : ℕ) → columns * 2048 ≤ places → InPlace columns places table all → (j : ℕ) → j < columns
      → columns_in table (length all) j ≡ column_of j all
  column columns places fit is j inside = sym (taken (j * 2048) (length all) places table (omega arith)) ∙ is j inside

  answers_trace : InPlace 2 4096 table all → (f : List ℕ → List ℕ → List ℕ)
      → f (columns_in table (length all) 0) (columns_in table (length all) 1) ≡ f (column_of 0 all) (column_of 1 all)
  answers_trace is f = ap₂ f (column 2 4096 (omega arith) is 0 (omega arith)) (column 2 4096 (omega arith) is 1 (omega arith))

  answers_record : (room : ℕ) (betas : List Beta) → InPlace 6 12288 table all
      → answer_text (Audit room) betas (columns_in table (length all)) ≡ answer_text (Audit room) betas (λ (j : ℕ). column_of j all)
  answers_record room betas is =
      let at : (j : ℕ) → j < 6 → columns_in table (length all) j ≡ column_of j all = column 6 12288 (omega arith) is in
      rw (at 0 (omega arith), at 1 (omega arith), at 2 (omega arith), at 3 (omega arith), at 4 (omega arith), at 5 (omega arith)) refl

  answers_all : (job : Job) (betas : List Beta) → InPlace (columns_of (header_of job)) (places_of job) table all
      → answer_text job betas (columns_in table (length all)) ≡ answer_text job betas (λ (j : ℕ). column_of j all)
  unfolding fields_of
  answers_all (Run policy room) betas is = answers_trace is (run_text policy room)
  answers_all (Table room) betas is = answers_trace is (table_text room betas)
  answers_all (Audit room) betas is = answers_record room betas is

-- what is said of the table is what is said of the input that stands in it
says_input : (job : Job) (betas : List Beta) (table : List ℕ) (input : Input) → Stands (columns_of (header_of job)) input (take (places_of job) table)
    → read_text job betas (said_of input) table ≡ input_text job betas input
unfolding input_text
says_input job betas table (malformed line) stands = refl
says_input job betas table (rows all) stands = go (ltb 2048 (length all)) refl
  where
    go : (t : Bool) → ltb 2048 (length all) ≡ t
        → read_text job betas (cond t (Err TooMany) (Ok (length all))) table
        ≡ cond t (refusal_text (cause_number Packets) 0) (answer_text job betas (λ (j : ℕ). column_of j all))
    go true e = refl
    go false e = let few = ltb-false 2048 (length all) e in answers_all table all few job betas (stands few)

few_said : (input : Input) → Few (said_of input)
few_said (malformed line) = tt
few_said (rows all) = go (ltb 2048 (length all)) refl
  where
    go : (t : Bool) → ltb 2048 (length all) ≡ t → Few (cond t (Err TooMany) (Ok (length all)))
    go true e = tt
    go false e = ltb-false 2048 (length all) e

module _ (job : Job) {read : Result ℕ RowsError} (table table' : List ℕ) where
  told_all : length table ≡ 12288 → (ended : ReadToEnd (header_of job) read (take (places_of job) table) (take (places_of job) table'))
      → Tells (header_of job) (text_of ended.pieces) read (take (places_of job) table')
  told_all size ended = ended.tells (letters job) (length-take-le (places_of job) table (omega (arith, places_fit job)))

  pub read_few : length table ≡ 12288 → ReadToEnd (header_of job) read (take (places_of job) table) (take (places_of job) table') → Few read
  read_few size ended = rw (told_all size ended).says (few_said (input_of (header_of job) (text_of ended.pieces)))

-- what was read is answered
pub answered : (job : Job) (words : List Word) (table table' : List ℕ) {read : Result ℕ RowsError} → Some job ≡ job_from words → length table ≡ 12288
    → ReadToEnd (header_of job) read (take (places_of job) table) (take (places_of job) table') → {n : ℕ} {out : List ℕ}
    → Begins n (read_text job (betas_in words) read table') out → Output (words_output words) n out
unfolding lab_output
answered job words table table' is size ended B =
    let betas = betas_in words in
    let text = text_of ended.pieces in
    let tells = told_all job table table' size ended in
    record {
      inside = B.inside;
      pieces = ended.pieces;
      whole = ended.whole;
      output =
          B.is
          ∙ ap (λ (r : Result ℕ RowsError). read_text job betas r table') tells.says
          ∙ says_input job betas table' (input_of (header_of job) text) tells.stands
          ∙ ap (λ (asked : Option Job). lab_output asked betas text) is;
    }

-- words that ask for nothing
pub nothing_asked : (words : List Word) (out : List ℕ) → None ≡ job_from words → Output (words_output words) 0 out
unfolding lab_output to_end
nothing_asked words out none = record { inside = omega arith; pieces = [] ∷ []; whole = refl; output = rw (← none) refl }

pub told_strange : (out : List ℕ) → ToldBy (Ok 0) out
unfolding job_from
told_strange out = record { arguments = []; told = nothing_asked [] out refl }

-- what is told where there is nothing to say
pub not_read : (job : Job) (words : List Word) (out : List ℕ) (e : InputError) (table table' : List ℕ) → ReadFor job (Err e) table table'
    → ToldOf words (Err e) out
not_read job words out Failed table table' by = tt
not_read job words out TooLong table table' by = reads.too_long by
