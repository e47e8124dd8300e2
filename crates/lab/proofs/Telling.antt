-- What the program says is the output of its arguments and its input.
use Prim.Native.Nat.{ℕ}
use mathlib.Core.Path.{◌≡◌}
use mathlib.Core.List.{List}
use lib.ListN.{take}
use Rattle.std.proofs.Common.{Result}
use Rattle.model.specs.declared.Beta.{Beta}
use Rattle.rows.specs.declared.RowsError.{RowsError}
use Rattle.input.specs.declared.InputError.{InputError}
use Rattle.lab_jobs.specs.declared.jobs.Job.{Job}
use Rattle.lab_jobs.specs.declared.words.Word.{Word}
use Rattle.lab_table.specs.Writing.{Begins}
use Rattle.lab.specs.Heard.{Heard}
use Rattle.lab.specs.Told.{read_text, ToldOf, ToldBy}

-- by what was read
pub said_by : (job : Job) (betas : List Beta) {read : Result ℕ RowsError} (k : Result ℕ RowsError) (table : List ℕ) {n : ℕ} {out : List ℕ} → read ≡ k
    → Begins n (read_text job betas k table) out → Begins n (read_text job betas read table) out
said_by job betas k table is B = rw is B

-- what was heard
pub told_heard : (count : ℕ) (words : List Word) → Heard count words → {r : Result ℕ InputError} {out : List ℕ} → ToldOf (take count words) r out → ToldBy r out
told_heard count words heard told = record { arguments = heard.arguments; told = rw heard.are at told }
