-- What the program makes of its arguments and of its reads.
use Rattle.std.specs.Prelude.{ℕ, ◌*◌, ◌≤◌, List, map, take, Result, Ok, Err}
use Rattle.model.specs.declared.Beta.{Beta}
use Rattle.model.specs.declared.Cause.TheVariants.{Packets, Text}
use Rattle.model.specs.Limits.{record_limits}
use Rattle.model.specs.Numbers.{cause_number}
use Rattle.rows.specs.declared.RowsError.{RowsError}
use Rattle.rows.specs.declared.RowsError.TheVariants.{Malformed, TooMany}
use Rattle.rows.specs.Input.{columns_of}
use Rattle.input.specs.declared.InputError.{InputError}
use Rattle.input.specs.declared.InputError.TheVariants.{Failed, TooLong}
use Rattle.input.specs.Reads.{EndedBy, Output, Overlong}
use Rattle.output.specs.Output.{refusal_text}
use Rattle.lab_jobs.specs.declared.jobs.Job.{Job}
use Rattle.lab_jobs.specs.Jobs.{job_from}
use Rattle.lab_jobs.specs.declared.words.Word.{Word}
use Rattle.lab_jobs.specs.Words.{word_of}
use Rattle.lab.specs.Heard.{betas_in}
use Rattle.lab.specs.Answer.{columns_in, answer_text, header_of, lab_output}

-- the places of the table that the columns of a job's header take: the first
abbrev pub places_of : Job → ℕ
places_of job = columns_of (header_of job) * record_limits.packets

-- how reading a job's input ended, in these places
abbrev pub ReadFor : Job → Result (Result ℕ RowsError) InputError → List ℕ → List ℕ → Type 0
ReadFor job r table table' = EndedBy (header_of job) r (take (places_of job) table) (take (places_of job) table')

-- no more rows than places
abbrev pub Few : Result ℕ RowsError → Type 0
Few (Ok count) = count ≤ record_limits.packets
Few (Err error) = Unit {0}

-- what is said of what was read into a table
abbrev pub read_text : Job → (betas : List Beta) → Result ℕ RowsError → List ℕ → List ℕ
read_text job betas (Err (Malformed line)) table = refusal_text (cause_number Text) line
read_text job betas (Err TooMany) table = refusal_text (cause_number Packets) 0
read_text job betas (Ok count) table = answer_text job betas (columns_in table count)

-- the output for some words and a text. Words that ask for nothing get nothing, whatever the text is: then nothing is read
abbrev pub words_output : List Word → (text : List ℕ) → List ℕ
words_output words text = lab_output (job_from words) (betas_in words) text

-- how answering some words ended
abbrev pub ToldOf : List Word → Result ℕ InputError → List ℕ → Type 0
ToldOf words (Ok n) out = Output (words_output words) n out
ToldOf words (Err TooLong) out = Overlong
ToldOf words (Err Failed) out = Unit {0}

-- how answering the arguments ended
pub record ToldBy (r : Result ℕ InputError) (out : List ℕ) : Type 0 where
  pub arguments : List (List ℕ)
  pub told : ToldOf (map word_of arguments) r out
