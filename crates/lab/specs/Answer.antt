-- The answer to a job, from the text of its input.
use Rattle.std.specs.Prelude.{ℕ, ◌*◌, cond, List, [], length, ltb, Option, Some, None}
use Rattle.model.specs.declared.Beta.{Beta}
use Rattle.model.specs.declared.Cause.TheVariants.{Packets, Text}
use Rattle.model.specs.Limits.{record_limits}
use Rattle.model.specs.Numbers.{cause_number}
use Rattle.model.specs.Record.{lists_of}
use Rattle.signs.specs.Signs.{trace_header, record_header}
use Rattle.rows.specs.Input.{Input, malformed, rows, column_of, input_of}
use Rattle.rows.specs.Table.{column_in}
use Rattle.output.specs.Output.{refusal_text}
use Rattle.lab_jobs.specs.declared.jobs.Job.{Job}
use Rattle.lab_jobs.specs.declared.jobs.Job.TheVariants.{Run, Table, Audit}
use Rattle.text.specs.Run.{run_text}
use Rattle.lab_table.specs.Table.{table_text}
use Rattle.lab.specs.Audit.{audit_text}

-- a trace is the columns slot and value; a record is number, slot, value, fate, when and by
abbrev pub answer_text : Job → (betas : List Beta) → (column : ℕ → List ℕ) → List ℕ
answer_text (Run policy room) betas column = run_text policy room (column 0) (column 1)
answer_text (Table room) betas column = table_text room betas (column 0) (column 1)
answer_text (Audit room) betas column =
    audit_text room (column 0) (column 1) (column 2) (lists_of (column 3) (column 4) (column 5))

-- the columns of a table that has a place for each packet in each column
abbrev pub columns_in : List ℕ → ℕ → ℕ → List ℕ
columns_in table count j = column_in j count table

-- a place for each packet in each column of a record
abbrev pub record_places : ℕ
record_places = 6 * record_limits.packets

-- what a job reads: `audit` a record, each other command a trace
abbrev pub header_of : Job → List ℕ
header_of (Run policy room) = trace_header
header_of (Table room) = trace_header
header_of (Audit room) = record_header

-- malformed text is 21 at its line and more than 2,048 rows are 2, before everything else
unfoldable pub input_text : Job → (betas : List Beta) → Input → List ℕ
input_text job betas (malformed line) = refusal_text (cause_number Text) line
input_text job betas (rows table) =
    cond (ltb record_limits.packets (length table))
    (refusal_text (cause_number Packets) 0)
    (answer_text job betas (λ (j : ℕ). column_of j table))

-- the program: arguments that ask for nothing get nothing, whatever the input is
unfoldable pub lab_output : Option Job → (betas : List Beta) → (text : List ℕ) → List ℕ
lab_output (Some job) betas text = input_text job betas (input_of (header_of job) text)
lab_output None betas text = []
