-- `audit`: a record in the form in which `run` writes it, and the totals or the first fault.
use Rattle.std.specs.Prelude.{ℕ, suc, cond, List, [], ◌∷◌, ◌++◌, eqb, Option, Some, None}
use Rattle.model.specs.declared.Cause.TheVariants.{Text}
use Rattle.model.specs.Record.{Lists}
use Rattle.model.specs.Numbers.{cause_number}
use Rattle.model.specs.Answers.{Reply}
use Rattle.model.specs.Calls.{audit_call}
use Rattle.signs.specs.Signs.{cr, lf}
use Rattle.output.specs.Output.{line_with, refusal_text}
use Rattle.lab_table.specs.Line.{counts_of}

-- the line of the first row whose number is not its place; the header is line 1, so the row at place 1 is line 2
unfoldable pub misnumbered_from : ℕ → List ℕ → Option ℕ
misnumbered_from place [] = None
misnumbered_from place (n ∷ numbers) = cond (eqb n place) (misnumbered_from (suc place) numbers) (Some (suc place))

-- `sent,value,rejected,pushed out,preempted,flushed,most held`
abbrev pub audit_header : List ℕ
audit_header =
    115 ∷ 101 ∷ 110 ∷ 116 ∷ 44 ∷ 118 ∷ 97 ∷ 108 ∷ 117 ∷ 101 ∷ 44 ∷ 114 ∷ 101 ∷ 106 ∷ 101 ∷ 99 ∷ 116 ∷ 101 ∷ 100 ∷ 44 ∷ 112 ∷ 117 ∷ 115 ∷ 104
    ∷ 101 ∷ 100 ∷ 32 ∷ 111 ∷ 117 ∷ 116 ∷ 44 ∷ 112 ∷ 114 ∷ 101 ∷ 101 ∷ 109 ∷ 112 ∷ 116 ∷ 101 ∷ 100 ∷ 44 ∷ 102 ∷ 108 ∷ 117 ∷ 115 ∷ 104 ∷ 101 ∷ 100
    ∷ 44 ∷ 109 ∷ 111 ∷ 115 ∷ 116 ∷ 32 ∷ 104 ∷ 101 ∷ 108 ∷ 100 ∷ cr ∷ lf ∷ []

-- the totals of a record, or the number and the place of its refusal or of its first fault
abbrev pub verdict_text : Reply → List ℕ
verdict_text reply =
    cond (eqb reply.number 0)
    (audit_header ++ line_with (counts_of reply.totals))
    (refusal_text reply.number reply.place)

-- a row out of its place, else what the audit says
abbrev pub audit_by : Option ℕ → Reply → List ℕ
audit_by (Some line) verdict = refusal_text (cause_number Text) line
audit_by None verdict = verdict_text verdict

-- `audit ROOM`
unfoldable pub audit_text : ℕ → List ℕ → List ℕ → List ℕ → Lists → List ℕ
audit_text room numbers slots values lists = audit_by (misnumbered_from 1 numbers) (audit_call slots values room lists)
