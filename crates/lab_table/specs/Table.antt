-- `table`: all policies side by side, a line each: greedy, PG with each beta, MF where the trace has two values, and the plan.
use Rattle.std.specs.Prelude.{ℕ, ◌+◌, ◌*◌, min, max, cond, List, [], ◌∷◌, ◌++◌, length, map, eqb, ltb, Result, Ok, Err, unwrap_or}
use Rattle.std.specs.List.{reduce}
use Rattle.model.specs.declared.Beta.{Beta}
use Rattle.model.specs.declared.Totals.{Totals}
use Rattle.model.specs.Answers.{Reply}
use Rattle.signs.specs.Signs.{cr, lf}
use Rattle.output.specs.Output.{refusal_text}
use Rattle.runs.specs.declared.Policy.{Policy}
use Rattle.runs.specs.declared.Policy.TheVariants.{Greedy, PG, MF, Plan}
use Rattle.runs.specs.Policy.{reply_of}
use Rattle.lab_table.specs.Line.{line_of}

-- the most betas of a table
abbrev pub most_betas : ℕ
most_betas = 32

-- the most bytes of a table: its header, and the lines of greedy, of each beta, of MF and of the plan, of at most 239 bytes each
abbrev pub table_limit : ℕ
table_limit = 75 + 239 * (3 + most_betas)

-- the lines of some policies; or the number and the place of the first refusal
abbrev pub Lines : Type 0
Lines = Result (List ℕ) (ℕ × ℕ)

abbrev pub behind : List ℕ → Lines → Lines
behind line (Ok lines) = Ok (line ++ lines)
behind line (Err refusal) = Err refusal

-- the line of a call before some more, or its refusal
abbrev pub line_unless : Policy → Reply → ℕ → Lines → Lines
line_unless policy reply plan more =
    cond (eqb reply.number 0) (behind (line_of policy reply.totals plan) more) (Err (reply.number, reply.place))

unfoldable pub lines_of : ℕ → List ℕ → List ℕ → ℕ → List Policy → Lines
lines_of room slots values plan [] = Ok []
lines_of room slots values plan (policy ∷ policies) =
    line_unless policy (reply_of policy room slots values) plan (lines_of room slots values plan policies)

-- PG with each beta
abbrev pub betas_of : List Beta → List Policy
betas_of betas = map PG betas

-- the lines whose refusal refuses the table
abbrev pub compared_of : ℕ → List ℕ → List ℕ → ℕ → List Beta → Lines
compared_of room slots values plan betas = lines_of room slots values plan (Greedy ∷ betas_of betas)

-- the lowest value of a trace, and the greatest; 0 of none
abbrev pub lowest : List ℕ → ℕ
lowest values = unwrap_or (reduce min values) 0

abbrev pub greatest : List ℕ → ℕ
greatest values = unwrap_or (reduce max values) 0

-- MF with the trace's lowest value as lo, its greatest as hi, and r = 1
abbrev pub trace_mf : List ℕ → Policy
trace_mf values = MF (record { lo = lowest values; hi = greatest values; r = 1 })

-- its line; none where it is refused, as where the trace has not two values
unfoldable pub mf_line : ℕ → List ℕ → List ℕ → ℕ → List ℕ
mf_line room slots values plan =
    let reply = reply_of (trace_mf values) room slots values in
    cond (eqb reply.number 0) (line_of (trace_mf values) reply.totals plan) []

-- `policy,sent,value,rejected,pushed out,preempted,flushed,most held,of plan`
abbrev pub table_header : List ℕ
table_header =
    112 ∷ 111 ∷ 108 ∷ 105 ∷ 99 ∷ 121 ∷ 44 ∷ 115 ∷ 101 ∷ 110 ∷ 116 ∷ 44 ∷ 118 ∷ 97 ∷ 108 ∷ 117 ∷ 101 ∷ 44 ∷ 114 ∷ 101 ∷ 106 ∷ 101 ∷ 99 ∷ 116
    ∷ 101 ∷ 100 ∷ 44 ∷ 112 ∷ 117 ∷ 115 ∷ 104 ∷ 101 ∷ 100 ∷ 32 ∷ 111 ∷ 117 ∷ 116 ∷ 44 ∷ 112 ∷ 114 ∷ 101 ∷ 101 ∷ 109 ∷ 112 ∷ 116 ∷ 101 ∷ 100 ∷ 44
    ∷ 102 ∷ 108 ∷ 117 ∷ 115 ∷ 104 ∷ 101 ∷ 100 ∷ 44 ∷ 109 ∷ 111 ∷ 115 ∷ 116 ∷ 32 ∷ 104 ∷ 101 ∷ 108 ∷ 100 ∷ 44 ∷ 111 ∷ 102 ∷ 32 ∷ 112 ∷ 108 ∷ 97
    ∷ 110 ∷ cr ∷ lf ∷ []

-- a table, or the refusal of one of its calls
abbrev pub table_by : Lines → List ℕ → List ℕ
table_by (Ok lines) last = table_header ++ (lines ++ last)
table_by (Err (number, place)) last = refusal_text number place

-- the table where the plan's run has these totals
unfoldable pub table_with : ℕ → List Beta → List ℕ → List ℕ → Totals → List ℕ
table_with room betas slots values plan =
    let best = plan.sent.value in
    table_by (compared_of room slots values best betas) (mf_line room slots values best ++ line_of Plan plan best)

-- `table ROOM BETA..`
unfoldable pub table_text : ℕ → List Beta → List ℕ → List ℕ → List ℕ
table_text room betas slots values =
    let plan = reply_of Plan room slots values in
    cond (eqb plan.number 0) (table_with room betas slots values plan.totals) (refusal_text plan.number plan.place)

-- the same for lists of any length: nothing is said in a list that is too short for the longest table, nor of too many betas
unfoldable pub table_spoken : ℕ → List Beta → List ℕ → List ℕ → List ℕ → List ℕ
table_spoken room betas slots values out =
    cond (ltb (length out) table_limit) [] (cond (ltb most_betas (length betas)) [] (table_text room betas slots values))

-- the betas of numerators and denominators, in pairs
unfoldable pub betas_from : List ℕ → List ℕ → List Beta
betas_from (num ∷ nums) (den ∷ dens) = record { num = num; den = den } ∷ betas_from nums dens
betas_from _ _ = []

-- the same for betas in parallel lists: nothing is said of numerators that are not as many as the denominators
unfoldable pub table_of_lists_spoken : ℕ → List ℕ → List ℕ → List ℕ → List ℕ → List ℕ → List ℕ
table_of_lists_spoken room nums dens slots values out =
    cond (eqb (length dens) (length nums)) (table_spoken room (betas_from nums dens) slots values out) []
