-- The parser: what each byte makes of it. In line 1 a field is read against its column's name, elsewhere against none; a bad line is kept, whatever
-- follows.
use Rattle.std.specs.Prelude.{ℕ, min, ◌+◌, ◌-◌, ◌^◌, Bool, true, false, cond, List, [], ◌∷◌, get_or, ltb, eqb, Option, None, Some, Result, Ok, Err}
use Rattle.model.specs.Limits.{record_limits}
use Rattle.signs.specs.Signs.{cr, lf, comma}
use Rattle.field.specs.declared.Kind.{Kind}
use Rattle.field.specs.declared.Kind.TheVariants.{Name, Number}
use Rattle.field.specs.declared.Field.{Field}
use Rattle.field.specs.Fields.{fields_of}
use Rattle.field.specs.Reading.{fresh_field, bad_field, field_after, kind_at, is_fresh, is_bad}
use Rattle.rows.specs.declared.Parser.{Parser}
use Rattle.rows.specs.declared.RowsError.{RowsError}
use Rattle.rows.specs.declared.RowsError.TheVariants.{Malformed, TooMany}
use Rattle.rows.specs.Input.{columns_of}
use Rattle.rows.specs.Table.{written}

-- before the first byte of a text
abbrev pub start_parser : List ℕ → Parser
start_parser header =
    record { last = columns_of header - 1; column = 0; field = fresh_field; after_cr = false; line = 1; count = 0 }

-- the same field of the same line, further on
abbrev pub in_field : Field → Parser → Parser
in_field field p = record p { field = field; after_cr = false }

-- in a line that is bad: it stays so
abbrev pub spoiled : Parser → Parser
spoiled p = in_field bad_field p

-- behind a CR, which may begin a line's end
abbrev pub after_return : Parser → Parser
after_return p = record p { after_cr = true }

-- at the start of the next field
abbrev pub next_column : Parser → Parser
next_column p = record p { column = p.column + 1; field = fresh_field; after_cr = false }

-- the rows up to the end of this line: the header is none, and one more than there are places for is enough
abbrev pub counted : Parser → ℕ
counted p = cond (eqb p.line 1) p.count (min (p.count + 1) (record_limits.packets + 1))

-- at the start of the next line
abbrev pub next_line : Parser → Parser
next_line p =
    record { last = p.last; column = 0; field = fresh_field; after_cr = false; line = min (p.line + 1) (2 ^ 64 - 1); count = counted p }

-- the name that a field of this line is read against
abbrev pub name_of : List ℕ → Parser → List ℕ
name_of header p = cond (eqb p.line 1) (get_or (fields_of header) p.column []) []

-- a parser with the table that it writes
pub record State : Type 0 where
  pub parser : Parser
  pub table : List ℕ

abbrev pub state : Parser → List ℕ → State
state p table = record { parser = p; table = table }

abbrev pub in_state : Parser → State → State
in_state p st = state p st.table

abbrev pub spoiled_state : State → State
spoiled_state st = in_state (spoiled st.parser) st

-- a field has ended: in line 1 it holds its column's name, elsewhere a number, which is written; the parser goes on as `next`
abbrev pub field_ended_by : Option Kind → Parser → State → State
field_ended_by None next st = spoiled_state st
field_ended_by (Some Name) next st = cond (eqb st.parser.line 1) (in_state next st) (spoiled_state st)
field_ended_by (Some (Number n)) next st =
    cond (eqb st.parser.line 1) (spoiled_state st) (state next (written st.parser.column st.parser.count n st.table))

unfoldable pub field_ended : List ℕ → Parser → State → State
field_ended header next st = field_ended_by (kind_at (name_of header st.parser) st.parser.field) next st

-- a comma: the field is not the last of its line
unfoldable pub column_ended : List ℕ → State → State
column_ended header st =
    cond (ltb st.parser.column st.parser.last) (field_ended header (next_column st.parser) st) (spoiled_state st)

-- the end of a line: the field is the last
unfoldable pub line_ended : List ℕ → State → State
line_ended header st =
    cond (eqb st.parser.column st.parser.last) (field_ended header (next_line st.parser) st) (spoiled_state st)

-- a byte of a line
unfoldable pub in_line : List ℕ → ℕ → State → State
in_line header b st =
    let p = st.parser in
    cond (eqb b comma) (column_ended header st) (in_state (in_field (field_after (name_of header p) b p.field) p) st)

-- one byte more, behind a CR or not
abbrev pub after_by : Bool → List ℕ → ℕ → State → State
after_by true header b st = cond (eqb b lf) (line_ended header st) (spoiled_state st)
after_by false header b st = cond (eqb b cr) (in_state (after_return st.parser) st) (in_line header b st)

unfoldable pub after : List ℕ → ℕ → State → State
after header b st = after_by st.parser.after_cr header b st

unfoldable pub after_all : List ℕ → List ℕ → State → State
after_all header [] st = st
after_all header (b ∷ bytes) st = after_all header bytes (after header b st)

-- no byte of this line has come
unfoldable pub at_start : Parser → Bool
at_start p = cond (eqb p.column 0) (is_fresh p.field.stage) false

-- the end of the input, behind a CR or not, at the start of a line or not: the last line's end is optional
abbrev pub finished_by : Bool → Bool → List ℕ → State → State
finished_by true start header st = spoiled_state st
finished_by false true header st = cond (eqb st.parser.line 1) (line_ended header st) st
finished_by false false header st = line_ended header st

unfoldable pub finished : List ℕ → State → State
finished header st = finished_by st.parser.after_cr (at_start st.parser) header st

-- what was read: the bad line, before all else; more rows than there are places for; or so many rows
unfoldable pub outcome_of : Parser → Result ℕ RowsError
outcome_of p =
    cond (is_bad p.field.stage) (Err (Malformed p.line)) (cond (ltb record_limits.packets p.count) (Err TooMany) (Ok p.count))
