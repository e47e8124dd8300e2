-- The parser as a whole: a text that comes in any pieces is read as the text, whatever was in the lent table before.
use Rattle.std.specs.Prelude.{ℕ, ◌-◌, ◌*◌, ◌^◌, ◌≤◌, ◌<◌, ◌≡◌, Bool, true, cond, ◌&&◌, List, [], ◌∷◌, ◌++◌, length, ltb, Result, Ok, Err}
use Rattle.model.specs.Limits.{record_limits}
use Rattle.field.specs.Fields.{fields_of, lettered}
use Rattle.rows.specs.declared.RowsError.{RowsError}
use Rattle.rows.specs.declared.RowsError.TheVariants.{Malformed, TooMany}
use Rattle.rows.specs.Input.{Input, malformed, rows, input_of, columns_of, column_of}
use Rattle.rows.specs.Table.{column_in}
use Rattle.rows.specs.Reading.{State, state, start_parser, after_all, finished, outcome_of}

-- the text that some pieces make
unfoldable pub text_of : List (List ℕ) → List ℕ
text_of [] = []
text_of (piece ∷ pieces) = piece ++ text_of pieces

-- a state after some pieces
unfoldable pub fed : List ℕ → List (List ℕ) → State → State
fed header [] st = st
fed header (piece ∷ pieces) st = fed header pieces (after_all header piece st)

-- start, feed each piece, end
abbrev pub read_all : List ℕ → List (List ℕ) → List ℕ → State
read_all header pieces table = finished header (fed header pieces (state (start_parser header) table))

-- a line's number has 64 bits, so it counts the lines of a text of fewer bytes than this
abbrev pub bytes_limit : ℕ
bytes_limit = 2 ^ 64 - 2

-- a header of letters: each of its names is of letters
unfoldable pub all_lettered : List (List ℕ) → Bool
all_lettered [] = true
all_lettered (name ∷ names) = lettered name && all_lettered names

abbrev pub HeaderOfLetters : List ℕ → Type 0
HeaderOfLetters header = all_lettered (fields_of header) ≡ true

-- what is to be said of an input: the bad line, before all else
abbrev pub said_of : Input → Result ℕ RowsError
said_of (malformed line) = Err (Malformed line)
said_of (rows table) = cond (ltb record_limits.packets (length table)) (Err TooMany) (Ok (length table))

-- the rows of an input stand in the table, column by column, unless there are too many
abbrev pub Stands : ℕ → Input → List ℕ → Type 0
Stands columns (malformed line) table = Unit {0}
Stands columns (rows all) table =
    length all ≤ record_limits.packets → (j : ℕ) → j < columns → column_in j (length all) table ≡ column_of j all

-- what was read, and the table, are those of the text
pub record Tells (header text : List ℕ) (said : Result ℕ RowsError) (table : List ℕ) : Type 0 where
  pub says : said ≡ said_of (input_of header text)
  pub stands : Stands (columns_of header) (input_of header text) table

-- under a header of letters, into a table of its size
abbrev pub Whole : Type 0
Whole =
    (header : List ℕ) → HeaderOfLetters header
    → (pieces : List (List ℕ)) → length (text_of pieces) < bytes_limit
    → (table : List ℕ) → length table ≡ columns_of header * record_limits.packets
    → let st = read_all header pieces table in
    Tells header (text_of pieces) (outcome_of st.parser) st.table
