-- A text is a header, then a row of numbers a line. Malformed text is refused with the number of the first bad line, the header being line 1.
use Rattle.std.specs.Prelude.{ℕ, suc, Bool, true, false, cond, ◌&&◌, List, [], ◌∷◌, map, length, get_or, eqb}
use Rattle.field.specs.Fields.{fields_of, same, held_in, is_number, value_from}
use Rattle.rows.specs.Lines.{lines_of}

-- what the fields of a line hold
abbrev pub held_in_all : List (List ℕ) → List (List ℕ)
held_in_all fields = map held_in fields

unfoldable pub same_all : List (List ℕ) → List (List ℕ) → Bool
same_all [] [] = true
same_all [] (name ∷ names) = false
same_all (field ∷ fields) [] = false
same_all (field ∷ fields) (name ∷ names) = same field name && same_all fields names

unfoldable pub all_numbers : List (List ℕ) → Bool
all_numbers [] = true
all_numbers (field ∷ fields) = is_number field && all_numbers fields

-- a header has a column for each of its names
abbrev pub columns_of : List ℕ → ℕ
columns_of header = length (fields_of header)

-- the header line: its fields hold the header's names
abbrev pub is_header : List ℕ → List ℕ → Bool
is_header header line = same_all (held_in_all (fields_of line)) (fields_of header)

-- a row: a number for each column
abbrev pub is_row : ℕ → List ℕ → Bool
is_row columns line = eqb (length (fields_of line)) columns && all_numbers (held_in_all (fields_of line))

abbrev pub row_of : List ℕ → List ℕ
row_of line = map (value_from 0) (held_in_all (fields_of line))

-- all rows, or the first bad line
pub data Input : Type 0 where
  malformed : ℕ → Input
  rows : List (List ℕ) → Input

abbrev pub with_row : List ℕ → Input → Input
with_row row (malformed line) = malformed line
with_row row (rows more) = rows (row ∷ more)

-- the rows of the lines from this number on
unfoldable pub rows_from : ℕ → ℕ → List (List ℕ) → Input
rows_from columns number [] = rows []
rows_from columns number (line ∷ lines) =
    cond (is_row columns line) (with_row (row_of line) (rows_from columns (suc number) lines)) (malformed number)

unfoldable pub input_by : List ℕ → List (List ℕ) → Input
input_by header [] = malformed 1
input_by header (line ∷ lines) = cond (is_header header line) (rows_from (columns_of header) 2 lines) (malformed 1)

unfoldable pub input_of : List ℕ → List ℕ → Input
input_of header text = input_by header (lines_of text)

-- the numbers of one column, a number a row
abbrev pub column_of : ℕ → List (List ℕ) → List ℕ
column_of j table = map (λ (row : List ℕ). get_or row j 0) table
