-- What our programs write: CSV with CRLF after each line.
use Rattle.std.specs.Prelude.{ℕ, zero, suc, ◌+◌, ◌*◌, ◌/◌, ◌%◌, cond, List, [], ◌∷◌, ◌++◌, ltb}
use Rattle.model.specs.Limits.{record_limits}
use Rattle.model.specs.Record.{Row}
use Rattle.signs.specs.Signs.{cr, lf, comma}

-- a number of at most twenty digits in decimal, without leading zeros
unfoldable pub digits_from : ℕ → ℕ → List ℕ
digits_from zero n = []
digits_from (suc fuel) n = cond (ltb n 10) ((48 + n) ∷ []) (digits_from fuel (n / 10) ++ (48 + n % 10) ∷ [])

abbrev pub decimal : ℕ → List ℕ
decimal n = digits_from 20 n

-- numbers with a comma between two, and a CRLF after the last
unfoldable pub line_with : List ℕ → List ℕ
line_with [] = cr ∷ lf ∷ []
line_with (n ∷ []) = decimal n ++ cr ∷ lf ∷ []
line_with (n ∷ m ∷ numbers) = decimal n ++ comma ∷ line_with (m ∷ numbers)

-- packet number, trace slot, trace value, then the record
abbrev pub row_line : Row → List ℕ
row_line r = line_with (r.number.0 ∷ r.slot.0 ∷ r.value ∷ r.fate ∷ r.when.0 ∷ r.by.0 ∷ [])

unfoldable pub row_lines : List Row → List ℕ
row_lines [] = []
row_lines (r ∷ rows) = row_line r ++ row_lines rows

-- `refusal,place`
abbrev pub refusal_header : List ℕ
refusal_header = 114 ∷ 101 ∷ 102 ∷ 117 ∷ 115 ∷ 97 ∷ 108 ∷ 44 ∷ 112 ∷ 108 ∷ 97 ∷ 99 ∷ 101 ∷ cr ∷ lf ∷ []

abbrev pub refusal_text : ℕ → ℕ → List ℕ
refusal_text number place = refusal_header ++ line_with (number ∷ place ∷ [])

-- no answer of a program is longer than the header of a record, of 32 bytes with its line's end, and 128 bytes a packet
abbrev pub output_limit : ℕ
output_limit = 32 + 128 * record_limits.packets
