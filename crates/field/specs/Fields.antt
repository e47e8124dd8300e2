-- The fields of a line, each of which may be quoted, and what one holds: a name, or a number of 1 to 7 digits. Nothing that a field may hold is a comma
-- or a quote, so every comma parts two fields, and a quote is only the first or the last byte of one.
use Rattle.std.specs.Prelude.{ℕ, ◌+◌, ◌-◌, ◌*◌, Bool, true, false, cond, ◌&&◌, List, [], ◌∷◌, length, eqb, ltb}
use Rattle.std.specs.List.{slice_split}
use Rattle.signs.specs.Signs.{comma, quote}
use Rattle.model.specs.Limits.{within}

-- the fields of a line: every comma parts two, between quotes too; a line with no byte is one empty field
unfoldable pub fields_of : List ℕ → List (List ℕ)
fields_of line = slice_split (λ (b : ℕ). eqb b comma) line

-- two lists of bytes are the same
unfoldable pub same : List ℕ → List ℕ → Bool
same [] [] = true
same [] (c ∷ cs) = false
same (b ∷ bs) [] = false
same (b ∷ bs) (c ∷ cs) = eqb b c && same bs cs

-- a field without its last byte, if that is a quote; `open` where it is not
pub data Closed : Type 0 where
  «open» : Closed
  closed : List ℕ → Closed

abbrev pub behind : ℕ → Closed → Closed
behind b «open» = «open»
behind b (closed inner) = closed (b ∷ inner)

unfoldable pub up_to_quote : List ℕ → Closed
up_to_quote [] = «open»
up_to_quote (b ∷ []) = cond (eqb b quote) (closed []) «open»
up_to_quote (b ∷ c ∷ field) = behind b (up_to_quote (c ∷ field))

-- what a field holds: a field that begins with a quote and ends with another holds what stands between them
abbrev pub inside_or : List ℕ → Closed → List ℕ
inside_or field «open» = field
inside_or field (closed inner) = inner

unfoldable pub held_in : List ℕ → List ℕ
held_in [] = []
held_in (b ∷ field) = cond (eqb b quote) (inside_or (b ∷ field) (up_to_quote field)) (b ∷ field)

-- a number in decimal digits, the first of them the highest; leading zeros count as digits
unfoldable pub all_digits : List ℕ → Bool
all_digits [] = true
all_digits (b ∷ bytes) = within 48 57 b && all_digits bytes

unfoldable pub value_from : ℕ → List ℕ → ℕ
value_from n [] = n
value_from n (b ∷ bytes) = value_from (n * 10 + (b - 48)) bytes

-- 1 to 7 digits
unfoldable pub is_number : List ℕ → Bool
is_number bytes = within 1 7 (length bytes) && all_digits bytes

-- a name of letters: no digit, quote, comma, CR or LF is in it
unfoldable pub lettered : List ℕ → Bool
lettered [] = true
lettered (b ∷ name) = ltb 57 b && lettered name
