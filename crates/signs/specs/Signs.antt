-- The bytes that the grammar of our texts names, and the headers of a trace and of a record. A byte is its number. The code has the headers once more,
-- as constants, which its functions show equal to these.
use Rattle.std.specs.Prelude.{ℕ, List, [], ◌∷◌}

abbrev pub cr : ℕ
cr = 13

abbrev pub lf : ℕ
lf = 10

abbrev pub comma : ℕ
comma = 44

abbrev pub quote : ℕ
quote = 34

abbrev pub slash : ℕ
slash = 47

-- `slot,value`
abbrev pub trace_header : List ℕ
trace_header = 115 ∷ 108 ∷ 111 ∷ 116 ∷ 44 ∷ 118 ∷ 97 ∷ 108 ∷ 117 ∷ 101 ∷ []

-- `number,slot,value,fate,when,by`
abbrev pub record_header : List ℕ
record_header =
    110 ∷ 117 ∷ 109 ∷ 98 ∷ 101 ∷ 114 ∷ 44 ∷ 115 ∷ 108 ∷ 111 ∷ 116 ∷ 44 ∷ 118 ∷ 97 ∷ 108 ∷ 117 ∷ 101 ∷ 44 ∷ 102 ∷ 97 ∷ 116 ∷ 101 ∷ 44 ∷ 119
    ∷ 104 ∷ 101 ∷ 110 ∷ 44 ∷ 98 ∷ 121 ∷ []
