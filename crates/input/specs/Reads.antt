-- What is made of the reads. A piece is what one read handed over; the kit has no name for what stands on standard input, so the pieces are some list of
-- lists.
use Rattle.std.specs.Prelude.{ℕ, ◌-◌, ◌*◌, ◌^◌, ◌≤◌, ◌≡◌, Bool, true, false, cond, List, [], ◌∷◌, length, take, eqb, Result, Ok, Err}
use Rattle.model.specs.Limits.{record_limits}
use Rattle.rows.specs.declared.RowsError.{RowsError}
use Rattle.rows.specs.Input.{columns_of}
use Rattle.rows.specs.Reading.{state, start_parser, outcome_of}
use Rattle.rows.specs.Whole.{text_of, fed, read_all, HeaderOfLetters, Tells}
use Rattle.input.specs.declared.InputError.{InputError}
use Rattle.input.specs.declared.InputError.TheVariants.{Failed, TooLong}

-- read to the end: the last read handed over nothing, and each before it something
unfoldable pub to_end : List (List ℕ) → Bool
to_end [] = false
to_end (piece ∷ pieces) = cond (eqb (length piece) 0) (eqb (length pieces) 0) (to_end pieces)

-- what was read of the bytes that the reads handed over, however they were cut into pieces: under a header of letters, into a table of its size, it is
-- what the definitions read in their text
pub record ReadToEnd (header : List ℕ) (said : Result ℕ RowsError) (table table' : List ℕ) : Type 0 where
  pub pieces : List (List ℕ)
  pub whole : to_end pieces ≡ true
  pub says : said ≡ outcome_of (read_all header pieces table).parser
  pub leaves : table' ≡ (read_all header pieces table).table
  pub tells : HeaderOfLetters header → length table ≡ columns_of header * record_limits.packets → Tells header (text_of pieces) said table'

-- the table after some pieces, where reading stopped
pub record Stopped (header table table' : List ℕ) : Type 0 where
  pub pieces : List (List ℕ)
  pub leaves : table' ≡ (fed header pieces (state (start_parser header) table)).table

-- the most bytes that are read
abbrev pub most_bytes : ℕ
most_bytes = 2 ^ 64 - 3

-- the reads handed over as many bytes as that, or more
pub record StoppedLong (header table table' : List ℕ) : Type 0 where
  pub stopped : Stopped header table table'
  pub many : most_bytes ≤ length (text_of stopped.pieces)

-- how reading ended
abbrev pub EndedBy : List ℕ → Result (Result ℕ RowsError) InputError → List ℕ → List ℕ → Type 0
EndedBy header (Ok said) table table' = ReadToEnd header said table table'
EndedBy header (Err Failed) table table' = Stopped header table table'
EndedBy header (Err TooLong) table table' = StoppedLong header table table'

-- the same of a program that answers its input. The first n bytes of the list are the output for the bytes that the reads handed over, however they were
-- cut into pieces
pub record Output (outputOf : List ℕ → List ℕ) (n : ℕ) (out : List ℕ) : Type 0 where
  pub inside : n ≤ length out
  pub pieces : List (List ℕ)
  pub whole : to_end pieces ≡ true
  pub output : take n out ≡ outputOf (text_of pieces)

-- the reads handed over as many bytes as are read at most, or more
pub record Overlong : Type 0 where
  pub pieces : List (List ℕ)
  pub many : most_bytes ≤ length (text_of pieces)
