-- A line read byte by byte is the line read as a whole: what a line that has been read so far and its rest make together does not change when one byte
-- goes from the rest to what is read. Every column has a name, the empty one in a row; a number in a row is what is no name.
use Prim.Native.Nat.{ℕ, zero, suc, ◌≤◌, ◌<◌}
use mathlib.Core.Path.{◌≡◌, refl, sym, ap, ◌∙◌}
use mathlib.Core.Bool.{Bool, true, false, cond, ◌&&◌, and-eq-true_iff}
use mathlib.Core.List.{List, [], ◌∷◌, map}
use native.Mathlib.Numerals.{add-one}
use native.Mathlib.Omega.{arith}
use lib.ListN.{length, get_or, drop, replicate, length-replicate, get_or-replicate, drop_of_length-le}
use lib.Seq.{drop-cons}
use lib.Dec.{eqb, eqb-suc-suc}
use borrow.Author.Tests.{ne_eqb}
use Rattle.laws.proofs.Cases.{cond_cases}
use Rattle.std.specs.List.{onto_first}
use Rattle.model.specs.Limits.{within}
use Rattle.signs.specs.Signs.{comma}
use Rattle.std.specs.Prelude.{Option, None, Some}
use Rattle.field.specs.declared.Kind.{Kind}
use Rattle.field.specs.declared.Kind.TheVariants.{Name, Number}
use Rattle.field.specs.declared.Field.{Field}
use Rattle.field.specs.Fields.{fields_of, same, held_in, is_number, value_from, lettered}
use Rattle.field.specs.Reading.{fresh_field, bad_field, field_after, kind_at}
use Rattle.field.proofs.Fielding.{SoundField, kind_after, field_from, Lettered, letters_of, field_law, kind_law, low_field, bad_from, fresh_from}
use Rattle.field.proofs.Whole.{kind_whole}
use Rattle.rows.specs.declared.Parser.{Parser}
use Rattle.rows.specs.Input.{held_in_all, same_all, all_numbers, columns_of, is_header, is_row, row_of}
use Rattle.rows.specs.Reading.{name_of, in_field, spoiled, next_column}
use Rattle.rows.specs.Whole.{all_lettered}
use Rattle.rows.proofs.Naming.{fields_some}

-- what the fields of a line make: a number each in a row, none in the header
pub data Got : Type 0 where
  bad : Got
  got : List ℕ → Got

abbrev pub with_number : ℕ → Got → Got
with_number n bad = bad
with_number n (got more) = got (n ∷ more)

-- a field, in line 1 or not, and those that follow
abbrev pub taking : Option Kind → Bool → Got → Got
taking None first more = bad
taking (Some Name) true more = more
taking (Some Name) false more = bad
taking (Some (Number n)) true more = bad
taking (Some (Number n)) false more = with_number n more

taking_bad : (k : Option Kind) (first : Bool) → taking k first bad ≡ bad
taking_bad None first = refl
taking_bad (Some Name) true = refl
taking_bad (Some Name) false = refl
taking_bad (Some (Number n)) true = refl
taking_bad (Some (Number n)) false = refl

-- fields, each against the name in its place
unfoldable pub fields_got : Bool → List (List ℕ) → List (List ℕ) → Got
fields_got first [] [] = got []
fields_got first [] (field ∷ fields) = bad
fields_got first (name ∷ names) [] = bad
fields_got first (name ∷ names) (field ∷ fields) = taking (kind_after name 0 0 0 (held_in field)) first (fields_got first names fields)

-- the same, where the first field has been begun
unfoldable pub go_on : Bool → List (List ℕ) → Field → List (List ℕ) → Got
go_on first [] f fields = bad
go_on first (name ∷ names) f [] = bad
go_on first (name ∷ names) f (field ∷ fields) = taking (field_from name f field) first (fields_got first names fields)

abbrev pub is_first : Parser → Bool
is_first p = eqb p.line 1

-- the names of the columns: the header's in line 1, empty ones elsewhere
abbrev pub names_in : List ℕ → Bool → List (List ℕ)
names_in header first = cond first (fields_of header) (replicate (columns_of header) [])

-- what a line that has been read so far and its rest make together
unfoldable pub line_from : List ℕ → Parser → List ℕ → Got
line_from header p line = go_on (is_first p) (drop p.column (names_in header (is_first p))) p.field (fields_of line)

-- a whole line
abbrev pub line_got : List ℕ → Bool → List ℕ → Got
line_got header first line = fields_got first (names_in header first) (fields_of line)

names_length : (header : List ℕ) (first : Bool) → length (names_in header first) ≡ columns_of header
names_length header true = refl
names_length header false = length-replicate (columns_of header) []

name_in_lem : (header : List ℕ) (p : Parser) → p.column < columns_of header → get_or (names_in header (is_first p)) p.column [] ≡ name_of header p
name_in_lem header p inside = go (is_first p)
  where
    go : (first : Bool) → get_or (names_in header first) p.column [] ≡ cond first (get_or (fields_of header) p.column []) []
    go true = refl
    go false = get_or-replicate (columns_of header) p.column [] [] inside

-- the names behind the present column's
abbrev pub names_behind : List ℕ → Parser → List (List ℕ)
names_behind header p = drop (suc p.column) (names_in header (is_first p))

-- the present column's name is the first of those that are left
pub from_here : (header : List ℕ) (p : Parser) → p.column < columns_of header → (line : List ℕ)
    → line_from header p line ≡ go_on (is_first p) (name_of header p ∷ names_behind header p) p.field (fields_of line)
unfolding line_from
from_here header p inside line =
    let names = names_in header (is_first p) in
    let longer : p.column < length names = rw (names_length header (is_first p)) inside in
    ap (λ (left : List (List ℕ)). go_on (is_first p) left p.field (fields_of line))
    (drop-cons names p.column [] longer ∙ ap (λ (name : List ℕ). name ∷ names_behind header p) (name_in_lem header p inside))

bad_on : (first : Bool) (names fields : List (List ℕ)) → go_on first names bad_field fields ≡ bad
unfolding go_on
bad_on first [] fields = refl
bad_on first (name ∷ names) [] = refl
bad_on first (name ∷ names) (field ∷ fields) = ap (λ (k : Option Kind). taking k first (fields_got first names fields)) (bad_from name field)

-- a line that is bad stays so
pub spoiled_line : (header : List ℕ) (p : Parser) (line : List ℕ) → line_from header (spoiled p) line ≡ bad
unfolding line_from
spoiled_line header p line = bad_on (is_first p) (drop p.column (names_in header (is_first p))) (fields_of line)

-- a field before its first byte
fresh_on : (first : Bool) (name : List ℕ) (names fields : List (List ℕ)) → go_on first (name ∷ names) fresh_field fields ≡ fields_got first (name ∷ names) fields
unfolding go_on fields_got
fresh_on first name names [] = refl
fresh_on first name names (field ∷ fields) = ap (λ (k : Option Kind). taking k first (fields_got first names fields)) (fresh_from name field)

-- where no name is left no field may follow
none_left : (first : Bool) (line : List ℕ) → fields_got first [] (fields_of line) ≡ bad
unfolding fields_got
none_left first line = fields_some line (λ (fields : List (List ℕ)). fields_got first [] fields ≡ bad) (λ field more. refl)

-- a name of letters in each column
abbrev pub AllLetters : List (List ℕ) → Type 0
AllLetters [] = Unit {0}
AllLetters (name ∷ names) = Lettered name × AllLetters names

pub all_letters : (names : List (List ℕ)) → all_lettered names ≡ true → AllLetters names
unfolding all_lettered
all_letters [] all = tt
all_letters (name ∷ names) all =
    (letters_of name ((and-eq-true_iff (lettered name) (all_lettered names)).0 all).0, all_letters names ((and-eq-true_iff (lettered name) (all_lettered names)).0 all).1)

no_letters : Lettered []
no_letters k h = absurd (omega arith)

letters_at : (names : List (List ℕ)) (k : ℕ) → AllLetters names → Lettered (get_or names k [])
letters_at [] k all = no_letters
letters_at (name ∷ names) zero all = all.0
letters_at (name ∷ names) (suc k) all = letters_at names k all.1

pub name_letters : (header : List ℕ) → AllLetters (fields_of header) → (p : Parser) → Lettered (name_of header p)
name_letters header all p = cond_cases Lettered (is_first p) _ _ (λ t. letters_at (fields_of header) p.column all) (λ t. no_letters)

module _ (header : List ℕ) (letters : AllLetters (fields_of header)) (p : Parser) (inside : p.column < columns_of header) (sound : SoundField p.field) where
  name_lettered : Lettered (name_of header p)
  name_lettered = name_letters header letters p

  -- a line that ends here
  pub ended_line : line_from header p [] ≡ taking (kind_at (name_of header p) p.field) (is_first p) (fields_got (is_first p) (names_behind header p) [])
  unfolding go_on fields_of
  ended_line =
      from_here header p inside []
      ∙ ap (λ (k : Option Kind). taking k (is_first p) (fields_got (is_first p) (names_behind header p) [])) (sym (kind_law (name_of header p) name_lettered p.field sound))

  -- the field is the last of its line, or not
  pub ended_last : suc p.column ≡ columns_of header → line_from header p [] ≡ taking (kind_at (name_of header p) p.field) (is_first p) (got [])
  unfolding fields_got
  ended_last last =
      let all : length (names_in header (is_first p)) ≤ suc p.column = rw (names_length header (is_first p)) (omega arith) in
      ended_line ∙ rw (drop_of_length-le (names_in header (is_first p)) all) refl

  pub ended_early : suc p.column < columns_of header → line_from header p [] ≡ bad
  unfolding fields_got
  ended_early early =
      let names = names_in header (is_first p) in
      let more : suc p.column < length names = rw (names_length header (is_first p)) early in
      ended_line ∙ rw (drop-cons names (suc p.column) [] more) (taking_bad (kind_at (name_of header p) p.field) (is_first p))

  -- a comma ends the field
  comma_line : (line : List ℕ)
      → line_from header p (comma ∷ line) ≡ taking (kind_at (name_of header p) p.field) (is_first p) (fields_got (is_first p) (names_behind header p) (fields_of line))
  unfolding go_on fields_of
  comma_line line =
      from_here header p inside (comma ∷ line)
      ∙ ap (λ (k : Option Kind). taking k (is_first p) (fields_got (is_first p) (names_behind header p) (fields_of line)))
      (sym (kind_law (name_of header p) name_lettered p.field sound))

  pub comma_last : suc p.column ≡ columns_of header → (line : List ℕ) → line_from header p (comma ∷ line) ≡ bad
  comma_last last line =
      let all : length (names_in header (is_first p)) ≤ suc p.column = rw (names_length header (is_first p)) (omega arith) in
      comma_line line
      ∙ rw (drop_of_length-le (names_in header (is_first p)) all, none_left (is_first p) line) (taking_bad (kind_at (name_of header p) p.field) (is_first p))

  pub comma_on : suc p.column < columns_of header → (line : List ℕ)
      → line_from header p (comma ∷ line) ≡ taking (kind_at (name_of header p) p.field) (is_first p) (line_from header (next_column p) line)
  unfolding line_from
  comma_on early line =
      let names = names_in header (is_first p) in
      let more : suc p.column < length names = rw (names_length header (is_first p)) early in
      comma_line line
      ∙ ap (taking (kind_at (name_of header p) p.field) (is_first p))
      (rw (add-one p.column, drop-cons names (suc p.column) [] more) (sym (fresh_on (is_first p) _ _ (fields_of line))))

  -- one byte goes from the rest of a field to what is read of it
  pub line_law : (b : ℕ) (line : List ℕ) → (b ≡ comma → ⊥)
      → line_from header (in_field (field_after (name_of header p) b p.field) p) line ≡ line_from header p (b ∷ line)
  unfolding go_on fields_of
  line_law b line other =
      from_here header (in_field (field_after (name_of header p) b p.field) p) inside line
      ∙ fields_some line
      (λ (fields : List (List ℕ)). go_on (is_first p) (name_of header p ∷ names_behind header p) (field_after (name_of header p) b p.field) fields
      ≡ go_on (is_first p) (name_of header p ∷ names_behind header p) p.field (onto_first b fields))
      (λ field more. ap (λ (k : Option Kind). taking k (is_first p) (fields_got (is_first p) (names_behind header p) more)) (field_law (name_of header p) name_lettered p.field sound b field))
      ∙ sym (from_here header p inside (b ∷ line) ∙ rw (ne_eqb b comma other) refl)

  -- a control character spoils a line
  pub low_line : (b : ℕ) (line : List ℕ) → b < 34 → line_from header p (b ∷ line) ≡ bad
  unfolding go_on fields_of
  low_line b line low =
      from_here header p inside (b ∷ line)
      ∙ rw (ne_eqb b comma (λ e. omega arith))
      (fields_some line (λ (fields : List (List ℕ)). go_on (is_first p) (name_of header p ∷ names_behind header p) p.field (onto_first b fields) ≡ bad)
      (λ field more. ap (λ (k : Option Kind). taking k (is_first p) (fields_got (is_first p) (names_behind header p) more)) (low_field (name_of header p) name_lettered p.field b field low)))

-- before the first byte of a line all of it is left
pub line_start : (header : List ℕ) (p : Parser) → p.column ≡ 0 → p.field ≡ fresh_field → 0 < columns_of header → (line : List ℕ)
    → line_from header p line ≡ line_got header (is_first p) line
unfolding line_from
line_start header p is fresh some line =
    let names = names_in header (is_first p) in
    let more : 0 < length names = rw (names_length header (is_first p)) some in
    rw (is, fresh) (rw (drop-cons names 0 [] more) (fresh_on (is_first p) _ _ (fields_of line)) ∙ ap (λ (left : List (List ℕ)). fields_got (is_first p) left (fields_of line)) (sym (drop-cons names 0 [] more)))

-- the whole header line
header_cases : (named number all : Bool) (n : ℕ) (more : Got) → more ≡ cond all (got []) bad
    → taking (cond named (Some Name) (cond number (Some (Number n)) None)) true more ≡ cond (named && all) (got []) bad
header_cases true number all n more is = is
header_cases false true all n more is = refl
header_cases false false all n more is = refl

got_header : (names fields : List (List ℕ)) → fields_got true names fields ≡ cond (same_all (held_in_all fields) names) (got []) bad
unfolding fields_got same_all
got_header [] [] = refl
got_header [] (field ∷ fields) = refl
got_header (name ∷ names) [] = refl
got_header (name ∷ names) (field ∷ fields) =
    rw (kind_whole name (held_in field))
    (header_cases (same (held_in field) name) (is_number (held_in field)) (same_all (held_in_all fields) names) (value_from 0 (held_in field)) (fields_got true names fields) (got_header names fields))

pub header_got : (header line : List ℕ) → line_got header true line ≡ cond (is_header header line) (got []) bad
header_got header line = got_header (fields_of header) (fields_of line)

-- a field of a row holds a number: what is empty is none
row_kind : (held : List ℕ) (more : Got) → taking (kind_after [] 0 0 0 held) false more ≡ cond (is_number held) (with_number (value_from 0 held) more) bad
unfolding same is_number within
row_kind [] more = rw (kind_whole [] []) refl
row_kind (b ∷ held) more = rw (kind_whole [] (b ∷ held)) (go (is_number (b ∷ held)))
  where
    go : (number : Bool) → taking (cond number (Some (Number (value_from 0 (b ∷ held)))) None) false more ≡ cond number (with_number (value_from 0 (b ∷ held)) more) bad
    go true = refl
    go false = refl

row_cases : (as_many number all : Bool) (n : ℕ) (ns : List ℕ)
    → cond number (with_number n (cond (as_many && all) (got ns) bad)) bad ≡ cond (as_many && (number && all)) (got (n ∷ ns)) bad
row_cases true true true n ns = refl
row_cases true true false n ns = refl
row_cases true false all n ns = refl
row_cases false true all n ns = refl
row_cases false false all n ns = refl

-- a whole row
got_row : (columns : ℕ) (fields : List (List ℕ))
    → fields_got false (replicate columns []) fields ≡ cond (eqb (length fields) columns && all_numbers (held_in_all fields)) (got (map (value_from 0) (held_in_all fields))) bad
unfolding fields_got all_numbers
got_row zero [] = refl
got_row zero (field ∷ fields) = rw (ne_eqb (suc (length fields)) 0 (λ e. omega arith)) refl
got_row (suc columns) [] = rw (ne_eqb 0 (suc columns) (λ e. omega arith)) refl
got_row (suc columns) (field ∷ fields) =
    row_kind (held_in field) (fields_got false (replicate columns []) fields)
    ∙ rw (got_row columns fields, eqb-suc-suc (length fields) columns)
    (row_cases (eqb (length fields) columns) (is_number (held_in field)) (all_numbers (held_in_all fields)) (value_from 0 (held_in field)) (map (value_from 0) (held_in_all fields)))

pub row_got : (header line : List ℕ) → line_got header false line ≡ cond (is_row (columns_of header) line) (got (row_of line)) bad
row_got header line = got_row (columns_of header) (fields_of line)
