-- A text read byte by byte is the text read line by line: what a state and the rest of the input come to does not change when one byte goes from the
-- rest to what is read.
use Prim.Native.Nat.{ℕ, suc, min, ◌+◌, ◌-◌, ◌*◌, ◌^◌, ◌≤◌, ◌<◌}
use mathlib.Core.Path.{◌≡◌, refl, ap₂, ◌∙◌}
use mathlib.Core.Bool.{Bool, true, false, cond, ◌&&◌}
use mathlib.Core.List.{List, [], ◌∷◌, ◌++◌}
use native.Mathlib.Omega.{arith}
use lib.ListN.{length}
use lib.Dec.{ltb, eqb}
use borrow.Author.Tests.{ltb-true, ltb-false, ne_eqb}
use Rattle.std.specs.List.{onto_first}
use Rattle.model.specs.Limits.{record_limits}
use Rattle.laws.proofs.Cases.{eqb_cases, cond_cases}
use Rattle.signs.specs.Signs.{cr, lf, comma}
use Rattle.std.specs.Prelude.{Option, None, Some}
use Rattle.field.specs.declared.Kind.{Kind}
use Rattle.field.specs.declared.Kind.TheVariants.{Name, Number}
use Rattle.field.specs.Fields.{fields_of}
use Rattle.field.specs.Reading.{kind_at, is_bad}
use Rattle.field.proofs.Fielding.{SoundField}
use Rattle.rows.specs.Lines.{unless_empty, lines_of}
use Rattle.rows.specs.Input.{Input, malformed, rows, with_row, columns_of, is_row, row_of, rows_from}
use Rattle.rows.specs.Table.{written}
use Rattle.rows.specs.declared.Parser.{Parser}
use Rattle.rows.specs.Reading.{name_of, next_column, next_line, State, state, in_state, spoiled_state, field_ended, field_ended_by, column_ended, line_ended, at_start}
use Rattle.rows.proofs.Lining.{Got, bad, got, with_number, taking, line_from, line_got, AllLetters, spoiled_line, ended_last, ended_early, comma_last, comma_on, line_start, row_got}
use Rattle.rows.proofs.Tabling.{cells_to, rows_to}

-- a text has a line
pub lines_some : (text : List ℕ) (G : List (List ℕ) → Type 0) → ((line : List ℕ) (more : List (List ℕ)) → G (line ∷ more)) → G (lines_of text)
unfolding lines_of
lines_some [] G some = some [] []
lines_some (b ∷ []) G some = some (b ∷ []) []
lines_some (b ∷ c ∷ text) G some = cond_cases G (eqb b cr && eqb c lf) _ _ (λ t. some [] _) (λ t. go (lines_of (c ∷ text)))
  where
    go : (more : List (List ℕ)) → G (onto_first b more)
    go [] = some (b ∷ []) []
    go (line ∷ more) = some (b ∷ line) more

-- a byte that begins no line's end stands in the first line
pub lines_more : (b : ℕ) (text : List ℕ) → eqb b cr ≡ false → lines_of (b ∷ text) ≡ onto_first b (lines_of text)
unfolding lines_of
lines_more b [] other = refl
lines_more b (c ∷ text) other = rw other refl

-- a line, with the cells of its row that have been read, and the lines that follow: the first line of all is the header
abbrev pub onward : ℕ → List ℕ → Got → Input → Input
onward line done bad more = malformed line
onward line done (got cells) more = cond (eqb line 1) more (with_row (done ++ cells) more)

-- the first of some lines goes on from a state, the others are whole rows
abbrev pub lines_left : List ℕ → State → List (List ℕ) → Input
lines_left header st [] = rows []
lines_left header st (line ∷ more) =
    let p = st.parser in
    onward p.line (cells_to p.column p.count st.table) (line_from header p line) (rows_from (columns_of header) (suc p.line) more)

-- what is left, behind a CR or not, at the start of a line or not
abbrev pub left_by : Bool → Bool → List ℕ → State → List ℕ → Input
left_by true start header st rest = lines_left header st (lines_of (cr ∷ rest))
left_by false true header st rest =
    cond (eqb st.parser.line 1) (lines_left header st (lines_of rest)) (lines_left header st (unless_empty rest (lines_of rest)))
left_by false false header st rest = lines_left header st (lines_of rest)

unfoldable pub left : List ℕ → State → List ℕ → Input
left header st rest = left_by st.parser.after_cr (at_start st.parser) header st rest

pub left_by_lem : (header : List ℕ) (st : State) (t u : Bool) → st.parser.after_cr ≡ t → at_start st.parser ≡ u → (rest : List ℕ)
    → left header st rest ≡ left_by t u header st rest
unfolding left
left_by_lem header st t u is at rest = ap₂ (λ (r start : Bool). left_by r start header st rest) is at

-- what reading comes to: a bad line, too many rows, or these
pub data Final : Type 0 where
  stopped : ℕ → Final
  many : Final
  read : List (List ℕ) → Final

-- what a state and the rows that follow come to
abbrev pub final_of : ℕ → State → Input → Final
final_of columns st (malformed line) = stopped line
final_of columns st (rows more) =
    let count = st.parser.count in
    cond (ltb record_limits.packets (count + length more)) many (read (rows_to columns count st.table ++ more))

-- what a state and the rest of the input come to
unfoldable pub final_from : List ℕ → State → List ℕ → Final
final_from header st rest = final_of (columns_of header) st (left header st rest)

-- what a state that has come to the end of its input says
unfoldable pub said_in : ℕ → State → Final
said_in columns st =
    let p = st.parser in
    cond (is_bad p.field.stage) (stopped p.line) (cond (ltb record_limits.packets p.count) many (read (rows_to columns p.count st.table)))

-- a state that a text has led to, whose line's number can still count so many bytes that follow
pub record Sound (header : List ℕ) (st : State) (following : ℕ) : Type 0 where
  pub table : length st.table ≡ columns_of header * record_limits.packets
  pub last : suc st.parser.last ≡ columns_of header
  pub column : st.parser.column ≤ st.parser.last
  pub from : 1 ≤ st.parser.line
  pub fits : st.parser.line + following < 2 ^ 64 - 1
  pub field : SoundField st.parser.field

pub and-false : (t : Bool) → cond t false false ≡ false
and-false true = refl
and-false false = refl

-- where a bad line is first it is told
pub spoiled_law : (header : List ℕ) (st : State) (rest : List ℕ) → final_from header (spoiled_state st) rest ≡ stopped st.parser.line
unfolding final_from at_start
spoiled_law header st rest =
    let p = st.parser in
    rw (left_by_lem header (spoiled_state st) false false refl (and-false (eqb p.column 0)) rest)
    (lines_some rest (λ (more : List (List ℕ)). final_of (columns_of header) (spoiled_state st) (lines_left header (spoiled_state st) more) ≡ stopped p.line)
    (λ line more. rw (spoiled_line header p line) refl))

pub says_spoiled : (columns : ℕ) (st : State) → said_in columns (spoiled_state st) ≡ stopped st.parser.line
unfolding said_in
says_spoiled columns st = refl

-- the lines behind a line's end
abbrev pub behind_end : List ℕ → ℕ → List ℕ → Input
behind_end header line rest = rows_from (columns_of header) line (unless_empty rest (lines_of rest))

-- a whole line that is a row, or not
onward_row : (header line : List ℕ) (n : ℕ) (more : List (List ℕ)) → (n ≡ 1 → ⊥)
    → onward n [] (line_got header false line) (rows_from (columns_of header) (suc n) more) ≡ rows_from (columns_of header) n (line ∷ more)
unfolding rows_from
onward_row header line n more other = rw (row_got header line) (go (is_row (columns_of header) line))
  where
    go : (t : Bool) → onward n [] (cond t (got (row_of line)) bad) (rows_from (columns_of header) (suc n) more)
        ≡ cond t (with_row (row_of line) (rows_from (columns_of header) (suc n) more)) (malformed n)
    go true = rw (ne_eqb n 1 other) refl
    go false = refl

-- at the start of a line that is not the first
pub next_law : (header : List ℕ) (p : Parser) (table rest : List ℕ) → 0 < columns_of header → 1 ≤ p.line → p.line < 2 ^ 64 - 1
    → left header (state (next_line p) table) rest ≡ behind_end header (suc p.line) rest
unfolding at_start cells_to rows_from
next_law header p table rest some from fits =
    let st = state (next_line p) table in
    let e : min (p.line + 1) (2 ^ 64 - 1) ≡ suc p.line = omega arith in
    let other : eqb (min (p.line + 1) (2 ^ 64 - 1)) 1 ≡ false = ne_eqb (min (p.line + 1) (2 ^ 64 - 1)) 1 (λ s. omega arith) in
    left_by_lem header st false true refl refl rest ∙ rw other (go rest)
  where
    go : (text : List ℕ) → lines_left header (state (next_line p) table) (unless_empty text (lines_of text)) ≡ behind_end header (suc p.line) text
    go [] = refl
    go (b ∷ text) =
        lines_some (b ∷ text)
        (λ (more : List (List ℕ)). lines_left header (state (next_line p) table) more ≡ rows_from (columns_of header) (suc p.line) more)
        (λ line more.
        let e : min (p.line + 1) (2 ^ 64 - 1) ≡ suc p.line = omega arith in
        let other : eqb (min (p.line + 1) (2 ^ 64 - 1)) 1 ≡ false = ne_eqb (min (p.line + 1) (2 ^ 64 - 1)) 1 (λ s. omega arith) in
        rw (line_start header (next_line p) refl refl some line, other, e) (onward_row header line (suc p.line) more (λ s. omega arith)))

-- what is left to do by what a field holds that ends
module _ (st : State) (next : Parser) (G : State → Type 0) where
  kind_cases : (k : Option Kind) → (((more : Got) → taking k (eqb st.parser.line 1) more ≡ bad) → G (spoiled_state st))
      → (st.parser.line ≡ 1 → ((more : Got) → taking k (eqb st.parser.line 1) more ≡ more) → G (in_state next st))
      → ((st.parser.line ≡ 1 → ⊥) → (n : ℕ) → ((more : Got) → taking k (eqb st.parser.line 1) more ≡ with_number n more)
      → G (state next (written st.parser.column st.parser.count n st.table)))
      → G (field_ended_by k next st)
  kind_cases None none name number = none (λ more. refl)
  kind_cases (Some Name) none name number =
      eqb_cases st.parser.line 1 _ (λ t is. rw t (name is (λ more. rw t refl))) (λ t other. rw t (none (λ more. rw t refl)))
  kind_cases (Some (Number n)) none name number =
      eqb_cases st.parser.line 1 _ (λ t is. rw t (none (λ more. rw t refl))) (λ t other. rw t (number other n (λ more. rw t refl)))

-- the end of a line: it is bad, or the header, or a row
pub ended_cases : (header : List ℕ) → AllLetters (fields_of header) → (st : State) (n : ℕ) → Sound header st n → (G : State → Type 0)
    → (line_from header st.parser [] ≡ bad → G (spoiled_state st))
    → (st.parser.line ≡ 1 → line_from header st.parser [] ≡ got [] → G (in_state (next_line st.parser) st))
    → ((st.parser.line ≡ 1 → ⊥) → suc st.parser.column ≡ columns_of header → (m : ℕ) → line_from header st.parser [] ≡ got (m ∷ [])
    → G (state (next_line st.parser) (written st.parser.column st.parser.count m st.table)))
    → G (line_ended header st)
unfolding line_ended field_ended
ended_cases header letters st n sound G none head row =
    let p = st.parser in
    let inside : p.column < columns_of header = omega (arith, sound.last, sound.column) in
    let k = kind_at (name_of header p) p.field in
    eqb_cases p.column p.last _
    (λ t is.
    let all : suc p.column ≡ columns_of header = omega (arith, sound.last) in
    let l = ended_last header letters p inside sound.field all in
    rw t
    (kind_cases st (next_line p) G k
    (λ none_of. none (l ∙ none_of (got [])))
    (λ e is_name. head e (l ∙ is_name (got [])))
    (λ e m is_number. row e all m (l ∙ is_number (got [])))))
    (λ t other. rw t (none (ended_early header letters p inside sound.field (omega (arith, sound.last, sound.column)))))

-- a comma: the line is bad, or goes on in the next column
pub comma_cases : (header : List ℕ) → AllLetters (fields_of header) → (st : State) (n : ℕ) → Sound header st n → (G : State → Type 0)
    → (((line : List ℕ) → line_from header st.parser (comma ∷ line) ≡ bad) → G (spoiled_state st))
    → (st.parser.column < st.parser.last → st.parser.line ≡ 1
    → ((line : List ℕ) → line_from header st.parser (comma ∷ line) ≡ line_from header (next_column st.parser) line) → G (in_state (next_column st.parser) st))
    → (st.parser.column < st.parser.last → (st.parser.line ≡ 1 → ⊥) → (m : ℕ)
    → ((line : List ℕ) → line_from header st.parser (comma ∷ line) ≡ with_number m (line_from header (next_column st.parser) line))
    → G (state (next_column st.parser) (written st.parser.column st.parser.count m st.table)))
    → G (column_ended header st)
unfolding column_ended field_ended
comma_cases header letters st n sound G none name number =
    let p = st.parser in
    let inside : p.column < columns_of header = omega (arith, sound.last, sound.column) in
    let k = kind_at (name_of header p) p.field in
    cond_cases G (ltb p.column p.last) _ _
    (λ t.
    let below = ltb-true p.column p.last t in
    let early : suc p.column < columns_of header = omega (arith, sound.last, below) in
    let l = comma_on header letters p inside sound.field early in
    kind_cases st (next_column p) G k
    (λ none_of. none (λ line. l line ∙ none_of (line_from header (next_column p) line)))
    (λ e is_name. name below e (λ line. l line ∙ is_name (line_from header (next_column p) line)))
    (λ e m is_number. number below e m (λ line. l line ∙ is_number (line_from header (next_column p) line))))
    (λ t. none (comma_last header letters p inside sound.field (omega (arith, sound.last, sound.column, ltb-false p.column p.last t))))
