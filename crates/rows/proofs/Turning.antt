-- One byte goes from the rest of the input to what is read: what the state and the rest come to stays the same.
use Prim.Native.Nat.{ℕ, suc, min, ◌+◌, ◌-◌, ◌*◌, ◌^◌, ◌<◌}
use mathlib.Core.Path.{◌≡◌, refl, sym, ap, ◌∙◌}
use mathlib.Core.Bool.{Bool, true, false, cond}
use mathlib.Core.List.{List, [], ◌∷◌, ◌++◌, append_assoc}
use native.Mathlib.Numerals.{add-one}
use native.Mathlib.Omega.{arith}
use lib.ListN.{length}
use lib.Dec.{ltb, eqb}
use borrow.Author.Tests.{lt-ltb, ltb-true, ltb-false, eq-eqb, ne_eqb}
use Rattle.std.specs.List.{onto_first}
use Rattle.model.specs.Limits.{record_limits}
use Rattle.laws.proofs.Cases.{eqb_cases, cond_cases}
use Rattle.signs.specs.Signs.{cr, lf, comma}
use Rattle.field.specs.Fields.{fields_of}
use Rattle.field.specs.Reading.{field_after, is_fresh}
use Rattle.field.proofs.Fielding.{field_begun}
use Rattle.rows.specs.Lines.{lines_of}
use Rattle.rows.specs.Input.{Input, malformed, rows, with_row, columns_of, rows_from}
use Rattle.rows.specs.Table.{written}
use Rattle.rows.specs.declared.Parser.{Parser}
use Rattle.rows.specs.Reading.{name_of, in_field, after_return, next_column, next_line, State, state, in_state, column_ended, line_ended, in_line, after, after_by, at_start}
use Rattle.rows.proofs.Parsing.{after_by_lem}
use Rattle.rows.proofs.Lining.{Got, bad, got, with_number, line_from, AllLetters, name_letters, line_law, low_line}
use Rattle.rows.proofs.Tabling.{cells_to, rows_to, written_rows, written_cells}
use Rattle.rows.proofs.Telling.{lines_some, lines_more, onward, lines_left, left_by, left, left_by_lem, stopped, many, read, final_of, final_from, Sound, and-false, spoiled_law, behind_end, next_law, ended_cases, comma_cases}

final_same : (columns : ℕ) (st : State) (p : Parser) → p.count ≡ st.parser.count → (input : Input)
    → final_of columns (in_state p st) input ≡ final_of columns st input
final_same columns st p e (malformed line) = refl
final_same columns st p e (rows more) = rw e refl

-- a row more: where there is no place for it, its cells make no difference
final_row : (columns : ℕ) (st st' : State) (row row' : List ℕ) → st'.parser.count ≡ st.parser.count
    → (st.parser.count < record_limits.packets → (row' ≡ row) × (rows_to columns st.parser.count st'.table ≡ rows_to columns st.parser.count st.table))
    → (input : Input) → final_of columns st' (with_row row' input) ≡ final_of columns st (with_row row input)
final_row columns st st' row row' e same (malformed line) = refl
final_row columns st st' row row' e same (rows more) =
    let count = st.parser.count in
    rw e
    (cond_cases (λ (t : Bool). cond (ltb 2048 (count + suc (length more))) many (read (rows_to columns count st'.table ++ row' ∷ more)) ≡ final_of columns st (rows (row ∷ more)))
    (ltb count 2048) true true
    (λ t. let s = same (ltb-true count 2048 t) in rw (s.0, s.1) refl)
    (λ t. rw (lt-ltb 2048 (count + suc (length more)) (omega (arith, ltb-false count 2048 t))) refl))

-- the end of a row: it is counted where there is a place for it
final_ended : (columns : ℕ) (st : State) (m : ℕ) → length st.table ≡ columns * record_limits.packets → suc st.parser.column ≡ columns → (st.parser.line ≡ 1 → ⊥)
    → (input : Input) → final_of columns (state (next_line st.parser) (written st.parser.column st.parser.count m st.table)) input
    ≡ final_of columns st (with_row (cells_to st.parser.column st.parser.count st.table ++ (m ∷ [])) input)
unfolding rows_to
final_ended columns st m size all other (malformed line) = refl
final_ended columns st m size all other (rows more) =
    let p = st.parser in
    let count = p.count in
    let table = written p.column count m st.table in
    let done = cells_to p.column count st.table in
    let inside : p.column < columns = omega arith in
    rw (ne_eqb p.line 1 other)
    (cond_cases
    (λ (t : Bool). cond (ltb 2048 (min (count + 1) 2049 + length more)) many (read (rows_to columns (min (count + 1) 2049) table ++ more)) ≡ final_of columns st (rows ((done ++ (m ∷ [])) ∷ more)))
    (ltb count 2048) true true
    (λ t.
    let few = ltb-true count 2048 t in
    let e : min (count + 1) 2049 ≡ suc count = omega arith in
    let n : suc count + length more ≡ count + suc (length more) = omega arith in
    let cells : cells_to columns count table ≡ done ++ (m ∷ []) =
    ap (λ (c : ℕ). cells_to c count table) (sym all) ∙ written_cells columns p.column count m st.table size inside few in
    rw (e, written_rows columns p.column count m st.table size inside few, cells, append_assoc (rows_to columns count st.table) ((done ++ (m ∷ [])) ∷ []) more, n) refl)
    (λ t.
    let above = ltb-false count 2048 t in
    rw (lt-ltb 2048 (min (count + 1) 2049 + length more) (omega arith), lt-ltb 2048 (count + suc (length more)) (omega arith)) refl))

-- in the header no cells are read
onward_first : (line : ℕ) (done done' : List ℕ) (g : Got) (more : Input) → line ≡ 1 → onward line done g more ≡ onward line done' g more
onward_first line done done' bad more is = refl
onward_first line done done' (got cells) more is = rw (eq-eqb line 1 is) refl

module _ (header : List ℕ) (letters : AllLetters (fields_of header)) where
  -- the end of a line
  pub ended_law : (st : State) (n : ℕ) → Sound header st n → (rest : List ℕ) → final_from header (line_ended header st) rest
      ≡ final_of (columns_of header) st (onward st.parser.line (cells_to st.parser.column st.parser.count st.table) (line_from header st.parser []) (behind_end header (suc st.parser.line) rest))
  unfolding final_from
  ended_law st n sound rest =
      let p = st.parser in
      let columns = columns_of header in
      let done = cells_to p.column p.count st.table in
      let more = behind_end header (suc p.line) rest in
      let fits : p.line < 2 ^ 64 - 1 = omega (arith, sound.fits) in
      let some : 0 < columns = omega (arith, sound.last) in
      ended_cases header letters st n sound (λ (s : State). final_from header s rest ≡ final_of columns st (onward p.line done (line_from header p []) more))
      (λ l. spoiled_law header st rest ∙ sym (rw l refl))
      (λ e l.
      ap (final_of columns (in_state (next_line p) st)) (next_law header p st.table rest some sound.from fits)
      ∙ final_same columns st (next_line p) (rw (eq-eqb p.line 1 e) refl) more
      ∙ sym (rw (l, eq-eqb p.line 1 e) refl))
      (λ e all m l.
      ap (final_of columns (state (next_line p) (written p.column p.count m st.table))) (next_law header p (written p.column p.count m st.table) rest some sound.from fits)
      ∙ final_ended columns st m sound.table all e more
      ∙ sym (rw (l, ne_eqb p.line 1 e) refl))

  -- where a byte is left the line that it is in is left too
  left_some : (st : State) → st.parser.after_cr ≡ false → (b : ℕ) (rest : List ℕ) → left header st (b ∷ rest) ≡ lines_left header st (lines_of (b ∷ rest))
  left_some st is b rest = left_by_lem header st false (at_start st.parser) is refl (b ∷ rest) ∙ go (at_start st.parser)
    where
      go : (u : Bool) → left_by false u header st (b ∷ rest) ≡ lines_left header st (lines_of (b ∷ rest))
      go true = cond_cases (λ (more : Input). more ≡ lines_left header st (lines_of (b ∷ rest))) (eqb st.parser.line 1) _ _ (λ t. refl) (λ t. refl)
      go false = refl

  left_more : (st : State) → st.parser.after_cr ≡ false → (b : ℕ) (rest : List ℕ) → eqb b cr ≡ false
      → left header st (b ∷ rest) ≡ lines_left header st (onto_first b (lines_of rest))
  left_more st is b rest other = left_some st is b rest ∙ ap (lines_left header st) (lines_more b rest other)

  -- a comma
  comma_law : (st : State) (n : ℕ) → Sound header st n → (rest : List ℕ)
      → final_from header (column_ended header st) rest ≡ final_of (columns_of header) st (lines_left header st (onto_first comma (lines_of rest)))
  unfolding final_from at_start
  comma_law st n sound rest =
      let p = st.parser in
      let q = next_column p in
      let columns = columns_of header in
      let inside : p.column < columns = omega (arith, sound.last, sound.column) in
      let begun : eqb (p.column + 1) 0 ≡ false = ne_eqb (p.column + 1) 0 (λ e. omega arith) in
      let left-next : (table : List ℕ) → left header (state q table) rest ≡ lines_left header (state q table) (lines_of rest) =
      λ table. left_by_lem header (state q table) false false refl (rw begun refl) rest in
      comma_cases header letters st n sound
      (λ (s : State). final_from header s rest ≡ final_of columns st (lines_left header st (onto_first comma (lines_of rest))))
      (λ l.
      spoiled_law header st rest
      ∙ sym (lines_some rest (λ (more : List (List ℕ)). final_of columns st (lines_left header st (onto_first comma more)) ≡ stopped p.line) (λ line more. rw (l line) refl)))
      (λ below e l.
      ap (final_of columns (in_state q st)) (left-next st.table)
      ∙ final_same columns st q refl (lines_left header (in_state q st) (lines_of rest))
      ∙ ap (final_of columns st)
      (lines_some rest (λ (more : List (List ℕ)). lines_left header (in_state q st) more ≡ lines_left header st (onto_first comma more))
      (λ line more. rw (l line) (onward_first p.line _ _ (line_from header q line) (rows_from columns (suc p.line) more) e))))
      (λ below e m l.
      let table = written p.column p.count m st.table in
      ap (final_of columns (state q table)) (left-next table)
      ∙ lines_some rest (λ (more : List (List ℕ)). final_of columns (state q table) (lines_left header (state q table) more) ≡ final_of columns st (lines_left header st (onto_first comma more)))
      (λ line more. rw (l line) (number_law st m e inside sound.table (line_from header q line) (rows_from columns (suc p.line) more))))
    where
      number_law : (st : State) (m : ℕ) → (st.parser.line ≡ 1 → ⊥) → st.parser.column < columns_of header → length st.table ≡ columns_of header * record_limits.packets
          → (g : Got) (more : Input)
          → final_of (columns_of header) (state (next_column st.parser) (written st.parser.column st.parser.count m st.table))
          (onward st.parser.line (cells_to (st.parser.column + 1) st.parser.count (written st.parser.column st.parser.count m st.table)) g more)
          ≡ final_of (columns_of header) st (onward st.parser.line (cells_to st.parser.column st.parser.count st.table) (with_number m g) more)
      number_law st m e inside size bad more = refl
      number_law st m e inside size (got cells) more =
          let p = st.parser in
          let table = written p.column p.count m st.table in
          rw (ne_eqb p.line 1 e)
          (final_row (columns_of header) st (state (next_column p) table) _ _ refl
          (λ few. (
            rw (add-one p.column, written_cells (columns_of header) p.column p.count m st.table size inside few)
                (append_assoc (cells_to p.column p.count st.table) (m ∷ []) cells),
            written_rows (columns_of header) p.column p.count m st.table size inside few,
          ))
          more)

  -- a byte of a field
  field_moved : (st : State) (n : ℕ) → Sound header st n → (b : ℕ) (rest : List ℕ) → (b ≡ comma → ⊥)
      → final_from header (in_state (in_field (field_after (name_of header st.parser) b st.parser.field) st.parser) st) rest
      ≡ final_of (columns_of header) st (lines_left header st (onto_first b (lines_of rest)))
  unfolding final_from at_start
  field_moved st n sound b rest other =
      let p = st.parser in
      let columns = columns_of header in
      let inside : p.column < columns = omega (arith, sound.last, sound.column) in
      let q = in_field (field_after (name_of header p) b p.field) p in
      let begun : is_fresh (field_after (name_of header p) b p.field).stage ≡ false = field_begun (name_of header p) (name_letters header letters p) p.field sound.field b in
      ap (final_of columns (in_state q st)) (left_by_lem header (in_state q st) false false refl (rw begun (and-false (eqb p.column 0))) rest)
      ∙ final_same columns st q refl (lines_left header (in_state q st) (lines_of rest))
      ∙ ap (final_of columns st)
      (lines_some rest (λ (more : List (List ℕ)). lines_left header (in_state q st) more ≡ lines_left header st (onto_first b more))
      (λ line more. rw (line_law header letters p inside sound.field b line other) refl))

  byte_law : (st : State) (n : ℕ) → Sound header st n → st.parser.after_cr ≡ false → (b : ℕ) (rest : List ℕ)
      → final_from header (after_by false header b st) rest ≡ final_from header st (b ∷ rest)
  unfolding final_from in_line line_from
  byte_law st n sound is b rest =
      let p = st.parser in
      let columns = columns_of header in
      eqb_cases b cr _
      (λ t e. rw t
      (ap (final_of columns (in_state (after_return p) st)) (left_by_lem header (in_state (after_return p) st) true (at_start (after_return p)) refl refl rest)
      ∙ final_same columns st (after_return p) refl (lines_left header (in_state (after_return p) st) (lines_of (cr ∷ rest)))
      ∙ ap (final_of columns st)
      (lines_some (cr ∷ rest) (λ (more : List (List ℕ)). lines_left header (in_state (after_return p) st) more ≡ lines_left header st more) (λ line more. refl)
      ∙ ap (λ (c : ℕ). lines_left header st (lines_of (c ∷ rest))) (sym e)
      ∙ sym (left_some st is b rest))))
      (λ t e. rw t
      (eqb_cases b comma _
      (λ u f. rw u
      (comma_law st n sound rest
      ∙ ap (λ (c : ℕ). final_of columns st (lines_left header st (onto_first c (lines_of rest)))) (sym f)
      ∙ ap (final_of columns st) (sym (left_more st is b rest t))))
      (λ u f. rw u (field_moved st n sound b rest f ∙ ap (final_of columns st) (sym (left_more st is b rest t))))))

  -- behind a CR: the line ends, or is bad
  left_ends : (st : State) → st.parser.after_cr ≡ true → (b : ℕ) (rest : List ℕ) → eqb b lf ≡ true
      → left header st (b ∷ rest) ≡ onward st.parser.line (cells_to st.parser.column st.parser.count st.table) (line_from header st.parser []) (behind_end header (suc st.parser.line) rest)
  unfolding lines_of
  left_ends st is b rest t = left_by_lem header st true (at_start st.parser) is refl (b ∷ rest) ∙ rw t refl

  left_lone : (st : State) → st.parser.after_cr ≡ true → (b : ℕ) (rest : List ℕ) → eqb b lf ≡ false
      → left header st (b ∷ rest) ≡ lines_left header st (onto_first cr (lines_of (b ∷ rest)))
  unfolding lines_of
  left_lone st is b rest t = left_by_lem header st true (at_start st.parser) is refl (b ∷ rest) ∙ rw t refl

  return_law : (st : State) (n : ℕ) → Sound header st n → st.parser.after_cr ≡ true → (b : ℕ) (rest : List ℕ)
      → final_from header (after_by true header b st) rest ≡ final_from header st (b ∷ rest)
  unfolding final_from
  return_law st n sound is b rest =
      let p = st.parser in
      let columns = columns_of header in
      let inside : p.column < columns = omega (arith, sound.last, sound.column) in
      eqb_cases b lf _
      (λ t e. rw t (ended_law st n sound rest ∙ ap (final_of columns st) (sym (left_ends st is b rest t))))
      (λ t e. rw t
      (spoiled_law header st rest
      ∙ sym (ap (final_of columns st) (left_lone st is b rest t)
      ∙ lines_some (b ∷ rest) (λ (more : List (List ℕ)). final_of columns st (lines_left header st (onto_first cr more)) ≡ stopped p.line)
      (λ line more. rw (low_line header letters p inside sound.field cr line (omega arith)) refl))))

  -- one byte goes from the rest of the input to what is read
  pub after_law : (st : State) (n : ℕ) → Sound header st n → (b : ℕ) (rest : List ℕ) → final_from header (after header b st) rest ≡ final_from header st (b ∷ rest)
  after_law st n sound b rest =
      ap (λ (s : State). final_from header s rest) (after_by_lem header st st.parser.after_cr refl b) ∙ go st.parser.after_cr refl
    where
      go : (t : Bool) → st.parser.after_cr ≡ t → final_from header (after_by t header b st) rest ≡ final_from header st (b ∷ rest)
      go true is = return_law st n sound is b rest
      go false is = byte_law st n sound is b rest
