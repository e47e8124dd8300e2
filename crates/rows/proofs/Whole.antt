-- The parser as a whole: before the first byte all of the text is left, each piece goes from what is left to what is read, and at the end nothing is
-- left. What was read row by row then stands in the table column by column.
use Prim.Native.Nat.{ℕ, ◌*◌, ◌<◌}
use mathlib.Core.Path.{◌≡◌, refl, sym, ap, ◌∙◌}
use mathlib.Core.Bool.{Bool, true, false, cond}
use mathlib.Core.List.{List, [], ◌∷◌}
use native.Mathlib.Nat.{zero-add}
use native.Mathlib.Omega.{arith}
use lib.ListN.{length, length-append}
use lib.Dec.{ltb}
use borrow.Author.Tests.{ltb-false, le-ltb}
use Rattle.model.specs.Limits.{record_limits}
use Rattle.field.specs.Fields.{fields_of}
use Rattle.field.specs.Reading.{is_bad}
use Rattle.std.specs.Prelude.{Result, Ok, Err}
use Rattle.rows.specs.declared.RowsError.{RowsError}
use Rattle.rows.specs.declared.RowsError.TheVariants.{Malformed, TooMany}
use Rattle.rows.specs.Input.{Input, malformed, rows, columns_of, column_of, input_of}
use Rattle.rows.specs.Table.{column_in}
use Rattle.rows.specs.Reading.{State, state, start_parser, after_all, finished, outcome_of}
use Rattle.rows.specs.Whole.{text_of, fed, read_all, said_of, Stands, Whole}
use Rattle.rows.proofs.Lining.{AllLetters, all_letters}
use Rattle.rows.proofs.Tabling.{rows_to, rows_length, column_rows}
use Rattle.rows.proofs.Telling.{Final, stopped, many, read, final_of, final_from, said_in, Sound}
use Rattle.rows.proofs.Finishing.{finished_law, read_law, long_finished, sound_start, start_law}

module _ (header : List ℕ) (letters : AllLetters (fields_of header)) where
  pieces_law : (pieces : List (List ℕ)) (st : State) → Sound header st (length (text_of pieces))
      → said_in (columns_of header) (finished header (fed header pieces st)) ≡ final_from header st (text_of pieces)
  unfolding text_of fed
  pieces_law [] st sound = finished_law header letters st 0 sound
  pieces_law (piece ∷ pieces) st sound =
      let read = read_law header letters piece (length (text_of pieces)) st (rw (length-append piece (text_of pieces)) at sound) in
      pieces_law pieces (after_all header piece st) read.sound ∙ read.is (text_of pieces)

  sound_fed : (pieces : List (List ℕ)) (st : State) → Sound header st (length (text_of pieces)) → Sound header (fed header pieces st) 0
  unfolding text_of fed
  sound_fed [] st sound = sound
  sound_fed (piece ∷ pieces) st sound =
      sound_fed pieces (after_all header piece st) (read_law header letters piece (length (text_of pieces)) st (rw (length-append piece (text_of pieces)) at sound)).sound

-- what reading comes to, as the parser says it
abbrev told : Final → Result ℕ RowsError
told (stopped line) = Err (Malformed line)
told many = Err TooMany
told (read all) = Ok (length all)

told_state : (columns : ℕ) (st : State) → outcome_of st.parser ≡ told (said_in columns st)
unfolding said_in outcome_of
told_state columns st = go (is_bad st.parser.field.stage) (ltb 2048 st.parser.count)
  where
    go : (t u : Bool) → cond t (Err (Malformed st.parser.line)) (cond u (Err TooMany) (Ok st.parser.count))
        ≡ told (cond t (stopped st.parser.line) (cond u many (read (rows_to columns st.parser.count st.table))))
    go true u = refl
    go false true = refl
    go false false = ap Ok (sym (rows_length columns st.parser.count st.table))

-- before the first byte no row has been read
told_input : (header table : List ℕ) (input : Input) → told (final_of (columns_of header) (state (start_parser header) table) input) ≡ said_of input
unfolding rows_to
told_input header table (malformed line) = refl
told_input header table (rows all) = rw (zero-add (length all)) (go (ltb 2048 (length all)))
  where
    go : (t : Bool) → told (cond t many (read all)) ≡ cond t (Err TooMany) (Ok (length all))
    go true = refl
    go false = refl

-- where a state says that it has read these rows, they stand in its table
module _ (columns : ℕ) (st : State) (long : length st.table ≡ columns * record_limits.packets) (all : List (List ℕ)) where
  read_rows : said_in columns st ≡ read all → (j : ℕ) → j < columns → column_in j (length all) st.table ≡ column_of j all
  unfolding said_in
  read_rows says j inside = go (is_bad st.parser.field.stage) (ltb 2048 st.parser.count) refl says
    where
      go : (t u : Bool) → ltb 2048 st.parser.count ≡ u
          → cond t (stopped st.parser.line) (cond u many (read (rows_to columns st.parser.count st.table))) ≡ read all
          → column_in j (length all) st.table ≡ column_of j all
      go true u e says = let z : ◌≡◌ {A = ℕ} 0 1 = cc in absurd (omega arith)
      go false true e says = let z : ◌≡◌ {A = ℕ} 0 1 = cc in absurd (omega arith)
      go false false e says =
          let count = st.parser.count in
          let is : rows_to columns count st.table ≡ all = cc in
          let n : length all ≡ count = ap length (sym is) ∙ rows_length columns count st.table in
          ap (λ (k : ℕ). column_in j k st.table) n
          ∙ column_rows columns j count st.table long inside (ltb-false 2048 count e)
          ∙ ap (column_of j) is

stands : (columns : ℕ) (st start : State) → length st.table ≡ columns * record_limits.packets → start.parser.count ≡ 0
    → (input : Input) → said_in columns st ≡ final_of columns start input → Stands columns input st.table
unfolding rows_to
stands columns st start long none (malformed line) says = tt
stands columns st start long none (rows all) says =
    λ few j inside.
    let first : final_of columns start (rows all) ≡ read all = rw (none, zero-add (length all), le-ltb 2048 (length all) few) refl in
    read_rows columns st long all (says ∙ first) j inside

pub whole : Whole
whole header named pieces few table size =
    let letters = all_letters (fields_of header) named in
    let columns = columns_of header in
    let start = state (start_parser header) table in
    let st = read_all header pieces table in
    let sound = sound_start header table (length (text_of pieces)) size few in
    let long = long_finished header letters (fed header pieces start) 0 (sound_fed header letters pieces start sound) in
    let says = pieces_law header letters pieces start sound ∙ start_law header table (text_of pieces) in
    record {
      says = told_state columns st ∙ ap told says ∙ told_input header table (input_of header (text_of pieces));
      stands = stands columns st start long refl (input_of header (text_of pieces)) says;
    }
