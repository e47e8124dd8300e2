-- The end of the input: nothing is left, and what the state says is what it comes to. And what holds of every state that a text leads to.
use Prim.Native.Nat.{ℕ, suc, ◌+◌, ◌-◌, ◌*◌, ◌^◌, ◌≤◌, ◌<◌}
use mathlib.Core.Path.{◌≡◌, refl, sym, ap, ◌∙◌}
use mathlib.Core.Bool.{Bool, true, false, cond, false≢true}
use mathlib.Core.List.{List, [], ◌∷◌, ◌++◌, append-nil}
use native.Mathlib.Nat.{zero-add, add-zero, suc-add}
use native.Mathlib.Omega.{arith}
use lib.ListN.{length}
use lib.Dec.{eqb}
use borrow.Author.Tests.{ne_eqb}
use Rattle.model.specs.Limits.{record_limits}
use Rattle.laws.proofs.Cases.{eqb_cases, cond_cases}
use Rattle.signs.specs.Signs.{cr, lf, comma}
use Rattle.field.specs.declared.Stage.{Stage}
use Rattle.field.specs.declared.Stage.TheVariants.{Fresh, Bare, Open, Closed, Bad}
use Rattle.field.specs.Fields.{fields_of}
use Rattle.field.specs.Reading.{field_after, is_fresh, is_bad}
use Rattle.field.proofs.Fielding.{SoundField, fresh_sound, bad_sound, field_sound}
use Rattle.rows.specs.Lines.{lines_of}
use Rattle.rows.specs.Input.{Input, malformed, columns_of, rows_from, is_header, input_by, input_of}
use Rattle.rows.specs.declared.Parser.{Parser}
use Rattle.rows.specs.Reading.{start_parser, name_of, in_field, spoiled, after_return, next_column, next_line, State, state, spoiled_state, line_ended, in_line, after, after_by, after_all, at_start, finished, finished_by}
use Rattle.rows.proofs.Parsing.{after_by_lem, finished_by_lem}
use Rattle.rows.proofs.Naming.{fields_some}
use Rattle.rows.proofs.Lining.{bad, got, AllLetters, name_letters, low_line, line_start, header_got}
use Rattle.rows.proofs.Tabling.{cells_to, rows_to, written_length}
use Rattle.rows.proofs.Telling.{lines_some, onward, lines_left, left, left_by_lem, stopped, final_of, final_from, said_in, Sound, spoiled_law, says_spoiled, ended_cases, comma_cases}
use Rattle.rows.proofs.Turning.{ended_law, after_law}

-- a fresh field is not bad
fresh_good : (s : Stage) → is_fresh s ≡ true → is_bad s ≡ false
fresh_good Fresh e = refl
fresh_good Bare e = refl
fresh_good Open e = refl
fresh_good Closed e = refl
fresh_good Bad e = sym e

start_good : (p : Parser) → at_start p ≡ true → is_bad p.field.stage ≡ false
unfolding at_start
start_good p at = fresh_good p.field.stage (eqb_cases p.column 0 _ (λ t e. rw t at at) (λ t e. absurd (false≢true (rw t at at))))

-- at the start of a line that is not the first, nothing is left to read
says_start : (header : List ℕ) (st : State) → st.parser.after_cr ≡ false → at_start st.parser ≡ true → (st.parser.line ≡ 1 → ⊥)
    → said_in (columns_of header) st ≡ final_from header st []
unfolding final_from said_in
says_start header st is at other =
    let count = st.parser.count in
    rw (
      left_by_lem header st false true is at [],
      ne_eqb st.parser.line 1 other,
      start_good st.parser at,
      add-zero count,
      append-nil (rows_to (columns_of header) count st.table),
    ) refl

module _ (header : List ℕ) (letters : AllLetters (fields_of header)) where
  says_ended : (st : State) (n : ℕ) → Sound header st n → said_in (columns_of header) (line_ended header st) ≡ final_from header (line_ended header st) []
  unfolding at_start
  says_ended st n sound =
      ended_cases header letters st n sound (λ (s : State). said_in (columns_of header) s ≡ final_from header s [])
      (λ l. says_spoiled (columns_of header) st ∙ sym (spoiled_law header st []))
      (λ e l. says_start header _ refl refl (λ h. omega (arith, sound.from, sound.fits)))
      (λ e all m l. says_start header _ refl refl (λ h. omega (arith, sound.from, sound.fits)))

  -- the last line's end is optional
  last_law : (st : State) (n : ℕ) → Sound header st n → left header st [] ≡ lines_left header st ([] ∷ [])
      → said_in (columns_of header) (line_ended header st) ≡ final_from header st []
  unfolding final_from
  last_law st n sound one = says_ended st n sound ∙ ended_law header letters st n sound [] ∙ ap (final_of (columns_of header) st) (sym one)

  -- a CR at the end of the input is no line's end
  return_last : (st : State) (n : ℕ) → Sound header st n → st.parser.after_cr ≡ true → final_from header st [] ≡ stopped st.parser.line
  unfolding final_from lines_of
  return_last st n sound is =
      let p = st.parser in
      let inside : p.column < columns_of header = omega (arith, sound.last, sound.column) in
      rw (left_by_lem header st true (at_start p) is refl [], low_line header letters p inside sound.field cr [] (omega arith)) refl

  -- the end of the input
  pub finished_law : (st : State) (n : ℕ) → Sound header st n → said_in (columns_of header) (finished header st) ≡ final_from header st []
  unfolding lines_of
  finished_law st n sound =
      ap (said_in (columns_of header)) (finished_by_lem header st st.parser.after_cr refl (at_start st.parser) refl)
      ∙ go st.parser.after_cr (at_start st.parser) refl refl
    where
      go : (t u : Bool) → st.parser.after_cr ≡ t → at_start st.parser ≡ u → said_in (columns_of header) (finished_by t u header st) ≡ final_from header st []
      go true u is at = says_spoiled (columns_of header) st ∙ sym (return_last st n sound is)
      go false true is at =
          eqb_cases st.parser.line 1 _
          (λ t e. rw t (last_law st n sound (left_by_lem header st false true is at [] ∙ rw t refl)))
          (λ t e. rw t (says_start header st is at e))
      go false false is at = last_law st n sound (left_by_lem header st false false is at [])

  -- every byte leaves the state sound
  module _ (st : State) (n : ℕ) (sound : Sound header st (suc n)) where
    moved : (q : Parser) (table : List ℕ) → q.last ≡ st.parser.last → q.column ≤ q.last → q.line ≡ st.parser.line → SoundField q.field
        → length table ≡ length st.table → Sound header (state q table) n
    moved q table last column line field size =
        record {
          table = size ∙ sound.table;
          last = rw last sound.last;
          column = column;
          from = rw line sound.from;
          fits = rw line (omega (arith, sound.fits));
          field = field;
        }

    next : (table : List ℕ) → length table ≡ length st.table → Sound header (state (next_line st.parser) table) n
    next table size =
        record {
          table = size ∙ sound.table;
          last = sound.last;
          column = omega arith;
          from = omega (arith, sound.from);
          fits = omega (arith, sound.fits);
          field = fresh_sound;
        }

    sound_spoiled : Sound header (spoiled_state st) n
    sound_spoiled = moved (spoiled st.parser) st.table refl sound.column refl bad_sound refl

    sound_ended : Sound header (line_ended header st) n
    sound_ended =
        ended_cases header letters st (suc n) sound (λ (s : State). Sound header s n)
        (λ l. sound_spoiled)
        (λ e l. next st.table refl)
        (λ e all m l. next _ (written_length st.parser.column st.parser.count m st.table))

    sound_line : (b : ℕ) → Sound header (in_line header b st) n
    unfolding in_line
    sound_line b =
        let p = st.parser in
        cond_cases (λ (s : State). Sound header s n) (eqb b comma) _ _
        (λ t. comma_cases header letters st (suc n) sound (λ (s : State). Sound header s n)
        (λ l. sound_spoiled)
        (λ below e l. moved (next_column p) st.table refl (omega arith) refl fresh_sound refl)
        (λ below e m l. moved (next_column p) _ refl (omega arith) refl fresh_sound (written_length p.column p.count m st.table)))
        (λ t. moved (in_field (field_after (name_of header p) b p.field) p) st.table refl sound.column refl
        (field_sound (name_of header p) (name_letters header letters p) p.field sound.field b) refl)

    sound_after : (b : ℕ) → Sound header (after header b st) n
    sound_after b = rw (after_by_lem header st st.parser.after_cr refl b) (go st.parser.after_cr)
      where
        go : (t : Bool) → Sound header (after_by t header b st) n
        go true = cond_cases (λ (s : State). Sound header s n) (eqb b lf) _ _ (λ t. sound_ended) (λ t. sound_spoiled)
        go false =
            cond_cases (λ (s : State). Sound header s n) (eqb b cr) _ _
            (λ t. moved (after_return st.parser) st.table refl sound.column refl sound.field refl)
            (λ t. sound_line b)

  -- the bytes of a piece go from the rest of the input to what is read
  pub record ReadOn (bytes : List ℕ) (n : ℕ) (st : State) : Type 0 where
    pub sound : Sound header (after_all header bytes st) n
    pub is : (rest : List ℕ) → final_from header (after_all header bytes st) rest ≡ final_from header st (bytes ++ rest)

  pub read_law : (bytes : List ℕ) (n : ℕ) (st : State) → Sound header st (length bytes + n) → ReadOn bytes n st
  unfolding after_all
  read_law [] n st sound = record { sound = rw (zero-add n) at sound; is = λ rest. refl }
  read_law (b ∷ bytes) n st sound =
      let one : Sound header st (suc (length bytes + n)) = rw (suc-add (length bytes) n) at sound in
      let more = read_law bytes n (after header b st) (sound_after st (length bytes + n) one b) in
      record { sound = more.sound; is = λ rest. more.is rest ∙ after_law header letters st (suc (length bytes + n)) one b (bytes ++ rest) }

  -- the table keeps its length to the end
  abbrev pub Long : State → Type 0
  Long st = length st.table ≡ columns_of header * record_limits.packets

  long_ended : (st : State) (n : ℕ) → Sound header st n → Long (line_ended header st)
  long_ended st n sound =
      ended_cases header letters st n sound Long
      (λ l. sound.table)
      (λ e l. sound.table)
      (λ e all m l. written_length st.parser.column st.parser.count m st.table ∙ sound.table)

  pub long_finished : (st : State) (n : ℕ) → Sound header st n → Long (finished header st)
  long_finished st n sound =
      rw (finished_by_lem header st st.parser.after_cr refl (at_start st.parser) refl) (go st.parser.after_cr (at_start st.parser))
    where
      go : (t u : Bool) → Long (finished_by t u header st)
      go true u = sound.table
      go false true = cond_cases Long (eqb st.parser.line 1) _ _ (λ t. long_ended st n sound) (λ t. sound.table)
      go false false = long_ended st n sound

-- a header has a name
pub some_column : (header : List ℕ) → 0 < columns_of header
some_column header = fields_some header (λ (fields : List (List ℕ)). 0 < length fields) (λ field more. omega arith)

pub sound_start : (header table : List ℕ) (n : ℕ) → length table ≡ columns_of header * record_limits.packets → n < 2 ^ 64 - 2
    → Sound header (state (start_parser header) table) n
sound_start header table n size few =
    record {
      table = size;
      last = omega (arith, some_column header);
      column = omega arith;
      from = omega arith;
      fits = omega arith;
      field = fresh_sound;
    }

-- before the first byte the whole text is left
pub start_law : (header table text : List ℕ)
    → final_from header (state (start_parser header) table) text ≡ final_of (columns_of header) (state (start_parser header) table) (input_of header text)
unfolding final_from at_start input_of input_by cells_to
start_law header table text =
    let st = state (start_parser header) table in
    ap (final_of (columns_of header) st)
    (left_by_lem header st false true refl refl text
    ∙ lines_some text (λ (more : List (List ℕ)). lines_left header st more ≡ input_by header more)
    (λ line more. rw (line_start header (start_parser header) refl refl (some_column header) line, header_got header line) (go (is_header header line) (rows_from (columns_of header) 2 more))))
  where
    go : (t : Bool) (more : Input) → onward 1 [] (cond t (got []) bad) more ≡ cond t more (malformed 1)
    go true more = refl
    go false more = refl
