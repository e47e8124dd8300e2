-- The reads so far: whatever pieces come behind those that came, the parser goes on from where it stands, the bytes add up, and the end is theirs.
use Prim.Native.Nat.{ℕ, ◌+◌, ◌-◌, ◌≤◌, ◌<◌}
use mathlib.Core.Path.{◌≡◌, refl, ap, sym, ◌∙◌}
use mathlib.Core.List.{List, [], ◌∷◌, ◌++◌, append_assoc}
use native.Mathlib.Omega.{arith}
use lib.ListN.{length, length-append}
use borrow.Author.Tests.{ne_eqb}
use Rattle.rows.specs.declared.Parser.{Parser}
use Rattle.std.specs.Prelude.{Result}
use Rattle.rows.specs.declared.RowsError.{RowsError}
use Rattle.rows.specs.Reading.{State, state, start_parser, after_all, finished, outcome_of}
use Rattle.rows.specs.Whole.{text_of, fed, read_all}
use Rattle.rows.proofs.Whole.{whole}
use Rattle.input.specs.Reads.{to_end, ReadToEnd, Stopped, StoppedLong, Overlong, most_bytes}

pub record SoFar (header : List ℕ) (start now : State) (left : ℕ) : Type 0 where
  pub pieces : List (List ℕ)
  pub total : ℕ
  pub feeds : (rest : List (List ℕ)) → fed header (pieces ++ rest) start ≡ fed header rest now
  pub bytes : (rest : List (List ℕ)) → length (text_of (pieces ++ rest)) ≡ total + length (text_of rest)
  pub some : (rest : List (List ℕ)) → to_end (pieces ++ rest) ≡ to_end rest
  pub few : 0 < left → total + left ≡ most_bytes
  pub many : most_bytes ≤ total + left

pub nothing_read : (header : List ℕ) {parser : Parser} (table : List ℕ) → parser ≡ start_parser header
    → SoFar header (state (start_parser header) table) (state parser table) most_bytes
nothing_read header table starts =
    record {
      pieces = [];
      total = 0;
      feeds = λ rest. rw starts refl;
      bytes = λ rest. omega arith;
      some = λ rest. refl;
      few = λ h. refl;
      many = omega arith;
    }

-- one piece more, which is not empty
pub read_more : {header : List ℕ} {start now next : State} {left : ℕ} (before : SoFar header start now left) (piece : List ℕ) → (length piece ≡ 0 → ⊥) → 0 < left
    → next ≡ after_all header piece now → SoFar header start next (left - length piece)
unfolding fed text_of to_end
read_more before piece some going feeds =
    let total = before.few going in
    rw feeds (record {
      pieces = before.pieces ++ (piece ∷ []);
      total = before.total + length piece;
      feeds = λ rest. rw append_assoc (before.feeds (piece ∷ rest));
      bytes = λ rest. rw append_assoc (before.bytes (piece ∷ rest) ∙ rw length-append (omega arith));
      some = λ rest. rw append_assoc (before.some (piece ∷ rest) ∙ rw (ne_eqb _ _ some) refl);
      few = λ h. omega arith;
      many = omega arith;
    })

-- the end of the input: an empty piece
pub read_all_lem : {header table : List ℕ} {now : State} {left : ℕ} (before : SoFar header (state (start_parser header) table) now left) → 0 < left
    → {parser : Parser} {table' : List ℕ} → state parser table' ≡ finished header now → {said : Result ℕ RowsError} → said ≡ outcome_of parser
    → ReadToEnd header said table table'
unfolding fed text_of to_end after_all
read_all_lem {header} {table} before going {parser} {table'} ends {said} says =
    let total = before.few going in
    let all = before.pieces ++ ([] ∷ []) in
    let bytes : length (text_of all) ≡ before.total = before.bytes ([] ∷ []) ∙ omega arith in
    let is : state parser table' ≡ read_all header all table = ends ∙ sym (ap (finished header) (before.feeds ([] ∷ []))) in
    let says_all : said ≡ outcome_of (read_all header all table).parser = says ∙ ap (λ (st : State). outcome_of st.parser) is in
    let leaves : table' ≡ (read_all header all table).table = ap (λ (st : State). st.table) is in
    record {
      pieces = all;
      whole = before.some ([] ∷ []);
      says = says_all;
      leaves = leaves;
      tells = λ named size. rw (says_all, leaves) (whole header named all (omega arith) table size);
    }

-- where reading stops, the pieces that came are in the table
unfoldable pub stopped_at : {header table table₀ : List ℕ} {parser : Parser} {left : ℕ}
    → SoFar header (state (start_parser header) table₀) (state parser table) left → Stopped header table₀ table
unfolding fed
stopped_at before = record { pieces = before.pieces ++ []; leaves = sym (ap (λ (st : State). st.table) (before.feeds [])) }

-- more than can be counted
pub read_much : {header table table₀ : List ℕ} {parser : Parser} {left : ℕ}
    → SoFar header (state (start_parser header) table₀) (state parser table) left → left ≡ 0 → StoppedLong header table₀ table
unfolding text_of stopped_at
read_much before done =
    let much = before.many in
    record { stopped = stopped_at before; many = omega (arith, before.bytes []) }

-- more than can be counted
pub too_long : {header table table' : List ℕ} → StoppedLong header table table' → Overlong
too_long much = record { pieces = much.stopped.pieces; many = much.many }
