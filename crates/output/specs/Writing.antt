-- Some bytes written into a list from a place on: there is room for them, the list has them there, and the place behind them.
use Rattle.std.specs.Prelude.{ℕ, ◌+◌, ◌≤◌, ◌<◌, ◌≡◌, cond, List, [], ◌∷◌, length, get_or}
use Rattle.std.proofs.lemmas.List.Edits.{sets}
use Rattle.model.specs.Packets.{arrivals}
use Rattle.model.specs.Record.{Lists, lists_of, rows}
use Rattle.trace.specs.Checked.{lengths_equal}
use Rattle.model.specs.Lent.{LentList}
use Rattle.output.specs.declared.write.RecordRows.{RecordRows}
use Rattle.output.specs.Output.{row_lines}

pub record Wrote (at : ℕ) (text out : List ℕ) (next : ℕ) (out' : List ℕ) : Type 0 where
  pub inside : at + length text ≤ length out
  pub written : out' ≡ sets out at text
  pub behind : next ≡ at + length text

-- a trace and a record, an entry a packet in each list
pub record SameLengths (slots values fates whens bys : List ℕ) : Type 0 where
  pub of_values : length values ≡ length slots
  pub of_fates : length fates ≡ length slots
  pub of_whens : length whens ≡ length slots
  pub of_bys : length bys ≡ length slots

abbrev pub SameLengthsIn : RecordRows → Type 0
SameLengthsIn r = SameLengths r.slots.now r.values.now r.fates.now r.whens.now r.bys.now

-- the record's lists
abbrev pub lists_in : RecordRows → Lists
lists_in r = lists_of r.fates.now r.whens.now r.bys.now

-- the numbers of the row at a place
abbrev pub row_at : RecordRows → ℕ → List ℕ
row_at r i =
    (i + 1) ∷ get_or r.slots.now i 0 ∷ get_or r.values.now i 0 ∷ get_or r.fates.now i 0 ∷ get_or r.whens.now i 0 ∷ get_or r.bys.now i 0 ∷ []

-- the list has `need` places from `at` on, which is enough for the text, and it is written; or it has not, and nothing is
pub record Put (need at : ℕ) (text out : List ℕ) (next : ℕ) (out' : List ℕ) : Type 0 where
  pub fits : at + need ≤ length out → Wrote at text out next out'
  pub full : length out < at + need → (next ≡ at) × (out' ≡ out)

-- a record's rows; none where two lists differ in length
unfoldable pub rows_text : List ℕ → List ℕ → Lists → List ℕ
rows_text slots values lists = cond (lengths_equal slots values lists) (row_lines (rows (arrivals slots values) lists)) []

-- the same of a list that is lent to a call
abbrev pub WroteIn : LentList → ℕ → ℕ → List ℕ → Type 0
WroteIn out next at text = Wrote at text out.entry.now next out.exit.now

abbrev pub PutIn : LentList → ℕ → ℕ → ℕ → List ℕ → Type 0
PutIn out next need at text = Put need at text out.entry.now next out.exit.now
