-- What the functions that write leave in the list.
use Rattle.std.specs.Prelude.{ℕ, ◌≤◌, ◌≡◌, List, length, take, Result, Ok, Err}
use Rattle.model.specs.declared.Refusal.{Refusal}
use Rattle.model.specs.Numbers.{cause_number}
use Rattle.model.specs.Lent.{LentList}
use Rattle.output.specs.Writing.{Wrote}
use Rattle.lab_table.specs.Table.{Lines}

-- the list begins with the text
pub record Begins (n : ℕ) (text out : List ℕ) : Type 0 where
  pub inside : n ≤ length out
  pub is : take n out ≡ text

-- lines were written from a place on, and it is told where they end; or a refusal is told
abbrev pub LinedAs : Result ℕ Refusal → Lines → ℕ → List ℕ → List ℕ → Type 0
LinedAs (Ok next) (Ok lines) at out out' = Wrote at lines out next out'
LinedAs (Ok next) (Err e) at out out' = ⊥
LinedAs (Err f) (Ok lines) at out out' = ⊥
LinedAs (Err f) (Err (number, place)) at out out' = (cause_number f.cause ≡ number) × (f.place ≡ place)

-- the same of a list that is lent to a call
abbrev pub BeginsIn : LentList → ℕ → List ℕ → Type 0
BeginsIn out n text = Begins n text out.exit.now

abbrev pub LinedIn : LentList → Result ℕ Refusal → ℕ → Lines → Type 0
LinedIn out r at lines = LinedAs r lines at out.entry.now out.exit.now
