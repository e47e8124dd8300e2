-- What the answer of a trace's test says in 01's numbers, and how the parts of a call are read as model's definitions have them.
use Rattle.std.specs.Prelude.{ℕ, ◌≤◌, ◌≡◌, ⊤, Bool, ◌&&◌, Option, Some, None, Result, Ok, Err, List, length, eqb}
use Rattle.model.specs.Limits.{record_limits}
use Rattle.model.specs.Record.{Lists}
use Rattle.model.specs.Rules.{Verdict, clear}
use Rattle.model.specs.Refusals.{value_ok, lo_or_hi}
use Rattle.model.specs.Numbers.{cause_number}
use Rattle.model.specs.declared.Marking.{Marking}
use Rattle.model.specs.declared.Refusal.{Refusal}

-- accepted is clear; a refusal is its number and its place
abbrev pub verdict_of : Result ⊤ Refusal → Verdict
verdict_of (Ok _) = clear
verdict_of (Err f) = record { number = cause_number f.cause; place = f.place }

-- which values a call takes: all in range, or under a marking only its lo and hi
abbrev pub ok_of : Option Marking → ℕ → Bool
ok_of None v = value_ok v
ok_of (Some marking) v = lo_or_hi marking v

-- all lists are as long as that of the slots
abbrev pub lengths_equal : List ℕ → List ℕ → Lists → Bool
lengths_equal slots values lists =
    eqb (length values) (length slots)
    && eqb (length lists.fates) (length slots)
    && eqb (length lists.whens) (length slots)
    && eqb (length lists.bys) (length slots)

-- what refusals 1 and 2 leave: as many values as slots, and not too many
pub record Lengths (slots values : List ℕ) : Type 0 where
  pub equal : length values ≡ length slots
  pub few : length slots ≤ record_limits.packets
