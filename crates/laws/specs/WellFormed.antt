-- A well-formed record: lists as long as the trace, one of the five fates for each packet, nothing left of what stood in the lists before, and five tallies
-- that add up to what arrived.
use Rattle.std.specs.Prelude.{ℕ, ◌+◌, ◌<◌, ◌≡◌, true, List, [], ◌∷◌, length, get_or}
use Rattle.model.specs.declared.Fate.{Fate}
use Rattle.model.specs.declared.Tally.{Tally}
use Rattle.model.specs.Limits.{within}
use Rattle.model.specs.Record.{fate_number, Entry, Lists, entered, record_of, Row}
use Rattle.model.specs.Totals.{totals_of}
use Rattle.laws.specs.Recorded.{Sized, recorded}

-- the sum of the values of a trace
unfoldable pub sum : List ℕ → ℕ
sum [] = 0
sum (v ∷ values) = v + sum values

-- the five tallies of a record add up to a sixth, by whatever is counted
pub record AddUp (of : Tally → ℕ) (rows : List Row) : Type 0 where
  pub all : of (totals_of rows).sent + of (totals_of rows).rejected + of (totals_of rows).pushed_out
      + of (totals_of rows).preempted + of (totals_of rows).flushed
      ≡ of (totals_of rows).arrived

-- the record that the entries make of a trace is well formed
pub record WellFormed (slots values : List ℕ) (entries : List Entry) : Type 0 where
  pub sized : Sized (length slots) (record_of (length slots) entries)
  pub fate : (k : ℕ) → k < length slots → (f : Fate) × (get_or (record_of (length slots) entries).fates k 0 ≡ fate_number f)
  pub fate_within : (k : ℕ) → k < length slots → within 1 5 (get_or (record_of (length slots) entries).fates k 0) ≡ true
  pub all_written : (before : Lists) → Sized (length slots) before → entered entries before ≡ record_of (length slots) entries
  pub counts : AddUp (λ t. t.count) (recorded slots values entries)
  pub values_counted : AddUp (λ t. t.value) (recorded slots values entries)
  pub arrived_count : (totals_of (recorded slots values entries)).arrived.count ≡ length slots
  pub arrived_value : (totals_of (recorded slots values entries)).arrived.value ≡ sum values
