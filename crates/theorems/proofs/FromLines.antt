-- What holds at every line holds of the values: demand 3 follows from its two statements about counts.
use Prim.Native.Nat.{ℕ, ◌*◌, ◌≤◌}
use mathlib.Core.Path.{◌≡◌}
use mathlib.Core.List.{List}
use native.Mathlib.Omega.{arith}
use lib.ListN.{length}
use Rattle.model.specs.Limits.{record_limits}
use Rattle.model.specs.Packets.{arrivals}
use Rattle.model.specs.Record.{Entry, Lists, record_of, rows}
use Rattle.model.specs.Refusals.{plain_refusal}
use Rattle.theorems.specs.Demand3.{sent_at_least, sent_value, rows_run}
use Rattle.theorems.proofs.Lines.{value_bound}
use Rattle.theorems.proofs.Trace.{in_range, values_rows}

-- where a record's count at every line is at most a run's, times a factor, so is its value
pub value_run : (factor : ℕ) (slots values : List ℕ) (room : ℕ) (lists : Lists) (entries : List Entry)
    → (plain_refusal slots values room lists).number ≡ 0
    → ((w : ℕ) → sent_at_least w (rows (arrivals slots values) lists) ≤ factor * sent_at_least w (rows_run slots values entries))
    → sent_value (rows (arrivals slots values) lists) ≤ factor * sent_value (rows_run slots values entries)
value_run factor slots values room lists entries e h =
    let ok = in_range slots values room lists e in
    let made = record_of (length slots) entries in
    value_bound factor record_limits.value _ _
    (values_rows (arrivals slots values) lists.fates lists.whens lists.bys ok)
    (values_rows (arrivals slots values) made.fates made.whens made.bys ok)
    h

pub once : {m n : ℕ} → m ≤ n → m ≤ 1 * n
once h = omega arith

pub of_once : {m n : ℕ} → m ≤ 1 * n → m ≤ n
of_once h = omega arith
