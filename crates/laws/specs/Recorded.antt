-- The three lists of a record beside the trace that it is of.
use Rattle.std.specs.Prelude.{ℕ, ◌≡◌, List, length}
use Rattle.model.specs.Packets.{arrivals}
use Rattle.model.specs.Record.{Entry, Lists, record_of, Row, rows}

-- three lists, so long
pub record Sized (packets : ℕ) (lists : Lists) : Type 0 where
  pub fates : length lists.fates ≡ packets
  pub whens : length lists.whens ≡ packets
  pub bys : length lists.bys ≡ packets

-- the rows of a trace and of the record that the entries make
abbrev pub recorded : List ℕ → List ℕ → List Entry → List Row
recorded slots values entries = rows (arrivals slots values) (record_of (length slots) entries)
