-- The rows that the audit reads: a packet of the trace beside what the record says of it.
use Rattle.std.specs.Prelude.{ℕ, suc, ◌<◌, ◌≡◌, true, Result, Ok, Err, List, length, get_or}
use Rattle.model.specs.Limits.{record_limits}
use Rattle.model.specs.Rules.{fate_outside}
use Rattle.model.specs.Record.{Row, Lists}
use Rattle.audit_faults.specs.Faults.{row_of}
use Rattle.audit_faults.specs.declared.FatedRow.{FatedRow}
use Rattle.model.specs.declared.Fault.{Fault}
use Rattle.model.specs.declared.Fault.TheVariants.{FateOutside}

-- what was read is the row, or its fate is outside 1 to 5, which is fault 11
abbrev pub Reads : Row → Result FatedRow Fault → Type 0
Reads r (Ok e) = row_of e ≡ r
Reads r (Err fault) = (fate_outside r ≡ true) × (fault ≡ FateOutside)

-- the place of a packet in all five lists
pub record Place (slots values : List ℕ) (lists : Lists) (i : ℕ) : Type 0 where
  pub in_slots : i < length slots
  pub in_values : i < length values
  pub in_fates : i < length lists.fates
  pub in_whens : i < length lists.whens
  pub in_bys : i < length lists.bys
  pub few : i < record_limits.packets

-- the row of the packet at place i
abbrev pub row_at : List ℕ → List ℕ → Lists → ℕ → Row
row_at slots values lists i =
    record {
      number = record { 0 = suc i };
      slot = record { 0 = get_or slots i 0 };
      value = get_or values i 0;
      fate = get_or lists.fates i 0;
      when = record { 0 = get_or lists.whens i 0 };
      by = record { 0 = get_or lists.bys i 0 };
    }
