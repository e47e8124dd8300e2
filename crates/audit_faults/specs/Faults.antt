-- Faults 12, 13 and 14 of one packet, from its entry and the when of the last packet sent before it.
use Rattle.std.specs.Prelude.{ℕ, Bool, cond, ◌&&◌, Option, Some, None, List, length, leb}
use Rattle.model.specs.declared.Fate.TheVariants.{Sent}
use Rattle.model.specs.declared.Fault.{Fault}
use Rattle.model.specs.declared.Fault.TheVariants.{ByWrong, WhenWrong, NotLater}
use Rattle.model.specs.declared.PacketNumber.{PacketNumber}
use Rattle.model.specs.declared.Slot.{Slot}
use Rattle.model.specs.Record.{Row}
use Rattle.model.specs.Rules.{Verdict, clear, or_else, fault_if, has_fate, by_wrong, when_wrong}
use Rattle.model.specs.Numbers.{fate_number, fault_number}
use Rattle.audit_faults.specs.declared.FatedRow.{FatedRow}

-- the row, its fate as a number
abbrev pub row_of : FatedRow → Row
row_of e =
    record { number = e.number; slot = e.slot; value = e.value; fate = fate_number e.fate; when = e.when; by = e.by }

-- the when of the last packet sent, this one included
unfoldable pub last_of : Slot → Row → Slot
last_of last r = cond (has_fate Sent r) r.when last

-- sent, and not later than `last`
unfoldable pub not_after : ℕ → Row → Bool
not_after last r = has_fate Sent r && leb r.when.0 last

-- faults 12, 13 and 14 of one packet, `last` being the when of the last sent packet of lower number, 0 where there is none
abbrev pub row_fault : List ℕ → ℕ → Row → Verdict
row_fault slots last r =
    or_else (fault_if (by_wrong (length slots) r) ByWrong r)
    (or_else (fault_if (when_wrong slots r) WhenWrong r) (fault_if (not_after last r) NotLater r))

-- what was found at a packet
abbrev pub found_of : Option Fault → PacketNumber → Verdict
found_of None n = clear
found_of (Some f) n = record { number = fault_number f; place = n.0 }
