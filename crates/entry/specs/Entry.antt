-- Short names for the literals that the promises on the record's lists cite.
use Rattle.model.specs.declared.PacketNumber.{PacketNumber}
use Rattle.model.specs.declared.Slot.{Slot}
use Rattle.model.specs.declared.Fate.{Fate}
use Rattle.model.specs.Record.{Entry}

abbrev pub entry : PacketNumber → Fate → Slot → PacketNumber → Entry
entry number fate when by = record { number = number; fate = fate; when = when; by = by }
