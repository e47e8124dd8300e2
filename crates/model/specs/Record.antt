-- 01, 'The record': three lists, one entry a packet.
use Rattle.std.specs.Prelude.{ℕ, List, [], ◌∷◌, set, replicate}
use Rattle.model.specs.declared.PacketNumber.{PacketNumber}
use Rattle.model.specs.declared.Slot.{Slot}
use Rattle.model.specs.declared.Packet.{Packet}
use Rattle.model.specs.declared.Fate.{Fate}
use Rattle.model.specs.declared.Fate.TheVariants.{Sent, Rejected, PushedOut, Preempted, Flushed}
use Rattle.model.specs.declared.LossKind.{LossKind}
use Rattle.model.specs.declared.LossKind.TheVariants as kinds
use Rattle.model.specs.declared.Loss.{Loss}
use Rattle.model.specs.Packets.{Arrival, place_of}
pub use Rattle.model.specs.Numbers.{fate_number}

-- what became of one packet
pub record Entry : Type 0 where
  pub number : PacketNumber
  pub fate : Fate
  pub when : Slot
  pub by : PacketNumber

-- 1 sent: when the slot of sending, by 0
abbrev pub sent_at : Slot → Packet → Entry
sent_at now p = record { number = p.number; fate = Sent; when = now; by = record { 0 = 0 } }

-- 2 rejected: when its arrival slot, by its own number
abbrev pub rejected_at : Arrival → Entry
rejected_at a = record { number = a.packet.number; fate = Rejected; when = a.slot; by = a.packet.number }

-- 3 pushed out, or 4 preempted
abbrev pub loss_fate : LossKind → Fate
loss_fate kinds.PushedOut = PushedOut
loss_fate kinds.Preempted = Preempted

-- 3 and 4: when the slot of the arrival named by `by`
abbrev pub lost_to : Arrival → Loss → Entry
lost_to a l = record { number = l.packet.number; fate = loss_fate l.kind; when = a.slot; by = a.packet.number }

-- 5 flushed: when that slot, by its mark
abbrev pub flushed_at : Slot → PacketNumber → Packet → Entry
flushed_at now mark p = record { number = p.number; fate = Flushed; when = now; by = mark }

-- the three lists
pub record Lists : Type 0 where
  pub fates : List ℕ
  pub whens : List ℕ
  pub bys : List ℕ

abbrev pub lists_of : List ℕ → List ℕ → List ℕ → Lists
lists_of fates whens bys = record { fates = fates; whens = whens; bys = bys }

-- the lists with one entry written at its packet's place
abbrev pub enter : Entry → Lists → Lists
enter e lists =
    record {
      fates = set lists.fates (place_of e.number) (fate_number e.fate);
      whens = set lists.whens (place_of e.number) e.when.0;
      bys = set lists.bys (place_of e.number) e.by.0;
    }

-- the lists with all entries written, in order
unfoldable pub entered : List Entry → Lists → Lists
entered [] lists = lists
entered (e ∷ entries) lists = entered entries (enter e lists)

-- lists of n entries with nothing written: 0 is no fate
abbrev pub blank : ℕ → Lists
blank n = record { fates = replicate n 0; whens = replicate n 0; bys = replicate n 0 }

-- the record of n packets
abbrev pub record_of : ℕ → List Entry → Lists
record_of n entries = entered entries (blank n)

-- a packet of a trace beside what a record, anyone's, says of it
pub record Row : Type 0 where
  pub number : PacketNumber
  pub slot : Slot
  pub value : ℕ
  pub fate : ℕ
  pub when : Slot
  pub by : PacketNumber

-- the rows of a trace and three lists
unfoldable pub rows_of : List Arrival → List ℕ → List ℕ → List ℕ → List Row
rows_of [] fates whens bys = []
rows_of (a ∷ trace) [] whens bys = []
rows_of (a ∷ trace) (f ∷ fates) [] bys = []
rows_of (a ∷ trace) (f ∷ fates) (w ∷ whens) [] = []
rows_of (a ∷ trace) (f ∷ fates) (w ∷ whens) (b ∷ bys) =
    record {
      number = a.packet.number;
      slot = a.slot;
      value = a.packet.value;
      fate = f;
      when = record { 0 = w };
      by = record { 0 = b };
    }
    ∷ rows_of trace fates whens bys

abbrev pub rows : List Arrival → Lists → List Row
rows trace lists = rows_of trace lists.fates lists.whens lists.bys
