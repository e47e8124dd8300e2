-- When an entry is made. A moment is a slot and the number of the last packet that has arrived. An entry made between two moments is right by faults 12
-- and 13; by fault 15's count its packet, if it had arrived, is held at the first of the two moments, and at the second it is not.
use Prim.Native.Nat.{ℕ, suc, ◌-◌, ◌≤◌, ◌<◌}
use native.Mathlib.Omega.{arith}
use mathlib.Core.Path.{◌≡◌, refl, sym, ◌∙◌}
use mathlib.Core.Bool.{Bool, true, false}
use mathlib.Core.List.{List}
use lib.ListN.{length, get_or}
use lib.Dec.{leb, ltb, eqb}
use borrow.Author.Tests.{leb-true, leb-false, ltb-true, ltb-false, le-leb, lt-leb, lt-ltb, le-ltb, eq-eqb}
use Rattle.model.specs.declared.Fate.{Fate}
use Rattle.model.specs.declared.Fate.TheVariants.{Sent, Rejected, PushedOut, Preempted, Flushed}
use Rattle.model.specs.declared.LossKind.{LossKind}
use Rattle.model.specs.declared.LossKind.TheVariants as kinds
use Rattle.model.specs.declared.Packet.{Packet}
use Rattle.model.specs.declared.Slot.{Slot}
use Rattle.model.specs.Limits.{within}
use Rattle.model.specs.Packets.{Arrival, slot_of}
use Rattle.model.specs.Record.{fate_number, Entry, sent_at, rejected_at, lost_to, Row}
use Rattle.model.specs.Rules.{has_fate, at_fate, by_wrong, when_wrong, is_held_for, is_held_at}
use Rattle.laws.specs.Accepted.{Next}
use Rattle.laws.proofs.Fates.{at_fate_lem}

-- held at a moment, by fate: sent or flushed with when not before the slot, or lost with by after the last that has arrived
abbrev held_as : Fate → Bool → Bool → Bool
held_as Sent still later = still
held_as Rejected still later = false
held_as PushedOut still later = later
held_as Preempted still later = later
held_as Flushed still later = still

unfoldable pub held_by : ℕ → ℕ → Entry → Bool
held_by now last e = held_as e.fate (leb now e.when.0) (ltb last e.by.0)

-- fault 15 counts a row by its entry
pub is_held_at_held_by : (at r : Row) (e : Entry) → r.fate ≡ fate_number e.fate → r.when.0 ≡ e.when.0 → r.by.0 ≡ e.by.0 →
    is_held_at at r ≡ held_by at.slot.0 at.number.0 e
unfolding is_held_at held_by
is_held_at_held_by at r e f w b = at_fate_lem e.fate false r (is_held_for at r) f ∙ go e.fate
  where
    go : (f : Fate) → is_held_for at r f ≡ held_as f (leb at.slot.0 e.when.0) (ltb at.number.0 e.by.0)
    go Sent = rw w
    go Rejected = refl
    go PushedOut = rw b
    go Preempted = rw b
    go Flushed = rw w

-- who is held at a moment was held before, who is not held at a moment is not held after
held_as_before : (f : Fate) (now now' last last' when by : ℕ) → now ≤ now' → last ≤ last' →
    held_as f (leb now' when) (ltb last' by) ≡ true → held_as f (leb now when) (ltb last by) ≡ true
held_as_before Sent now now' last last' when by a b h = le-leb now when (omega (arith, leb-true now' when h))
held_as_before Rejected now now' last last' when by a b h = h
held_as_before PushedOut now now' last last' when by a b h = lt-ltb last by (omega (arith, ltb-true last' by h))
held_as_before Preempted now now' last last' when by a b h = lt-ltb last by (omega (arith, ltb-true last' by h))
held_as_before Flushed now now' last last' when by a b h = le-leb now when (omega (arith, leb-true now' when h))

held_as_after : (f : Fate) (now now' last last' when by : ℕ) → now ≤ now' → last ≤ last' →
    held_as f (leb now when) (ltb last by) ≡ false → held_as f (leb now' when) (ltb last' by) ≡ false
held_as_after Sent now now' last last' when by a b h = lt-leb now' when (omega (arith, leb-false now when h))
held_as_after Rejected now now' last last' when by a b h = h
held_as_after PushedOut now now' last last' when by a b h = le-ltb last' by (omega (arith, ltb-false last by h))
held_as_after Preempted now now' last last' when by a b h = le-ltb last' by (omega (arith, ltb-false last by h))
held_as_after Flushed now now' last last' when by a b h = lt-leb now' when (omega (arith, leb-false now when h))

module _ (slots : List ℕ) where
  -- the row of an entry; its value plays no part
  abbrev pub row_for : Entry → Row
  row_for e =
      record {
        number = e.number;
        slot = slot_of slots e.number;
        value = 0;
        fate = fate_number e.fate;
        when = e.when;
        by = e.by;
      }

  -- made at a moment or after it
  pub record Since (now last : ℕ) (e : Entry) : Type 0 where
    pub by_right : by_wrong (length slots) (row_for e) ≡ false
    pub when_right : when_wrong slots (row_for e) ≡ false
    pub held_then : e.number.0 ≤ last → held_by now last e ≡ true

  -- made between two moments
  pub record Between (now last now' last' : ℕ) (e : Entry) : Type 0 where
    pub since : Since now last e
    pub gone : held_by now' last' e ≡ false

  pub since_earlier : (now last now' last' : ℕ) → now ≤ now' → last ≤ last' → (e : Entry) → Since now' last' e → Since now last e
  unfolding held_by
  since_earlier now last now' last' a b e h =
      record {
        by_right = h.by_right;
        when_right = h.when_right;
        held_then = λ n. held_as_before e.fate now now' last last' e.when.0 e.by.0 a b (h.held_then (omega arith));
      }

pub gone_later : (now last now' last' : ℕ) → now ≤ now' → last ≤ last' → (e : Entry) → held_by now last e ≡ false → held_by now' last' e ≡ false
unfolding held_by
gone_later now last now' last' a b e h = held_as_after e.fate now now' last last' e.when.0 e.by.0 a b h

-- flushed in this slot, by the mark of a later packet that has arrived
pub record FlushedBy (at : Slot) (last : ℕ) (e : Entry) : Type 0 where
  pub fate : e.fate ≡ Flushed
  pub when : e.when.0 ≡ at.0
  pub older : e.number.0 < e.by.0
  pub marked : e.by.0 ≤ last

-- the packets up to this number have arrived, and they are packets of the trace
pub record Arrived (slots : List ℕ) (now last : ℕ) : Type 0 where
  pub by_now : (k : ℕ) → k < last → get_or slots k 0 ≤ now
  pub counted : last ≤ length slots

module _ (slots : List ℕ) (last : ℕ) (at : Slot) (A : Arrived slots at.0 last) where
  pub sent_between : (now till : ℕ) (p : Packet) → now ≤ at.0 → at.0 < till → 0 < p.number.0 → p.number.0 ≤ last →
      Between slots now last till last (sent_at at p)
  unfolding held_by by_wrong when_wrong at_fate has_fate
  sent_between now till p from before low high =
      record {
        since = record {
          by_right = refl;
          when_right = rw (le-ltb at.0 (slot_of slots p.number).0 (A.by_now (p.number.0 - 1) (omega arith)));
          held_then = λ n. le-leb now at.0 from;
        };
        gone = lt-leb till at.0 before;
      }

  pub flushed_between : (now till : ℕ) (e : Entry) → now ≤ at.0 → at.0 < till → FlushedBy at last e → Between slots now last till last e
  unfolding held_by by_wrong when_wrong at_fate has_fate within
  flushed_between now till e from before h =
      record {
        since = record {
          by_right = rw (h.fate, le-leb (suc e.number.0) e.by.0 h.older, le-leb e.by.0 (length slots) (omega (arith, h.marked, A.counted)));
          when_right = rw (h.fate, h.when, le-ltb at.0 (slot_of slots e.by).0 (A.by_now (e.by.0 - 1) (omega arith)));
          held_then = λ n. rw (h.fate, h.when) (le-leb now at.0 from);
        };
        gone = rw (h.fate, h.when) (lt-leb till at.0 before);
      }

module _ (slots : List ℕ) (now last : ℕ) (a : Arrival) (N : Next slots now last a) where
  its_slot : (slot_of slots a.packet.number).0 ≡ a.slot.0
  its_slot = let place : a.packet.number.0 - 1 ≡ last = omega (arith, N.number) in rw place (sym N.slot)

  pub rejected_between : Between slots a.slot.0 last a.slot.0 (suc last) (rejected_at a)
  unfolding held_by by_wrong when_wrong at_fate has_fate
  rejected_between =
      record {
        since = record {
          by_right = rw (eq-eqb a.packet.number.0 a.packet.number.0 refl);
          when_right = rw (eq-eqb a.slot.0 (slot_of slots a.packet.number).0 (sym its_slot));
          held_then = λ n. absurd (omega (arith, N.number));
        };
        gone = refl;
      }

  pub lost_between : (p : Packet) (kind : LossKind) → p.number.0 ≤ last →
      Between slots a.slot.0 last a.slot.0 (suc last) (lost_to a (record { packet = p; kind = kind }))
  unfolding held_by by_wrong when_wrong at_fate has_fate within
  lost_between p kind h =
      go kind
      (le-leb (suc p.number.0) a.packet.number.0 (omega (arith, N.number)))
      (le-leb a.packet.number.0 (length slots) (omega (arith, N.number, N.counted)))
      (eq-eqb a.slot.0 (slot_of slots a.packet.number).0 (sym its_slot))
      (lt-ltb last a.packet.number.0 (omega (arith, N.number)))
      (le-ltb (suc last) a.packet.number.0 (omega (arith, N.number)))
    where
      go : (kind : LossKind) → leb (suc p.number.0) a.packet.number.0 ≡ true → leb a.packet.number.0 (length slots) ≡ true →
          eqb a.slot.0 (slot_of slots a.packet.number).0 ≡ true → ltb last a.packet.number.0 ≡ true → ltb (suc last) a.packet.number.0 ≡ false →
          Between slots a.slot.0 last a.slot.0 (suc last) (lost_to a (record { packet = p; kind = kind }))
      go kinds.PushedOut older counted slot then gone =
          record { since = record { by_right = rw (older, counted); when_right = rw slot; held_then = λ n. then }; gone = gone }
      go kinds.Preempted older counted slot then gone =
          record { since = record { by_right = rw (older, counted); when_right = rw slot; held_then = λ n. then }; gone = gone }
