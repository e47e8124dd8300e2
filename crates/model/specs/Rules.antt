-- 01, 'The buffer's rules, and the audit'. A record obeys the rules when no packet has one of these faults. The audit takes packets in number order and
-- at each tests in this order; the first fault is the answer, with the packet's number. Of the rows before one, `older`, the newest stands first.
use Rattle.std.specs.Prelude.{ℕ, suc, ◌+◌, ◌≡◌, Bool, false, cond, not, ◌&&◌, List, [], ◌∷◌, length, leb, ltb, eqb}
use Rattle.model.specs.declared.Slot.{Slot}
use Rattle.model.specs.Limits.{within}
use Rattle.model.specs.Packets.{slot_of}
use Rattle.model.specs.Numbers.{fate_number, fault_number}
use Rattle.model.specs.Record.{Row}
use Rattle.model.specs.declared.Fate.{Fate}
use Rattle.model.specs.declared.Fate.TheVariants.{Sent, Rejected, PushedOut, Preempted, Flushed}
use Rattle.model.specs.declared.Fault.{Fault}
use Rattle.model.specs.declared.Fault.TheVariants.{FateOutside, ByWrong, WhenWrong, NotLater, OverRoom}

-- the row's packet has this fate
unfoldable pub has_fate : Fate → Row → Bool
has_fate f r = eqb r.fate (fate_number f)

-- what goes by the row's fate; `outside` where that is none of the five
unfoldable pub at_fate : {A : Type 0} → (outside : A) → Row → (Fate → A) → A
at_fate outside r goes =
    cond (has_fate Sent r) (goes Sent)
    (cond (has_fate Rejected r) (goes Rejected)
    (cond (has_fate PushedOut r) (goes PushedOut)
    (cond (has_fate Preempted r) (goes Preempted) (cond (has_fate Flushed r) (goes Flushed) outside))))

-- how many of the rows pass a test
unfoldable pub count_of : (Row → Bool) → List Row → ℕ
count_of test [] = 0
count_of test (r ∷ rows) = cond (test r) 1 0 + count_of test rows

-- 11: fate outside 1 to 5
unfoldable pub fate_outside : Row → Bool
fate_outside r = not (within (fate_number Sent) (fate_number Flushed) r.fate)

-- by is a later packet of the trace
abbrev pub by_later : ℕ → Row → Bool
by_later packets r = within (suc r.number.0) packets r.by.0

-- 12: by is not 0 for fate 1, not the own number for fate 2, or not a later packet of the trace for 3, 4, 5
abbrev pub by_wrong_for : ℕ → Row → Fate → Bool
by_wrong_for packets r Sent = not (eqb r.by.0 0)
by_wrong_for packets r Rejected = not (eqb r.by.0 r.number.0)
by_wrong_for packets r PushedOut = not (by_later packets r)
by_wrong_for packets r Preempted = not (by_later packets r)
by_wrong_for packets r Flushed = not (by_later packets r)

unfoldable pub by_wrong : ℕ → Row → Bool
by_wrong packets r = at_fate false r (by_wrong_for packets r)

-- 13: when is before the arrival (fate 1), differs from the arrival slot (2), differs from the slot of by (3, 4), or is before the slot of by (5)
abbrev pub when_wrong_for : List ℕ → Row → Fate → Bool
when_wrong_for slots r Sent = ltb r.when.0 r.slot.0
when_wrong_for slots r Rejected = not (eqb r.when.0 r.slot.0)
when_wrong_for slots r PushedOut = not (eqb r.when.0 (slot_of slots r.by).0)
when_wrong_for slots r Preempted = not (eqb r.when.0 (slot_of slots r.by).0)
when_wrong_for slots r Flushed = ltb r.when.0 (slot_of slots r.by).0

unfoldable pub when_wrong : List ℕ → Row → Bool
when_wrong slots r = at_fate false r (when_wrong_for slots r)

-- this slot isn't later than that of the last sent packet
unfoldable pub not_after_last : Slot → List Row → Bool
not_after_last when [] = false
not_after_last when (r ∷ older) = cond (has_fate Sent r) (leb when.0 r.when.0) (not_after_last when older)

-- 14: sent, and when isn't later than that of the last sent packet of lower number
unfoldable pub not_later : List Row → Row → Bool
not_later older r = has_fate Sent r && not_after_last r.when older

-- held just after the arrival of `at`: sent or flushed, with when not before this slot; or pushed out or preempted, with by greater than this number
abbrev pub is_held_for : Row → Row → Fate → Bool
is_held_for at r Sent = leb at.slot.0 r.when.0
is_held_for at r Rejected = false
is_held_for at r PushedOut = ltb at.number.0 r.by.0
is_held_for at r Preempted = ltb at.number.0 r.by.0
is_held_for at r Flushed = leb at.slot.0 r.when.0

unfoldable pub is_held_at : Row → Row → Bool
is_held_at at r = at_fate false r (is_held_for at r)

-- how many are held just after this arrival, of the packets up to it
abbrev pub held_after : List Row → Row → ℕ
held_after older r = count_of (is_held_at r) (r ∷ older)

-- 15: more than room held just after this arrival
unfoldable pub over_room : ℕ → List Row → Row → Bool
over_room room older r = ltb room (held_after older r)

-- what the rules are about: the trace's slots, and the room
pub record Buffer : Type 0 where
  pub slots : List ℕ
  pub room : ℕ

abbrev pub buffer_of : List ℕ → ℕ → Buffer
buffer_of slots room = record { slots = slots; room = room }

-- this packet has none of the faults
pub record Faultless (B : Buffer) (older : List Row) (r : Row) : Type 0 where
  pub fate : fate_outside r ≡ false
  pub by : by_wrong (length B.slots) r ≡ false
  pub when : when_wrong B.slots r ≡ false
  pub later : not_later older r ≡ false
  pub within_room : over_room B.room older r ≡ false

-- no packet has one of the faults
abbrev pub ObeysFrom : Buffer → List Row → List Row → Type 0
ObeysFrom B older [] = Unit {0}
ObeysFrom B older (r ∷ rows) = Faultless B older r × ObeysFrom B (r ∷ older) rows

abbrev pub Obeys : Buffer → List Row → Type 0
Obeys B rows = ObeysFrom B [] rows

-- a refusal or a fault: its number and its place; number 0 where there is none
pub record Verdict : Type 0 where
  pub number : ℕ
  pub place : ℕ

abbrev pub clear : Verdict
clear = record { number = 0; place = 0 }

-- the first of two verdicts that is not clear
unfoldable pub or_else : Verdict → Verdict → Verdict
or_else v w = cond (eqb v.number 0) w v

-- this number, at this place, if the test holds
abbrev pub verdict_if : Bool → ℕ → ℕ → Verdict
verdict_if test number place = cond test (record { number = number; place = place }) clear

-- this fault, at this packet, if the test holds
abbrev pub fault_if : Bool → Fault → Row → Verdict
fault_if test fault r = verdict_if test (fault_number fault) r.number.0

-- the first fault of one packet, tested in this order
unfoldable pub fault_at : Buffer → List Row → Row → Verdict
fault_at B older r =
    or_else (fault_if (fate_outside r) FateOutside r)
    (or_else (fault_if (by_wrong (length B.slots) r) ByWrong r)
    (or_else (fault_if (when_wrong B.slots r) WhenWrong r)
    (or_else (fault_if (not_later older r) NotLater r) (fault_if (over_room B.room older r) OverRoom r))))

-- the first fault of a record, packets taken in number order
unfoldable pub first_fault_from : Buffer → List Row → List Row → Verdict
first_fault_from B older [] = clear
first_fault_from B older (r ∷ rows) = or_else (fault_at B older r) (first_fault_from B (r ∷ older) rows)

abbrev pub first_fault : Buffer → List Row → Verdict
first_fault B rows = first_fault_from B [] rows
