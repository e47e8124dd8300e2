-- The order of the tests of a trace. And one packet's turn in the walk of refusals 5 and 6, over plain lists: the walk is by recursion on what is left of
-- both lists, and `drop i` of a list begins with the entry at i.
use Prim.Native.Nat.{ℕ, suc, ◌+◌, ◌<◌, ◌≤◌}
use mathlib.Core.Path.{◌≡◌, refl}
use mathlib.Core.Bool.{Bool, true, false}
use mathlib.Core.List.{List}
use lib.ListN.{length, get_or, drop, drop_of_length-le}
use lib.Seq.{drop-cons}
use lib.Dec.{leb, eqb}
use native.Mathlib.Omega.{arith}
use native.Mathlib.Numerals.{add-one}
use Rattle.model.specs.declared.Slot.{Slot}
use Rattle.model.specs.declared.Cause.{Cause}
use Rattle.model.specs.declared.Cause.TheVariants as causes
use Rattle.model.specs.Answers.{cause_number}
use Rattle.model.specs.Packets.{arrivals_from}
use Rattle.model.specs.Rules.{Verdict, clear, or_else}
use Rattle.model.specs.Limits.{record_limits}
use Rattle.model.specs.Record.{Lists}
use Rattle.model.specs.Refusals.{room_ok, slot_ok, value_ok, packet_refusal, packet_refusal_from, trace_refusal}
use Rattle.model.specs.declared.Marking.{Marking}
use Rattle.std.specs.Prelude.{Option, Some, None}
use Rattle.trace.specs.Checked.{ok_of, lengths_equal}

-- a call takes no value that is out of range
pub refuses : (taken : Option Marking) (v : ℕ) → value_ok v ≡ false → ok_of taken v ≡ false
refuses None v e = e
refuses (Some marking) v e = rw e

-- what the walk answers from the packet at place i on
abbrev pub rest_from : (ℕ → Bool) → List ℕ → List ℕ → Slot → ℕ → Verdict
rest_from ok slots values before i =
    packet_refusal_from ok before (arrivals_from (suc i) (drop i slots) (drop i values))

-- what one packet's two tests leave of the walk's answer
pub record Turn (ok : ℕ → Bool) (slots values : List ℕ) (before : Slot) (i : ℕ) (slot_fits value-fits : Bool) : Type 0 where
  pub by_slot : slot_fits ≡ false → rest_from ok slots values before i ≡ record { number = 5; place = i + 1 }
  pub by_value : slot_fits ≡ true → value-fits ≡ false → rest_from ok slots values before i ≡ record { number = 6; place = i + 1 }
  pub by_none : slot_fits ≡ true → value-fits ≡ true
      → rest_from ok slots values (record { 0 = get_or slots i 0 }) (i + 1) ≡ rest_from ok slots values before i

pub turn : (ok : ℕ → Bool) (slots values : List ℕ) (before : Slot) (i : ℕ) → length values ≡ length slots → i < length slots
    → {slot_fits value-fits : Bool} → slot_fits ≡ slot_ok before (record { 0 = get_or slots i 0 }) → value-fits ≡ ok (get_or values i 0)
    → Turn ok slots values before i slot_fits value-fits
unfolding packet_refusal_from arrivals_from or_else
turn ok slots values before i lengths h e f =
    let h' : i < length values = omega arith in
    record {
      by_slot = λ a. rw (add-one, drop-cons slots i 0, drop-cons values i 0, ← e, a);
      by_value = λ a b. rw (add-one, drop-cons slots i 0, drop-cons values i 0, ← e, a, ← f, b);
      by_none = λ a b. rw (add-one, drop-cons slots i 0, drop-cons values i 0, ← e, a, ← f, b);
    }

-- after the last packet nothing is refused
pub turn_none : (ok : ℕ → Bool) (slots values : List ℕ) (before : Slot) (i : ℕ) → length slots ≤ i → rest_from ok slots values before i ≡ clear
unfolding packet_refusal_from arrivals_from
turn_none ok slots values before i h = rw (drop_of_length-le slots)

-- a refusal with no place
abbrev refusal : ℕ → Verdict
refusal number = record { number = number; place = 0 }

-- the first of the tests that fails gives the answer
pub record Order (own : Verdict) (ok : ℕ → Bool) (slots values : List ℕ) (room : ℕ) (lists : Lists) (answer : Verdict) : Type 0 where
  pub by_lengths : lengths_equal slots values lists ≡ false → answer ≡ refusal 1
  pub by_packets : lengths_equal slots values lists ≡ true → leb (length slots) record_limits.packets ≡ false → answer ≡ refusal 2
  pub by_room : lengths_equal slots values lists ≡ true → leb (length slots) record_limits.packets ≡ true → room_ok room ≡ false
      → answer ≡ refusal 3
  pub by_own : lengths_equal slots values lists ≡ true → leb (length slots) record_limits.packets ≡ true → room_ok room ≡ true → eqb own.number 0 ≡ false
      → answer ≡ own
  pub by_none : lengths_equal slots values lists ≡ true → leb (length slots) record_limits.packets ≡ true → room_ok room ≡ true → own ≡ clear
      → answer ≡ packet_refusal ok slots values

pub order : (own : Verdict) (ok : ℕ → Bool) (slots values : List ℕ) (room : ℕ) (lists : Lists)
    → Order own ok slots values room lists (trace_refusal own ok slots values room lists)
unfolding or_else
order own ok slots values room lists =
    record {
      by_lengths = λ a. rw a;
      by_packets = λ a b. rw (a, b);
      by_room = λ a b c. rw (a, b, c);
      by_own = λ a b c d. rw (a, b, c, d);
      by_none = λ a b c d. rw (a, b, c, d);
    }

-- a refusal's number is not 0
pub cause_refuses : (cause : Cause) → eqb (cause_number cause) 0 ≡ false
cause_refuses causes.Lengths = refl
cause_refuses causes.Packets = refl
cause_refuses causes.Room = refl
cause_refuses causes.Parameters = refl
cause_refuses causes.Slot = refl
cause_refuses causes.Value = refl
cause_refuses causes.Spent = refl
cause_refuses causes.Unsound = refl
cause_refuses causes.Text = refl
