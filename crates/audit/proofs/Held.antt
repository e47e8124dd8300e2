-- A packet is held at the arrivals before the place where it leaves, and at no other: for one that is sent or flushed since the slots never go down, for one
-- that is lost by the number that `by` names.
use Prim.Native.Nat.{ℕ, suc, ◌-◌, ◌≤◌, ◌<◌, zero-le}
use native.Mathlib.Omega.{arith}
use mathlib.Core.Path.{◌≡◌, refl, sym, ◌∙◌}
use mathlib.Core.Bool.{Bool, true, false}
use mathlib.Core.List.{List}
use lib.ListN.{length, get_or}
use lib.Dec.{leb, ltb}
use borrow.Author.Tests.{leb-true, leb-false, le-leb, lt-leb, lt-ltb, le-ltb}
use Rattle.model.specs.declared.Fate.{Fate}
use Rattle.model.specs.declared.Fate.TheVariants.{Sent, Rejected, PushedOut, Preempted, Flushed}
use Rattle.model.specs.Record.{Row, fate_number}
use Rattle.model.specs.Rules.{by_wrong, is_held_at}
use Rattle.laws.specs.Accepted.{NeverDown}
use Rattle.audit.specs.Sweep.{up_to, leave_of}
use Rattle.audit.proofs.Fates.{held_test, leave_test}
use Rattle.audit_faults.proofs.Fates.{by_test, by_range}
use Rattle.audit.proofs.UpTo.{in_front_lem, past_front, front_le}

-- not after `when` is in the front
front_test : (slots : List ℕ) (when k : ℕ) → NeverDown slots → k < length slots
    → leb (get_or slots k 0) when ≡ leb (suc k) (up_to slots when)
front_test slots when k rising h = go (leb (suc k) (up_to slots when)) refl
  where
    go : (t : Bool) → leb (suc k) (up_to slots when) ≡ t → leb (get_or slots k 0) when ≡ t
    go true e = le-leb _ _ (in_front_lem slots when k (leb-true (suc k) (up_to slots when) e))
    go false e =
        let l = leb-false (suc k) (up_to slots when) e in
        lt-leb _ _ (past_front slots when rising k (omega arith) h)

-- before the arrival that `by` names
by_first : (by k : ℕ) → ltb (suc k) by ≡ leb (suc k) (by - 1)
by_first by k = go (leb (suc k) (by - 1)) refl
  where
    go : (t : Bool) → leb (suc k) (by - 1) ≡ t → ltb (suc k) by ≡ t
    go true e = let l = leb-true (suc k) (by - 1) e in lt-ltb (suc k) by (omega arith)
    go false e = let l = leb-false (suc k) (by - 1) e in le-ltb (suc k) by (omega arith)

pub held_until : (f : Fate) (slots : List ℕ) (at r : Row) (k : ℕ) → r.fate ≡ fate_number f → NeverDown slots → k < length slots
    → at.number.0 ≡ suc k → at.slot.0 ≡ get_or slots k 0 → is_held_at at r ≡ leb (suc k) (leave_of slots r)
held_until Sent slots at r k e rising h n s =
    held_test Sent at r e ∙ rw (leave_test Sent slots r e, s) (front_test slots r.when.0 k rising h)
held_until Rejected slots at r k e rising h n s =
    held_test Rejected at r e ∙ rw (leave_test Rejected slots r e) (sym (lt-leb (suc k) 0 (omega arith)))
held_until PushedOut slots at r k e rising h n s =
    held_test PushedOut at r e ∙ rw (leave_test PushedOut slots r e, n) (by_first r.by.0 k)
held_until Preempted slots at r k e rising h n s =
    held_test Preempted at r e ∙ rw (leave_test Preempted slots r e, n) (by_first r.by.0 k)
held_until Flushed slots at r k e rising h n s =
    held_test Flushed at r e ∙ rw (leave_test Flushed slots r e, s) (front_test slots r.when.0 k rising h)

-- it leaves at an arrival of the trace, or after the last
pub leave_le : (f : Fate) (slots : List ℕ) (r : Row) → r.fate ≡ fate_number f → by_wrong (length slots) r ≡ false → leave_of slots r ≤ length slots
leave_le Sent slots r e b = rw (leave_test Sent slots r e) (front_le slots r.when.0)
leave_le Rejected slots r e b = rw (leave_test Rejected slots r e) zero-le
leave_le PushedOut slots r e b =
    let range = by_range (length slots) r (sym (by_test PushedOut (length slots) r e) ∙ b) in
    rw (leave_test PushedOut slots r e) (omega arith)
leave_le Preempted slots r e b =
    let range = by_range (length slots) r (sym (by_test Preempted (length slots) r e) ∙ b) in
    rw (leave_test Preempted slots r e) (omega arith)
leave_le Flushed slots r e b = rw (leave_test Flushed slots r e) (front_le slots r.when.0)
