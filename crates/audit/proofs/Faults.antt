-- The first fault of one packet, from what the sweep keeps in place of the older rows: once fault 13 is clear a sent packet's when is at least 1, so the when
-- of the last one sent, 0 where there is none, decides fault 14.
use Prim.Native.Nat.{ℕ, suc, ◌≤◌}
use native.Mathlib.Omega.{arith}
use mathlib.Core.Path.{◌≡◌, refl, sym, ap, ◌∙◌}
use mathlib.Core.Bool.{Bool, true, false, cond, ◌&&◌}
use mathlib.Core.List.{List, ◌∷◌}
use lib.ListN.{length}
use lib.Dec.{leb}
use borrow.Author.Tests.{eqb-true, ltb-false}
use Rattle.model.specs.declared.Fate.{Fate}
use Rattle.model.specs.declared.Fate.TheVariants.{Sent, Rejected, PushedOut, Preempted, Flushed}
use Rattle.model.specs.Limits.{within}
use Rattle.model.specs.declared.Slot.{Slot}
use Rattle.model.specs.Record.{Row, fate_number}
use Rattle.model.specs.Rules.{Verdict, Buffer, clear, has_fate, fate_outside, by_wrong, when_wrong, not_after_last, not_later, over_room, or_else, verdict_if, fault_at}
use Rattle.laws.proofs.FirstFault.{or_else_zero, verdict_if_zero}
use Rattle.audit_faults.specs.Faults.{last_of, not_after, row_fault}
use Rattle.audit_faults.proofs.Fates.{when_test}

-- what `last` says of the older rows
abbrev pub LastSent : ℕ → List Row → Type 0
LastSent last older = (w : ℕ) → 1 ≤ w → not_after_last (record { 0 = w }) older ≡ leb w last

-- one row more
pub last_more : (last : Slot) (older : List Row) (r : Row) → LastSent last.0 older → LastSent (last_of last r).0 (r ∷ older)
unfolding not_after_last last_of
last_more last older r known w h = go (has_fate Sent r)
  where
    go : (t : Bool) → cond t (leb w r.when.0) (not_after_last (record { 0 = w }) older) ≡ leb w (cond t r.when last).0
    go true = refl
    go false = known w h

-- fault 14, once 13 is clear
late : (slots : List ℕ) (last : ℕ) (older : List Row) (r : Row) → 1 ≤ r.slot.0 → LastSent last older → when_wrong slots r ≡ false
    → not_later older r ≡ not_after last r
unfolding not_later not_after has_fate
late slots last older r s known w = go (has_fate Sent r) refl
  where
    go : (t : Bool) → has_fate Sent r ≡ t → (t && not_after_last r.when older) ≡ (t && leb r.when.0 last)
    go true e =
        let l = ltb-false r.when.0 r.slot.0 (sym (when_test Sent slots r (eqb-true _ _ e)) ∙ w) in
        known r.when.0 (omega arith)
    go false e = refl

-- 12, 13 and 14 by what is kept, then 15
pub fault_here : (buffer : Buffer) (last : ℕ) (older : List Row) (r : Row) → fate_outside r ≡ false → 1 ≤ r.slot.0 → LastSent last older
    → fault_at buffer older r ≡ or_else (row_fault buffer.slots last r) (verdict_if (over_room buffer.room older r) 15 r.number.0)
unfolding fault_at or_else
fault_here buffer last older r inside s known =
    rw inside
    (go (by_wrong (length buffer.slots) r) (when_wrong buffer.slots r) (not_later older r) (not_after last r) (late buffer.slots last older r s known))
  where
    over : Verdict
    over = verdict_if (over_room buffer.room older r) 15 r.number.0

    go : (b w l l' : Bool) → (w ≡ false → l ≡ l')
        → or_else (verdict_if b 12 r.number.0) (or_else (verdict_if w 13 r.number.0) (or_else (verdict_if l 14 r.number.0) over))
        ≡ or_else (or_else (verdict_if b 12 r.number.0) (or_else (verdict_if w 13 r.number.0) (verdict_if l' 14 r.number.0))) over
    go true w l l' e = refl
    go false true l l' e = refl
    go false false l true e = rw (e refl)
    go false false l false e = rw (e refl)

-- a fate outside 1 to 5 is the first fault
pub fault_outside : (buffer : Buffer) (older : List Row) (r : Row) → fate_outside r ≡ true
    → fault_at buffer older r ≡ record { number = 11; place = r.number.0 }
unfolding fault_at or_else
fault_outside buffer older r e = rw e

-- a fate's number is not outside
pub inside : (f : Fate) (r : Row) → r.fate ≡ fate_number f → fate_outside r ≡ false
unfolding fate_outside within
inside Sent r e = rw e
inside Rejected r e = rw e
inside PushedOut r e = rw e
inside Preempted r e = rw e
inside Flushed r e = rw e

-- where nothing is found the first test failed
pub first_clear : (test : Bool) (n place : ℕ) (w : Verdict) → or_else (verdict_if test (suc n) place) w ≡ clear → test ≡ false
first_clear test n place w e = verdict_if_zero test n place (or_else_zero (verdict_if test (suc n) place) w (ap (λ (v : Verdict). v.number) e)).0
