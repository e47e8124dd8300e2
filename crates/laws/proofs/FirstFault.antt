-- A record obeys the rules exactly when the audit finds no first fault: at each packet the first fault is clear when all five tests fail, and a verdict
-- whose number is 0 is one that every test before it has let through.
use Prim.Native.Nat.{ℕ, suc}
use native.Mathlib.Omega.{arith}
use mathlib.Core.Path.{◌≡◌, refl}
use mathlib.Core.Bool.{Bool, true, false, cond}
use mathlib.Core.List.{List, [], ◌∷◌}
use lib.Dec.{eqb}
use borrow.Author.Tests.{eqb-true, eqb-false}
use Rattle.model.specs.Record.{Row}
use Rattle.model.specs.Rules.{Buffer, Faultless, ObeysFrom, Obeys, Verdict, clear, or_else, verdict_if, fault_at, first_fault_from, first_fault}

-- the first of two verdicts is clear only if both are
pub or_else_zero : (v w : Verdict) → (or_else v w).number ≡ 0 → (v.number ≡ 0) × (w.number ≡ 0)
unfolding or_else
or_else_zero v w = go (eqb v.number 0) refl
  where
    go : (t : Bool) → eqb v.number 0 ≡ t → (cond t w v).number ≡ 0 → (v.number ≡ 0) × (w.number ≡ 0)
    go true e z = (eqb-true v.number 0 e, z)
    go false e z = (z, absurd (eqb-false v.number 0 e z))

-- the first of a clear verdict and another is the other
pub or_else_clear : (v w : Verdict) → v ≡ clear → or_else v w ≡ w
unfolding or_else
or_else_clear v w e = rw e

-- a verdict on a test is clear only if the test fails
pub verdict_if_zero : (test : Bool) (number place : ℕ) → (verdict_if test (suc number) place).number ≡ 0 → test ≡ false
verdict_if_zero true number place z = absurd (omega arith)
verdict_if_zero false number place z = refl

fault_at_clear : (B : Buffer) (older : List Row) (r : Row) → Faultless B older r → fault_at B older r ≡ clear
unfolding fault_at or_else
fault_at_clear B older r h = rw (h.fate, h.by, h.when, h.later, h.within_room)

-- a row whose verdict is clear is faultless
pub fault_at_zero : (B : Buffer) (older : List Row) (r : Row) → (fault_at B older r).number ≡ 0 → Faultless B older r
unfolding fault_at
fault_at_zero B older r z =
    let a = or_else_zero _ _ z in
    let b = or_else_zero _ _ a.1 in
    let c = or_else_zero _ _ b.1 in
    let d = or_else_zero _ _ c.1 in
    record {
      fate = verdict_if_zero _ 10 _ a.0;
      by = verdict_if_zero _ 11 _ b.0;
      when = verdict_if_zero _ 12 _ c.0;
      later = verdict_if_zero _ 13 _ d.0;
      within_room = verdict_if_zero _ 14 _ d.1;
    }

pub obeys_clear_from : (B : Buffer) (older rows : List Row) → ObeysFrom B older rows → first_fault_from B older rows ≡ clear
unfolding first_fault_from or_else
obeys_clear_from B older [] h = refl
obeys_clear_from B older (r ∷ rows) h = rw (fault_at_clear B older r h.0, obeys_clear_from B (r ∷ older) rows h.1)

pub clear_obeys_from : (B : Buffer) (older rows : List Row) → (first_fault_from B older rows).number ≡ 0 → ObeysFrom B older rows
unfolding first_fault_from
clear_obeys_from B older [] z = tt
clear_obeys_from B older (r ∷ rows) z =
    let both = or_else_zero _ _ z in
    (fault_at_zero B older r both.0, clear_obeys_from B (r ∷ older) rows both.1)

-- a record obeys the rules exactly when there is no first fault
pub obeys_iff_clear : (B : Buffer) (rows : List Row) → (Obeys B rows → first_fault B rows ≡ clear) × ((first_fault B rows).number ≡ 0 → Obeys B rows)
obeys_iff_clear B rows = (obeys_clear_from B [] rows, clear_obeys_from B [] rows)
