-- Where a packet of each fate is held, and where it is held no more: that fate's line; and that a number names no fate.
use Prim.Native.Nat.{ℕ}
use mathlib.Core.Path.{◌≡◌, refl}
use mathlib.Core.Bool.{Bool, true, false, ◌&&◌}
use mathlib.Core.List.{List}
use lib.Dec.{leb}
use native.Mathlib.Omega.{arith}
use borrow.Author.Tests.{leb-true}
use Rattle.model.specs.declared.Fate.{Fate}
use Rattle.model.specs.Limits.{within}
use Rattle.model.specs.Numbers.{fate_number}
use Rattle.model.specs.Record.{Row}
use Rattle.model.specs.Rules.{is_held_for, is_held_at}
use Rattle.laws.proofs.Fates.{at_fate_lem}
use Rattle.audit.specs.Sweep.{leave_for, leave_of}

-- what fault 15 counts
pub held_test : (f : Fate) (at r : Row) → r.fate ≡ fate_number f → is_held_at at r ≡ is_held_for at r f
unfolding is_held_at
held_test f at r e = at_fate_lem f false r (is_held_for at r) e

-- where it is held no more
pub leave_test : (f : Fate) (slots : List ℕ) (r : Row) → r.fate ≡ fate_number f → leave_of slots r ≡ leave_for slots r f
unfolding leave_of
leave_test f slots r e = at_fate_lem f 0 r (leave_for slots r) e

-- a number that is none of the five
pub outside : (n : ℕ) → (n ≡ 1 → ⊥) → (n ≡ 2 → ⊥) → (n ≡ 3 → ⊥) → (n ≡ 4 → ⊥) → (n ≡ 5 → ⊥) → within 1 5 n ≡ false
unfolding within
outside n a b c d e = go (leb 1 n) refl (leb n 5) refl
  where
    go : (s : Bool) → leb 1 n ≡ s → (t : Bool) → leb n 5 ≡ t → (s && t) ≡ false
    go true p true q = absurd (omega (arith, leb-true 1 n p, leb-true n 5 q))
    go true p false q = refl
    go false p t q = refl
