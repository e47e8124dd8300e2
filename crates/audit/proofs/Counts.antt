-- Counts of rows. Rows whose test agrees are counted alike; and of the rows that leave at place i or later, those that leave at i and those that leave
-- later are all.
use Prim.Native.Nat.{ℕ, suc, ◌+◌, ◌≤◌, zero-le}
use native.Mathlib.Omega.{arith}
use mathlib.Core.Path.{◌≡◌, refl}
use mathlib.Core.Bool.{Bool, true, false, cond}
use mathlib.Core.List.{List, [], ◌∷◌}
use lib.ListN.{length}
use lib.Dec.{leb, eqb}
use borrow.Author.Tests.{leb-true, leb-false, eq-eqb, ne_eqb}
use Rattle.model.specs.Record.{Row}
use Rattle.model.specs.Rules.{count_of}
use Rattle.audit.specs.Sweep.{leave_of}

-- held at the arrivals before place i, or longer
abbrev pub leaves_from : List ℕ → ℕ → Row → Bool
leaves_from slots i r = leb i (leave_of slots r)

-- held no more from the arrival at place i on
abbrev pub leaves_at : List ℕ → ℕ → Row → Bool
leaves_at slots i r = eqb i (leave_of slots r)

pub count_le : (test : Row → Bool) (rows : List Row) → count_of test rows ≤ length rows
unfolding count_of
count_le test [] = zero-le
count_le test (r ∷ rows) = go (test r) (count_le test rows)
  where
    go : (t : Bool) → count_of test rows ≤ length rows → cond t 1 0 + count_of test rows ≤ suc (length rows)
    go true h = omega arith
    go false h = omega arith

-- from place i on, or from the next
split_one : (i l : ℕ) → cond (leb i l) 1 0 ≡ cond (eqb i l) 1 0 + cond (leb (suc i) l) 1 0
split_one i l = go (leb i l) refl (leb (suc i) l) refl
  where
    go : (s : Bool) → leb i l ≡ s → (t : Bool) → leb (suc i) l ≡ t → cond s 1 0 ≡ cond (eqb i l) 1 0 + cond t 1 0
    go true e true f = let l' = leb-true (suc i) l f in rw (ne_eqb i l (λ q. omega arith))
    go true e false f = let l' = leb-true i l e in let l'' = leb-false (suc i) l f in rw (eq-eqb i l (omega arith))
    go false e true f = let l' = leb-false i l e in let l'' = leb-true (suc i) l f in absurd (omega arith)
    go false e false f = let l' = leb-false i l e in rw (ne_eqb i l (λ q. omega arith))

pub split : (slots : List ℕ) (i : ℕ) (rows : List Row)
    → count_of (leaves_from slots i) rows ≡ count_of (leaves_at slots i) rows + count_of (leaves_from slots (suc i)) rows
unfolding count_of
split slots i [] = refl
split slots i (r ∷ rows) = omega (arith, split_one i (leave_of slots r), split slots i rows)
