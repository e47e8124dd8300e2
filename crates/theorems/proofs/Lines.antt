-- From counts to values: a packet of value v is counted at exactly the lines 1 to v, so the value sent is the sum of the counts over all lines. N, the
-- greatest value there is, stays a variable.
use Prim.Native.Nat.{ℕ, zero, suc, ◌+◌, ◌*◌, ◌≤◌, min}
use mathlib.Core.Path.{◌≡◌, refl}
use mathlib.Core.Bool.{Bool, true, false, cond, ◌&&◌}
use mathlib.Core.List.{List, [], ◌∷◌}
use native.Mathlib.Omega.{arith}
use lib.Dec.{leb}
use borrow.Author.Tests.{leb-true, leb-false}
use Rattle.model.specs.declared.Fate.TheVariants.{Sent}
use Rattle.model.specs.Record.{Row}
use Rattle.model.specs.Rules.{has_fate, count_of}
use Rattle.model.specs.Totals.{value_of}
use Rattle.theorems.specs.Demand3.{sent_at_least}

-- no row has a value above N
abbrev pub ValuesTo : ℕ → List Row → Type 0
ValuesTo N [] = Unit {0}
ValuesTo N (r ∷ rows) = (r.value ≤ N) × ValuesTo N rows

-- the sum of the counts over the lines 1 to N
unfoldable pub lines : ℕ → List Row → ℕ
lines zero rows = 0
lines (suc n) rows = sent_at_least (suc n) rows + lines n rows

lines_none : (N : ℕ) → lines N [] ≡ 0
unfolding lines sent_at_least count_of
lines_none zero = refl
lines_none (suc n) = omega (arith, lines_none n)

-- what one packet adds
lines_one : (N : ℕ) (r : Row) (rows : List Row) → lines N (r ∷ rows) ≡ cond (has_fate Sent r) (min N r.value) 0 + lines N rows
unfolding lines sent_at_least count_of
lines_one zero r rows = go (has_fate Sent r)
  where
    go : (t : Bool) → 0 ≡ cond t (min 0 r.value) 0 + 0
    go true = omega arith
    go false = omega arith
lines_one (suc n) r rows = go (has_fate Sent r) (leb (suc n) r.value) refl (lines_one n r rows)
  where
    go : (t u : Bool) → leb (suc n) r.value ≡ u → lines n (r ∷ rows) ≡ cond t (min n r.value) 0 + lines n rows
        → (cond (t && u) 1 0 + sent_at_least (suc n) rows) + lines n (r ∷ rows)
        ≡ cond t (min (suc n) r.value) 0 + (sent_at_least (suc n) rows + lines n rows)
    go true true e ih = omega (arith, leb-true)
    go true false e ih = omega (arith, leb-false)
    go false u e ih = omega arith

-- the value sent is the sum over the lines
value_lines : (N : ℕ) (rows : List Row) → ValuesTo N rows → value_of (has_fate Sent) rows ≡ lines N rows
unfolding value_of
value_lines N [] h = omega (arith, lines_none N)
value_lines N (r ∷ rows) h = go (has_fate Sent r) (lines_one N r rows) (value_lines N rows h.1)
  where
    go : (t : Bool) → lines N (r ∷ rows) ≡ cond t (min N r.value) 0 + lines N rows → value_of (has_fate Sent) rows ≡ lines N rows
        → cond t r.value 0 + value_of (has_fate Sent) rows ≡ lines N (r ∷ rows)
    go true e ih = omega arith
    go false e ih = omega arith

-- a bound by a factor at every line is a bound by that factor on the values
lines_bound : (k N : ℕ) (xs ys : List Row) → ((w : ℕ) → sent_at_least w xs ≤ k * sent_at_least w ys) → lines N xs ≤ k * lines N ys
unfolding lines
lines_bound k zero xs ys h = omega arith
lines_bound k (suc n) xs ys h = omega (arith, h (suc n), lines_bound k n xs ys h)

pub value_bound : (k N : ℕ) (xs ys : List Row) → ValuesTo N xs → ValuesTo N ys
    → ((w : ℕ) → sent_at_least w xs ≤ k * sent_at_least w ys)
    → value_of (has_fate Sent) xs ≤ k * value_of (has_fate Sent) ys
value_bound k N xs ys hx hy h = rw (value_lines N xs hx, value_lines N ys hy) (lines_bound k N xs ys h)
