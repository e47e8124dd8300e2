-- What each fate's rules ask: at a row of one fate model's tests are that fate's line.
use Prim.Native.Nat.{ℕ, suc, ◌≤◌, ◌<◌}
use mathlib.Core.Path.{◌≡◌}
use mathlib.Core.Bool.{false, not}
use mathlib.Core.List.{List}
use borrow.Author.Tests.{not-false}
use Rattle.model.specs.declared.Fate.{Fate}
use Rattle.model.specs.Limits.{within}
use Rattle.model.specs.Numbers.{fate_number}
use Rattle.model.specs.Record.{Row}
use Rattle.model.specs.Rules.{by_later, by_wrong_for, by_wrong, when_wrong_for, when_wrong}
use Rattle.checks.proofs.Tests.{within_from, within_to}
use Rattle.laws.proofs.Fates.{at_fate_lem}

-- 12
pub by_test : (f : Fate) (packets : ℕ) (r : Row) → r.fate ≡ fate_number f → by_wrong packets r ≡ by_wrong_for packets r f
unfolding by_wrong
by_test f packets r e = at_fate_lem f false r (by_wrong_for packets r) e

-- 13
pub when_test : (f : Fate) (slots : List ℕ) (r : Row) → r.fate ≡ fate_number f → when_wrong slots r ≡ when_wrong_for slots r f
unfolding when_wrong
when_test f slots r e = at_fate_lem f false r (when_wrong_for slots r) e

-- a `by` that is not wrong names a later packet of the trace
pub by_range : (packets : ℕ) (r : Row) → not (by_later packets r) ≡ false → (r.number.0 < r.by.0) × (r.by.0 ≤ packets)
by_range packets r e =
    let h = not-false (within (suc r.number.0) packets r.by.0) e in
    (within_from _ _ _ h, within_to _ _ _ h)
