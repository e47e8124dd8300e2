-- The window is empty or its first packet is the oldest.
use mathlib.Core.Path.{refl}
use native.Mathlib.Omega.{arith}
use Rattle.steps.proofs.Windows.{window_cons, window_none}
use Rattle.steps.proofs.held.oldest.Goals as goal

pub returns-then-some : goal.returns-then-some
returns-then-some c = let start = c in
    let a = start.args in
    rw (window_cons a.head a.tail a.numbers.now a.values.now start.requires (omega arith)) refl

pub returns-else-some : goal.returns-else-some
returns-else-some c = let a = c.args in
    rw (window_none a.head a.tail a.numbers.now a.values.now c.requires (omega arith)) refl
