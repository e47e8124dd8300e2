-- At a row of one of the five fates, what goes by the fate is what that fate's line says: the numbers of the five differ.
use mathlib.Core.Path.{◌≡◌}
use Rattle.model.specs.declared.Fate.{Fate}
use Rattle.model.specs.declared.Fate.TheVariants.{Sent, Rejected, PushedOut, Preempted, Flushed}
use Rattle.model.specs.Numbers.{fate_number}
use Rattle.model.specs.Record.{Row}
use Rattle.model.specs.Rules.{has_fate, at_fate}

pub at_fate_lem : {A : Type 0} (f : Fate) (outside : A) (r : Row) (goes : Fate → A) → r.fate ≡ fate_number f → at_fate outside r goes ≡ goes f
unfolding at_fate has_fate
at_fate_lem Sent outside r goes e = rw e
at_fate_lem Rejected outside r goes e = rw e
at_fate_lem PushedOut outside r goes e = rw e
at_fate_lem Preempted outside r goes e = rw e
at_fate_lem Flushed outside r goes e = rw e
