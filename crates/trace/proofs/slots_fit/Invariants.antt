-- `trace::slots_fit` meets its contract. The loop's invariant: where nothing bad was found, all that was passed fits.
use Prim.Native.Nat.{◌≤◌}
use mathlib.Core.Path.{◌≡◌}
use mathlib.Core.Bool.{false}
use mathlib.Core.List.{◌∷◌}
use lib.ListN.{length, get_or}
use Rattle.trace.specs.Fitting.{SlotsFit}
use Rattle.trace.proofs.slots_fit.Given as goal

abbrev pub invariant-loop-slot : goal.invariant-loop-slot
invariant-loop-slot l = (l.slot-index ≤ length l.slots) × (l.last ≡ get_or (0 ∷ l.slots) l.slot-index 0) × (l.bad ≡ false → SlotsFit l.slots l.slot-index)
