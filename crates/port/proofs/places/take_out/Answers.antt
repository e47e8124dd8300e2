-- `port::places::take_out` meets its contract: it is `slide`, and one store.
use mathlib.Core.Path.{refl, ap}
use mathlib.Core.List.{List}
use Prim.Native.Nat.{ℕ, ◌-◌}
use lib.ListN.{set}
use Rattle.port.proofs.places.take_out.Goals as goal

pub returns : goal.returns
returns c = let a = c.args in
    record { entry_was = refl; left = ap (λ (l : List ℕ). set l (a.held - 1) 0) c.slide.ensures }
