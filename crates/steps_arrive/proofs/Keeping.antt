-- The test of a window decides what an arrival leaves: what it does where it passes, all as before where it fails.
use Prim.Native.Nat.{ℕ}
use mathlib.Core.Path.{◌≡◌, refl}
use mathlib.Core.Bool.{true, false}
use mathlib.Core.List.{List, [], ◌∷◌, ◌++◌}
use Rattle.model.specs.declared.Packet.{Packet}
use Rattle.model.specs.Packets.{Arrival}
use Rattle.model.specs.Record.{Lists}
use Rattle.model.specs.Course.{Decided}
use Rattle.steps.specs.declared.Window.{Window}
use Rattle.steps.specs.Window.{window_of}
use Rattle.steps.specs.Lent.{Lent, lent, placed, Moved, moved}
use Rattle.steps_arrive.specs.Arrive.{has_place, open_place, holding, deciding, arriving_in}

module _ (w : Window) (numbers values : List ℕ) where
  abbrev all : Lent
  all = lent w numbers values

  abbrev queue : List Packet
  queue = window_of w numbers values

  pub held_kept : (p : Packet) (r : Lent) → has_place w numbers values ≡ true → r ≡ placed (open_place all) (queue ++ p ∷ []) all → r ≡ holding p all
  unfolding holding
  held_kept p r e done = rw e done

  pub none_held : (p : Packet) → has_place w numbers values ≡ false → all ≡ holding p all
  unfolding holding
  none_held p e = rw e refl

  module _ (rule : List Packet → Packet → Decided) (a : Arrival) (before : Lists) where
    pub arrival_kept : (m : Moved) → has_place w numbers values ≡ true → m ≡ deciding a (rule queue a.packet) all before → m ≡ arriving_in rule a all before
    unfolding arriving_in
    arrival_kept m e done = rw e done

    pub none_arrives : has_place w numbers values ≡ false → moved all before ≡ arriving_in rule a all before
    unfolding arriving_in
    none_arrives e = rw e refl
