-- The test of a window decides what sendings leave: what they do where it passes, all as before where it fails.
use Prim.Native.Nat.{ℕ, ◌-◌}
use mathlib.Core.Path.{◌≡◌, refl, ap, ap₂}
use mathlib.Core.Bool.{true, false}
use mathlib.Core.List.{List}
use native.Mathlib.Omega.{arith}
use lib.ListN.{length}
use Rattle.model.specs.declared.Packet.{Packet}
use Rattle.model.specs.declared.Slot.{Slot}
use Rattle.model.specs.Record.{Lists}
use Rattle.steps.specs.declared.Window.{Window}
use Rattle.steps.specs.Window.{window_of}
use Rattle.steps.specs.Guarded.{lies_within}
use Rattle.steps.specs.Step.{Stepped, sending}
use Rattle.steps.specs.Lent.{Lent, lent, moved, sending_in}
use Rattle.steps.proofs.Windows.{window, window_length}
use Rattle.steps.proofs.Placing.{same_lent}

module _ (w : Window) (numbers values : List ℕ) where
  abbrev all : Lent
  all = lent w numbers values

  abbrev queue : List Packet
  queue = window_of w numbers values

  module _ (now until : Slot) (before : Lists) where
    -- the window's end has stayed, so its start is where what is left begins
    pub sendings_kept : (r : Window) (after : Lists) → lies_within w numbers values ≡ true
        → Stepped (sending now until queue) before r numbers values after → r.tail ≡ w.tail
        → moved (lent r numbers values) after ≡ sending_in now until all before
    unfolding sending_in
    sendings_kept r after e S same =
        let left = window_length r numbers values S.within in
        let head : r.head ≡ w.tail - length (sending now until queue).next = omega (arith, ap length S.queue, S.within.ordered) in
        rw e (ap₂ moved (same_lent (ap₂ window head same) refl refl) S.written)

    pub none_sent : lies_within w numbers values ≡ false → moved all before ≡ sending_in now until all before
    unfolding sending_in
    none_sent e = rw e refl
