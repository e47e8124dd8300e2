-- The loop over the packets, under any policy whose queue a window holds. The invariant: the window holds the state's queue, and what is left of the course
-- completes the entries and the greatest length. Each turn takes one packet, so the packets left are the measure.
use Prim.Native.Nat.{ℕ, max, ◌+◌, ◌-◌, ◌*◌, ◌≤◌, ◌<◌}
use mathlib.Core.Path.{◌≡◌, sym, ap, ◌∙◌}
use mathlib.Core.List.{List, []}
use native.Mathlib.Omega.{arith}
use lib.ListN.{length, get_or}
use Rattle.model.specs.Limits.{port_limits}
use Rattle.model.specs.Record.{Lists, entered}
use Rattle.model.specs.Course.{Policy, slot_ends}
use Rattle.laws.specs.MostQueue.{turn}
use Rattle.steps.specs.declared.Window.{Window}
use Rattle.steps.specs.Window.{window_of, Within}
use Rattle.steps.specs.Run.{Runnable, Ran}
use Rattle.steps.specs.Places.{packet_at}
use Rattle.steps.proofs.Windows.{window, window_none, window_length}
use Rattle.steps.proofs.Coursing.{at, Coursing, coursing_all, coursing_short, coursing_turn, coursing_end}

module _ {S : Type 0} (P : Policy S) (s₀ : S) (slots values : List ℕ) (before : Lists) where
  pub record Going (s : S) (numbers held : List ℕ) (head tail last most i : ℕ) (now : Lists) : Type 0 where
    pub within : Within (window head tail) numbers held
    pub queue : P.held s ≡ window_of (window head tail) numbers held
    pub places : length held ≡ 2 * port_limits.room
    pub course : Coursing P s₀ slots values before s (tail - head) last most i now

  pub going_start : P.held s₀ ≡ [] → (numbers held : List ℕ) → length numbers ≡ 2 * port_limits.room → length held ≡ 2 * port_limits.room
      → Going s₀ numbers held 0 0 1 0 0 before
  going_start empty numbers held n h =
      let W : Within (window 0 0) numbers held = record { ordered = omega arith; inside = omega arith; same = omega arith } in
      record {
        within = W;
        queue = empty ∙ sym (window_none 0 0 numbers held W (omega arith));
        places = h;
        course = coursing_all P s₀ slots values before (ap length empty);
      }

  module _ (R : Runnable P s₀ slots values) (s : S) (numbers held : List ℕ) (head tail last most i : ℕ) (now : Lists)
      (G : Going s numbers held head tail last most i now) where
    -- the queue never fills its places
    pub going_free : tail - head < length held
    going_free = omega (arith, G.places, R.short, coursing_short P s₀ slots values before R s (tail - head) last most i now G.course)

    pub going_turn : i < length slots
        → (s' : S) (w : Window) (numbers' held' : List ℕ) (after : Lists) (most' : ℕ)
        → Within w numbers' held' → P.held s' ≡ window_of w numbers' held'
        → s' ≡ (turn P (at last) s (packet_at slots values i)).next → after ≡ entered (turn P (at last) s (packet_at slots values i)).entries now
        → length held' ≡ length held → most' ≡ max most (w.tail - w.head)
        → Going s' numbers' held' w.head w.tail (get_or slots i 0) most' (i + 1) after
    going_turn some s' w numbers' held' after most' W q e a same m =
        record {
          within = W;
          queue = q;
          places = same ∙ G.places;
          course = coursing_turn P s₀ slots values before R s (tail - head) last most i now G.course some
              s' (w.tail - w.head) after most' (ap length q ∙ window_length w numbers' held' W) e a m;
        }

    pub going_end : length slots ≤ i → (after : Lists) → after ≡ entered (slot_ends P (tail - head) (at last) s).entries now
        → Ran P s₀ slots values before after most
    going_end done after a = coursing_end P s₀ slots values before R s (tail - head) last most i now G.course done after a
