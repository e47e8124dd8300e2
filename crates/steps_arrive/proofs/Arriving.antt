-- An arrival that is held or rejected as a step of the window's queue; and that a choice loses only a packet that is held.
use Prim.Native.Nat.{ℕ, ◌<◌}
use mathlib.Core.Path.{◌≡◌, refl, sym, subst}
use mathlib.Core.Bool.{Bool, true, false, cond}
use mathlib.Core.List.{List, [], ◌∷◌, ◌++◌}
use lib.ListN.{length}
use lib.Dec.{ltb}
use borrow.Author.Tests.{ltb-true}
use Rattle.model.specs.declared.Packet.{Packet}
use Rattle.model.specs.declared.Slot.{Slot}
use Rattle.model.specs.declared.Fate.TheVariants as fates
use Rattle.model.specs.declared.LossKind.{LossKind}
use Rattle.model.specs.Record.{Lists, enter, entered}
use Rattle.model.specs.Course.{Decided, by_rule}
use Rattle.model.specs.Policies.Greedy.{loser_at}
use Rattle.model.specs.declared.Rule.{Rule}
use Rattle.queue.specs.declared.Choice.{Choice}
use Rattle.queue.specs.declared.Choice.TheVariants.{Hold, Reject, Lose}
use Rattle.queue.specs.Choose.{beta_place, overflow_choice, greedy_choice, choose, applied}
use Rattle.entry.specs.Entry.{entry}
use Rattle.steps.specs.declared.Window.{Window}
use Rattle.steps.specs.Window.{window_of, Within, Holds}
use Rattle.steps.specs.Step.{Stepped, arrival, arriving}

module _ (w : Window) (numbers values : List ℕ) (W : Within w numbers values) (slot : Slot) (p : Packet) (before : Lists) where
  abbrev queue : List Packet
  queue = window_of w numbers values

  pub held : (r : Window) (numbers' values' : List ℕ) → Holds r numbers' values' (queue ++ p ∷ [])
      → Stepped (arriving (applied Hold) (arrival slot p) queue) before r numbers' values' before
  unfolding entered
  held r numbers' values' H = record { within = H.within; queue = H.is; written = refl }

  pub rejected : (after : Lists) → after ≡ enter (entry p.number fates.Rejected slot p.number) before
      → Stepped (arriving (applied Reject) (arrival slot p) queue) before w numbers values after
  unfolding entered
  rejected after e = record { within = W; queue = refl; written = e }

  -- a rule that decides as a choice does
  pub by_choice : (rule : List Packet → Packet → Decided) (choice : Choice) → rule queue p ≡ applied choice queue p
      → (r : Window) (numbers' values' : List ℕ) (after : Lists)
      → Stepped (arriving (applied choice) (arrival slot p) queue) before r numbers' values' after
      → Stepped (arriving rule (arrival slot p) queue) before r numbers' values' after
  by_choice rule choice same r numbers' values' after S =
      subst (λ (d : Decided). Stepped ((by_rule (λ q x. d)).arrive (arrival slot p) queue) before r numbers' values' after) (sym same) S

-- a packet that is lost is one of those held
abbrev pub Inside : ℕ → Choice → Type 0
Inside n Hold = Unit {0}
Inside n Reject = Unit {0}
Inside n (Lose place kind) = place < n

inside_tested : (n : ℕ) (t : Bool) (a b : Choice) → (t ≡ true → Inside n a) → Inside n b → Inside n (cond t a b)
inside_tested n true a b first second = first refl
inside_tested n false a b first second = second

pub chosen_inside : (room : ℕ) (rule : Rule) (values : List ℕ) (value : ℕ) → Inside (length values) (choose room rule values value)
unfolding choose greedy_choice overflow_choice
chosen_inside room rule values value =
    inside_tested (length values) (ltb (beta_place rule value values) (length values)) _ _ (λ t. ltb-true _ _ t)
    (inside_tested (length values) (ltb (length values) room) _ _ (λ t. tt)
    (inside_tested (length values) (ltb (loser_at (values ++ value ∷ [])) (length values)) _ _ (λ t. ltb-true _ _ t) tt))

pub lost_inside : (room : ℕ) (rule : Rule) (values : List ℕ) (value place : ℕ) (kind : LossKind)
    → choose room rule values value ≡ Lose place kind → place < length values
lost_inside room rule values value place kind e = subst (Inside (length values)) e (chosen_inside room rule values value)
