-- An arrival, to the last entry of the lists: what each choice leaves, and that the choice made on the window's values is the rule's decision on its queue.
use Prim.Native.Nat.{ℕ, ◌+◌, ◌-◌, ◌<◌}
use mathlib.Core.Path.{◌≡◌, sym, ap, ap₂, subst, ◌∙◌}
use mathlib.Core.List.{List, [], ◌∷◌, ◌++◌}
use native.Mathlib.Omega.{arith}
use lib.ListN.{length, get_or, length-append}
use lib.Seq.{length-sets}
use borrow.Author.Tests.{lt-ltb}
use Rattle.model.specs.declared.Packet.{Packet}
use Rattle.model.specs.declared.Slot.{Slot}
use Rattle.model.specs.declared.Fate.{Fate}
use Rattle.model.specs.declared.Fate.TheVariants as fates
use Rattle.model.specs.declared.LossKind.{LossKind}
use Rattle.model.specs.Packets.{values_of}
use Rattle.model.specs.Record.{Lists, enter, entered, loss_fate}
use Rattle.model.specs.Course.{Decided}
use Rattle.model.specs.Policies.Greedy.{without}
use Rattle.model.specs.declared.Rule.{Rule}
use Rattle.queue.specs.declared.Choice.{Choice}
use Rattle.queue.specs.declared.Choice.TheVariants.{Hold, Reject, Lose}
use Rattle.queue.specs.Choose.{choose, applied}
use Rattle.laws.specs.AtOnce.{at_once}
use Rattle.queue.proofs.Choose.{decided}
use Rattle.entry.specs.Entry.{entry}
use Rattle.steps.specs.declared.Window.{Window}
use Rattle.steps.specs.Window.{part, window_of, Within}
use Rattle.steps.specs.Step.{arrival}
use Rattle.steps.specs.Lent.{Lent, lent, queue_in, placed, Moved, moved}
use Rattle.steps.proofs.Windows.{window_length, window_values, window_at}
use Rattle.steps.proofs.Placing.{placed_holds, placed_over, placed_own}
use Rattle.steps.proofs.Lending.{Held}
use Rattle.steps_arrive.specs.Arrive.{open_place, deciding}
use Rattle.steps_arrive.proofs.Placing.{without_length}

module _ (w : Window) (numbers values : List ℕ) (W : Within w numbers values) where
  abbrev all : Lent
  all = lent w numbers values

  abbrev queue : List Packet
  queue = window_of w numbers values

  -- what a loss leaves has room for one more
  module _ (place : ℕ) (inside : w.head + place < w.tail) (rest : Lent) (lost : rest ≡ placed w.head (without place queue) all) where
    lost_short : w.head + length (without place queue) < length values
    lost_short = omega (arith, window_length w numbers values W, without_length w numbers values W place inside, W.inside)

    pub lost_holds : Held rest (without place queue)
    lost_holds =
        subst (λ (l : Lent). Held l (without place queue)) (sym lost)
        (placed_holds w.head (without place queue) all (omega (arith, lost_short)) W.same)

    lost_length : length rest.values ≡ length values
    unfolding placed
    lost_length = ap (λ (l : Lent). length l.values) lost ∙ length-sets values w.head (values_of (without place queue))

    lost_tail : rest.window.tail ≡ w.head + length (without place queue)
    unfolding placed
    lost_tail = ap (λ (l : Lent). l.window.tail) lost

    lost_head : rest.window.head ≡ w.head
    unfolding placed
    lost_head = ap (λ (l : Lent). l.window.head) lost

    pub lost_free : rest.window.tail - rest.window.head < length rest.values
    lost_free = omega (arith, lost_short, lost_length, lost_tail)

    lost_place : open_place rest ≡ w.head
    lost_place = rw (lt-ltb rest.window.tail (length rest.values) (omega (arith, lost_short, lost_length, lost_tail))) lost_head

    -- the arrival behind what the loss leaves
    pub lost_held : (p : Packet) (r : Lent) → r ≡ placed (open_place rest) (queue_in rest ++ p ∷ []) rest → r ≡ placed w.head (without place queue ++ p ∷ []) all
    lost_held p r e =
        let longer = length-append (without place queue) (p ∷ []) in
        e
        ∙ ap₂ (λ (k : ℕ) (q : List Packet). placed k (q ++ p ∷ []) rest) lost_place lost_holds.is
        ∙ ap (placed w.head (without place queue ++ p ∷ [])) lost
        ∙ placed_over w.head (without place queue) all (without place queue ++ p ∷ []) (omega arith)

  module _ (slot : Slot) (p : Packet) (before : Lists) where
    abbrev Leaves : Moved → Decided → Type 0
    Leaves m d = m ≡ deciding (arrival slot p) d all before

    pub held_in_lem : (r : Lent) → r ≡ placed (open_place all) (queue ++ p ∷ []) all → Leaves (moved r before) (applied Hold queue p)
    unfolding entered
    held_in_lem r e = ap (λ (l : Lent). moved l before) e

    pub rejected_in : (after : Lists) → after ≡ enter (entry p.number fates.Rejected slot p.number) before → Leaves (moved all after) (applied Reject queue p)
    unfolding entered
    rejected_in after e = ap₂ moved (sym (placed_own w numbers values W)) e

    pub replaced_in : (place : ℕ) (kind : LossKind) → w.head + place < w.tail
        → (fate : Fate) → fate ≡ loss_fate kind
        → (after : Lists) → after ≡ enter (entry (record { 0 = get_or numbers (w.head + place) 0 }) fate slot p.number) before
        → (rest : Lent) → rest ≡ placed w.head (without place queue) all
        → (r : Lent) → r ≡ placed (open_place rest) (queue_in rest ++ p ∷ []) rest
        → Leaves (moved r after) (applied (Lose place kind) queue p)
    unfolding entered
    replaced_in place kind inside fate f after e rest lost r h =
        ap₂ moved (lost_held place inside rest lost p r h)
        (e ∙ ap₂ (λ (q : Packet) (k : Fate). enter (entry q.number k slot p.number) before) (sym (window_at w numbers values W place inside)) f)

    -- the choice made on the window's values is the rule's decision on its queue
    pub by_rule_lem : (room : ℕ) (rule : Rule) (choice : Choice) → choose room rule (part w values) p.value ≡ choice
        → (m : Moved) → Leaves m (applied choice queue p) → Leaves m (at_once room rule queue p)
    by_rule_lem room rule choice e m d =
        let made : choose room rule (values_of queue) p.value ≡ choice = ap (λ (vs : List ℕ). choose room rule vs p.value) (window_values w numbers values W) ∙ e in
        d ∙ ap (λ (k : Decided). deciding (arrival slot p) k all before) (sym (decided room rule queue p ∙ ap (λ (k : Choice). applied k queue p) made))
