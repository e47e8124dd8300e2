-- What the promises on an arrival tell of the window's queue: after it the window holds the queue that it leaves, and the record's lists have its entries.
use Prim.Native.Nat.{ℕ, ◌+◌, ◌-◌, ◌≤◌}
use mathlib.Core.Path.{◌≡◌, refl, sym, ap, subst, ◌∙◌}
use mathlib.Core.Bool.{Bool, true, false, cond}
use mathlib.Core.List.{List, [], ◌∷◌, ◌++◌}
use native.Mathlib.Omega.{arith}
use lib.ListN.{length, length-append, length-map}
use lib.Dec.{ltb}
use borrow.Author.Tests.{ltb-true}
use Rattle.model.specs.declared.Packet.{Packet}
use Rattle.model.specs.Packets.{Arrival, values_of}
use Rattle.model.specs.Record.{Lists}
use Rattle.model.specs.Course.{Decided, held_if}
use Rattle.model.specs.Policies.Greedy.{without}
use Rattle.model.specs.declared.Rule.{Rule}
use Rattle.queue.specs.declared.Choice.{Choice}
use Rattle.queue.specs.declared.Choice.TheVariants.{Hold, Reject, Lose}
use Rattle.queue.specs.Choose.{choose, applied}
use Rattle.laws.specs.AtOnce.{at_once}
use Rattle.queue.proofs.Choose.{decided}
use Rattle.steps.specs.declared.Window.{Window}
use Rattle.steps.specs.Window.{window_of, Within, Holds}
use Rattle.steps.specs.Step.{Stepped, arriving}
use Rattle.steps.specs.Lent.{Lent, lent, placed, Moved, moved}
use Rattle.steps.proofs.Windows.{window_length}
use Rattle.steps.proofs.Placing.{placed_holds}
use Rattle.steps.proofs.Lending.{Held}
use Rattle.steps_arrive.specs.Arrive.{has_place, open_place, holding, decided_place, deciding, arriving_in}
use Rattle.steps_arrive.proofs.Arriving.{Inside, chosen_inside}
use Rattle.steps_arrive.proofs.Guarding.{place_within, place_free}
use Rattle.steps_arrive.proofs.Placing.{without_length}

module _ (w : Window) (numbers values : List ℕ) where
  abbrev all : Lent
  all = lent w numbers values

  abbrev queue : List Packet
  queue = window_of w numbers values

  module _ (free : has_place w numbers values ≡ true) where
    within : Within w numbers values
    within = place_within w numbers values free

    held : length queue ≡ w.tail - w.head
    held = window_length w numbers values within

    -- a queue with one packet more fits where it stands then
    open_fits : (p : Packet) → open_place all + length (queue ++ p ∷ []) ≤ length values
    open_fits p = go (ltb w.tail (length values)) refl
      where
        go : (t : Bool) → ltb w.tail (length values) ≡ t → cond t w.head 0 + length (queue ++ p ∷ []) ≤ length values
        go true e = omega (arith, length-append queue (p ∷ []), held, within.ordered, ltb-true w.tail (length values) e)
        go false e = omega (arith, length-append queue (p ∷ []), held, place_free w numbers values free)

    pub held_holds : (p : Packet) (r : Window) (numbers' values' : List ℕ) → lent r numbers' values' ≡ holding p all → Holds r numbers' values' (queue ++ p ∷ [])
    unfolding holding
    held_holds p r numbers' values' e =
        subst (λ (l : Lent). Held l (queue ++ p ∷ []))
        (sym (e ∙ ap (λ (t : Bool). cond t (placed (open_place all) (queue ++ p ∷ []) all) all) free))
        (placed_holds (open_place all) (queue ++ p ∷ []) all (open_fits p) within.same)

    -- and so does the queue after any decision
    decided_fits : (p : Packet) (choice : Choice) → Inside (length queue) choice
        → decided_place (applied choice queue p).decision all + length (applied choice queue p).queue ≤ length values
    decided_fits p Hold i = open_fits p
    decided_fits p Reject i = omega (arith, held, within.ordered, within.inside)
    decided_fits p (Lose place kind) i =
        let less = without_length w numbers values within place (omega (arith, held, i)) in
        omega (arith, length-append (without place queue) (p ∷ []), held, within.ordered, within.inside)

    decided_steps : (rule : List Packet → Packet → Decided) (a : Arrival) (choice : Choice) → Inside (length queue) choice
        → rule queue a.packet ≡ applied choice queue a.packet
        → (r : Lent) (before after : Lists) → moved r after ≡ deciding a (rule queue a.packet) all before
        → Stepped (arriving rule a queue) before r.window r.numbers r.values after
    decided_steps rule a choice inside same r before after e =
        let d = rule queue a.packet in
        let fits : decided_place d.decision all + length d.queue ≤ length values =
        subst (λ (k : Decided). decided_place k.decision all + length k.queue ≤ length values) (sym same) (decided_fits a.packet choice inside) in
        let holds : Held r d.queue =
        subst (λ (m : Moved). Held m.lent d.queue) (sym e) (placed_holds (decided_place d.decision all) d.queue all fits within.same) in
        record { within = holds.within; queue = holds.is; written = ap (λ (m : Moved). m.written) e }

    -- held, or rejected
    pub kept_steps : (keep : Bool) (a : Arrival) (before after : Lists) (r : Window) (numbers' values' : List ℕ)
        → moved (lent r numbers' values') after ≡ arriving_in (held_if keep) a all before
        → Stepped (arriving (held_if keep) a queue) before r numbers' values' after
    unfolding arriving_in
    kept_steps keep a before after r numbers' values' e =
        decided_steps (held_if keep) a (cond keep Hold Reject) (go keep) (same keep) (lent r numbers' values') before after
        (e ∙ ap (λ (t : Bool). cond t (deciding a (held_if keep queue a.packet) all before) (moved all before)) free)
      where
        go : (t : Bool) → Inside (length queue) (cond t Hold Reject)
        go true = tt
        go false = tt

        same : (t : Bool) → held_if t queue a.packet ≡ applied (cond t Hold Reject) queue a.packet
        same true = refl
        same false = refl

    pub arrived_steps : (room : ℕ) (rule : Rule) (a : Arrival) (before after : Lists) (r : Window) (numbers' values' : List ℕ)
        → moved (lent r numbers' values') after ≡ arriving_in (at_once room rule) a all before
        → Stepped (arriving (at_once room rule) a queue) before r numbers' values' after
    unfolding arriving_in
    arrived_steps room rule a before after r numbers' values' e =
        decided_steps (at_once room rule) a (choose room rule (values_of queue) a.packet.value)
        (subst (λ (n : ℕ). Inside n (choose room rule (values_of queue) a.packet.value)) (length-map queue (λ (p : Packet). p.value))
        (chosen_inside room rule (values_of queue) a.packet.value))
        (decided room rule queue a.packet) (lent r numbers' values') before after
        (e ∙ ap (λ (t : Bool). cond t (deciding a (at_once room rule queue a.packet) all before) (moved all before)) free)
