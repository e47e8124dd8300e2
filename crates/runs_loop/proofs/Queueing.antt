-- Where nothing is kept beside the queue, the queue is the state: what is told of a step of the queue is what the run asks of a policy.
use Rattle.std.proofs.Common.{◌≡◌, ℕ, ◌-◌, false, refl, ap₂, ◌≤◌, List, length, ap, arith}
use Rattle.model.specs.declared.Packet.{Packet}
use Rattle.model.specs.declared.Slot.{Slot}
use Rattle.model.specs.Course.{Step, Decided, by_rule, slot_ends}
use Rattle.model.specs.Packets.{Arrival, slots_until}
use Rattle.model.specs.Record.{Lists}
use Rattle.steps.specs.declared.Window.{Window}
use Rattle.steps.specs.Guarded.{Guarded, lies_within}
use Rattle.steps.specs.Lent.{lent, moved, sending_in}
use Rattle.steps.specs.Step.{Stepped, sending}
use Rattle.steps.specs.Window.{Within, window_of}
use Rattle.steps.proofs.Guarding.{lies_within_lem}
use Rattle.steps.proofs.Lending.{sent_steps}
use Rattle.steps.proofs.Turning.{sending_is, sending_shorter}
use Rattle.steps.proofs.Windows.{window_length}
use Rattle.steps_arrive.specs.Arrive.{has_place, holding, arriving_in}
use Rattle.runs_loop.specs.Done.{Done}

pub by_queue : {step : Step (List Packet)} {before : Lists} {w : Window} {numbers values : List ℕ} {after : Lists}
    → Stepped step before w numbers values after → Done (λ (queue : List Packet). queue) step before w numbers values after
by_queue S = record { within = S.within; held = S.queue; written = S.written }

module _ (w : Window) (numbers values : List ℕ) (before after : Lists) (r : Window) where
  abbrev as_before : List ℕ → List ℕ → Type 0
  as_before numbers' values' = moved (lent r numbers' values') after ≡ moved (lent w numbers values) before

  -- the ends of slots, which only send
  module _ (now until : Slot) (told : moved (lent r numbers values) after ≡ sending_in now until (lent w numbers values) before) where
    sent : Within w numbers values → Stepped (sending now until (window_of w numbers values)) before r numbers values after
    sent W = sent_steps w numbers values W now until before after r told

    none_sent : lies_within w numbers values ≡ false → as_before numbers values
    unfolding sending_in
    none_sent f = rw f at told

    sent_done : (rule : List Packet → Packet → Decided) → Within w numbers values
        → Done (λ (queue : List Packet). queue) (slot_ends (by_rule rule) (slots_until now until) now (window_of w numbers values)) before r numbers values after
    sent_done rule W = rw (sending_is rule now until (window_of w numbers values)) at (by_queue (sent W))

    sent_shorter : Within w numbers values → r.tail - r.head ≤ w.tail - w.head
    sent_shorter W =
        omega (
          arith,
          window_length w numbers values W,
          window_length r numbers values (sent W).within,
          ap length (sent W).queue,
          sending_shorter now until (window_of w numbers values),
        )

    pub sends : (rule : List Packet → Packet → Decided)
        → Guarded (lies_within w numbers values)
        (Done (λ (queue : List Packet). queue) (slot_ends (by_rule rule) (slots_until now until) now (window_of w numbers values)) before r numbers values after
        × (r.tail - r.head ≤ w.tail - w.head))
        (as_before numbers values × ((queue : List Packet) → queue ≡ queue))
    sends rule =
        record {
          passed = λ t. let W = lies_within_lem w numbers values t in (sent_done rule W, sent_shorter W);
          failed = λ f. (none_sent f, λ queue. refl);
        }

  -- an arrival for which no place is free
  module _ (numbers' values' : List ℕ) (none : has_place w numbers values ≡ false) where
    pub none_arrived : (rule : List Packet → Packet → Decided) (a : Arrival) → moved (lent r numbers' values') after ≡ arriving_in rule a (lent w numbers values) before
        → as_before numbers' values'
    unfolding arriving_in
    none_arrived rule a told = rw none at told

    pub none_held : (p : Packet) → lent r numbers' values' ≡ holding p (lent w numbers values) → after ≡ before → as_before numbers' values'
    unfolding holding
    none_held p told same = ap₂ moved (rw none at told) same
