-- One packet of a trace: the sendings before its slot, then its arrival, as one turn of a course.
use Prim.Native.Nat.{ℕ, zero, suc, ◌≤◌}
use mathlib.Core.Path.{◌≡◌, refl, sym, ap, subst, ◌∙◌}
use mathlib.Core.List.{List, [], ◌∷◌, ◌++◌}
use lib.ListN.{length}
use Rattle.model.specs.declared.Packet.{Packet}
use Rattle.model.specs.declared.Slot.{Slot}
use Rattle.model.specs.Packets.{Arrival, slots_until, following}
use Rattle.model.specs.Record.{Entry, Lists, enter, entered}
use Rattle.model.specs.Course.{Step, Decided, and_then, by_rule, send_oldest, slot_ends}
use Rattle.laws.specs.MostQueue.{turn}
use Rattle.laws.proofs.Agree.{ends_short}
use Rattle.steps.specs.declared.Window.{Window}
use Rattle.steps.specs.Window.{window_of}
use Rattle.steps.specs.Step.{Stepped, any_rule, sending, arriving, turning}

pub entered_both : (first second : List Entry) (lists : Lists) → entered (first ++ second) lists ≡ entered second (entered first lists)
unfolding entered
entered_both [] second lists = refl
entered_both (e ∷ first) second lists = entered_both first second (enter e lists)

pub sending_shorter : (now until : Slot) (queue : List Packet) → length (sending now until queue).next ≤ length queue
unfolding sending
sending_shorter now until queue = ends_short any_rule (slots_until now until) now queue

pub turned : (rule : List Packet → Packet → Decided) (now : Slot) (a : Arrival) (queue : List Packet) (before between after : Lists)
    (w r : Window) (numbers values numbers' values' : List ℕ)
    → Stepped (sending now a.slot queue) before w numbers values between
    → Stepped (arriving rule a (window_of w numbers values)) between r numbers' values' after
    → Stepped (turning rule now a queue) before r numbers' values' after
turned rule now a queue before between after w r numbers values numbers' values' S A =
    let next = (sending now a.slot queue).next in
    let B : Stepped (arriving rule a next) between r numbers' values' after =
    subst (λ (q : List Packet). Stepped (arriving rule a q) between r numbers' values' after) S.queue A in
    record {
      within = B.within;
      queue = B.queue;
      written =
          B.written
          ∙ ap (entered (arriving rule a next).entries) S.written
          ∙ sym (entered_both (sending now a.slot queue).entries (arriving rule a next).entries before);
    }

-- the ends of slots are the same whatever the rule
ends_any : (rule : List Packet → Packet → Decided) (n : ℕ) (now : Slot) (queue : List Packet) → slot_ends (by_rule any_rule) n now queue ≡ slot_ends (by_rule rule) n now queue
unfolding slot_ends
ends_any rule zero now queue = refl
ends_any rule (suc n) now [] = refl
ends_any rule (suc n) now (p ∷ queue) = ap (and_then (send_oldest now (p ∷ queue)).entries) (ends_any rule n (following now) queue)

pub sending_is : (rule : List Packet → Packet → Decided) (now until : Slot) (queue : List Packet)
    → sending now until queue ≡ slot_ends (by_rule rule) (slots_until now until) now queue
unfolding sending
sending_is rule now until queue = ends_any rule (slots_until now until) now queue

pub turning_is : (rule : List Packet → Packet → Decided) (now : Slot) (a : Arrival) (queue : List Packet) → turning rule now a queue ≡ turn (by_rule rule) now queue a
turning_is rule now a queue =
    ap (λ (s : Step (List Packet)). and_then s.entries (arriving rule a s.next)) (sending_is rule now a.slot queue)
