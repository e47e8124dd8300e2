-- What the promise on sendings tells of the window's queue: after them it holds the queue that they leave, and the record's lists have their entries.
use Prim.Native.Nat.{ℕ, zero, suc, ◌+◌, ◌-◌, ◌≤◌}
use mathlib.Core.Path.{◌≡◌, refl, sym, ap, ap₂, subst, ◌∙◌}
use mathlib.Core.Bool.{Bool, true, false, cond}
use mathlib.Core.List.{List, [], ◌∷◌}
use native.Mathlib.Omega.{arith}
use lib.ListN.{length, take, drop, length-drop, drop_of_length-le}
use lib.Seq.{drop-drop, drop-length}
use lib.Dec.{ltb}
use borrow.Author.Tests.{ltb-true, ltb-false}
use Rattle.model.specs.declared.Packet.{Packet}
use Rattle.model.specs.declared.Slot.{Slot}
use Rattle.model.specs.Packets.{slots_until, following}
use Rattle.model.specs.Port.{packets_of}
use Rattle.model.specs.Record.{Lists, entered}
use Rattle.model.specs.Course.{by_rule, slot_ends}
use Rattle.queue.proofs.Packets.{packets_drop}
use Rattle.steps.specs.declared.Window.{Window}
use Rattle.steps.specs.Window.{part, window_of, Within, Holds}
use Rattle.steps.specs.Step.{Stepped, any_rule, sending}
use Rattle.steps.specs.Lent.{Lent, lent, Moved, moved, leaving, sending_in}
use Rattle.steps.proofs.Windows.{window, window_length, take_drop}
use Rattle.steps.proofs.Guarding.{within_lies}

abbrev pub Held : Lent → List Packet → Type 0
Held l queue = Holds l.window l.numbers l.values queue

-- the ends of n slots send the n oldest, as far as packets are held
ends_drop : (n : ℕ) (now : Slot) (queue : List Packet) → (slot_ends (by_rule any_rule) n now queue).next ≡ drop n queue
unfolding slot_ends
ends_drop zero now queue = refl
ends_drop (suc n) now [] = refl
ends_drop (suc n) now (p ∷ queue) = ends_drop n (following now) queue

module _ (w : Window) (numbers values : List ℕ) where
  abbrev all : Lent
  all = lent w numbers values

  abbrev queue : List Packet
  queue = window_of w numbers values

  module _ (W : Within w numbers values) where
    -- the window without its oldest k packets
    window_behind : (k : ℕ) → w.head + k ≤ w.tail → window_of (window (w.head + k) w.tail) numbers values ≡ drop k queue
    unfolding window_of
    window_behind k h = ap₂ packets_of (behind numbers) (behind values) ∙ packets_drop k (part w numbers) (part w values)
      where
        behind : (list : List ℕ) → part (window (w.head + k) w.tail) list ≡ drop k (part w list)
        behind list =
            let m = w.tail - (w.head + k) in
            let whole : k + m ≡ w.tail - w.head = omega arith in
            ap (take m) (sym (drop-drop k w.head list))
            ∙ take_drop m k (drop w.head list)
            ∙ ap (λ (n : ℕ). drop k (take n (drop w.head list))) whole

    -- as many packets as are left of it, before its end
    window_left : (n : ℕ) → window_of (window (w.tail - length (drop n queue)) w.tail) numbers values ≡ drop n queue
    window_left n = go (ltb n (length queue)) refl
      where
        is : length queue ≡ w.tail - w.head
        is = window_length w numbers values W

        to : (k : ℕ) → w.tail - length (drop n queue) ≡ w.head + k → w.head + k ≤ w.tail → drop k queue ≡ drop n queue
            → window_of (window (w.tail - length (drop n queue)) w.tail) numbers values ≡ drop n queue
        to k e h same = ap (λ (i : ℕ). window_of (window i w.tail) numbers values) e ∙ window_behind k h ∙ same

        go : (t : Bool) → ltb n (length queue) ≡ t → window_of (window (w.tail - length (drop n queue)) w.tail) numbers values ≡ drop n queue
        go true f =
            let some = ltb-true n (length queue) f in
            to n (omega (arith, length-drop n queue, is, W.ordered)) (omega (arith, is, W.ordered)) refl
        go false f =
            let none = ltb-false n (length queue) f in
            to (length queue) (omega (arith, length-drop n queue, is, W.ordered)) (omega (arith, is, W.ordered))
            (drop-length queue ∙ sym (drop_of_length-le queue none))

    -- that is the window that sendings leave
    left_window : (n : ℕ) → Held (leaving (drop n queue) all) (drop n queue)
    left_window n = record { within = record { ordered = omega arith; inside = W.inside; same = W.same }; is = window_left n }

    pub sent_steps : (now until : Slot) (before after : Lists) (r : Window) → moved (lent r numbers values) after ≡ sending_in now until all before
        → Stepped (sending now until queue) before r numbers values after
    unfolding sending_in sending
    sent_steps now until before after r e =
        let step = sending now until queue in
        let done : moved (lent r numbers values) after ≡ moved (leaving step.next all) (entered step.entries before) =
        e ∙ ap (λ (t : Bool). cond t (moved (leaving step.next all) (entered step.entries before)) (moved all before)) (within_lies w numbers values W) in
        let at : r ≡ window (w.tail - length step.next) w.tail = ap (λ (m : Moved). m.lent.window) done in
        let next : step.next ≡ drop (slots_until now until) queue = ends_drop (slots_until now until) now queue in
        let there : Within (window (w.tail - length step.next) w.tail) numbers values = record { ordered = omega arith; inside = W.inside; same = W.same } in
        record {
          within = subst (λ (v : Window). Within v numbers values) (sym at) there;
          queue =
              ap (λ (v : Window). window_of v numbers values) (at ∙ ap (λ (q : List Packet). window (w.tail - length q) w.tail) next)
              ∙ window_left (slots_until now until)
              ∙ sym next;
          written = ap (λ (m : Moved). m.written) done;
        }

pub left_holds : (l : Lent) (queue : List Packet) → Held l queue → (n : ℕ) → Held (leaving (drop n queue) l) (drop n queue)
left_holds l queue H n =
    subst (λ (q : List Packet). Held (leaving (drop n q) l) (drop n q)) H.is (left_window l.window l.numbers l.values H.within n)
