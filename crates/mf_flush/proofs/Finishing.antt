-- The end of a slot under MF: the marks, the flush and the sending make the policy's step. And the ends of slots, one after the other.
use Prim.Native.Nat.{ℕ, ◌+◌, ◌-◌, ◌≤◌, ◌<◌}
use mathlib.Core.Path.{◌≡◌, sym, ap, ◌∙◌}
use mathlib.Core.List.{List, ◌++◌}
use native.Mathlib.Omega.{arith}
use lib.ListN.{length}
use Rattle.model.specs.declared.PacketNumber.{PacketNumber}
use Rattle.model.specs.declared.Packet.{Packet}
use Rattle.model.specs.declared.Slot.{Slot}
use Rattle.std.specs.Prelude.{Some}
use Rattle.model.specs.declared.Fate.TheVariants as fates
use Rattle.model.specs.Record.{Lists, enter, entered}
use Rattle.model.specs.Course.{Step, Policy, send_oldest}
use Rattle.model.specs.declared.Marking.{Marking}
use Rattle.model.specs.Policies.MF.{Marked, marks_after, head_mark, flushed, unflushed, mf_policy}
use Rattle.steps.specs.declared.Window.{Window}
use Rattle.entry.specs.Entry.{entry}
use Rattle.steps.specs.Window.{window_of, Within, oldest_of}
use Rattle.steps.specs.Step.{Stepped}
use Rattle.mf_marks.specs.Mark.{beside}
use Rattle.mf_flush.specs.Flush.{flushing, Finished, finishing, ending}
use Rattle.steps.proofs.Windows.{window, window_length, oldest_sent, oldest_none}
use Rattle.steps.proofs.Turning.{entered_both}
use Rattle.mf_flush.proofs.Ending.{Ending, Ended, ending_past, ending_idle, ending_turn}

module _ (slot : Slot) (head tail : ℕ) (numbers values : List ℕ) (W : Within (window head tail) numbers values) (before : Lists) where
  pub sent_oldest : (p : Packet) → oldest_of (window_of (window head tail) numbers values) ≡ Some p
      → (after : Lists) → after ≡ enter (entry p.number fates.Sent slot (record { 0 = 0 })) before
      → (head < tail) × Stepped (send_oldest slot (window_of (window head tail) numbers values)) before (window (head + 1) tail) numbers values after
  unfolding entered
  sent_oldest p sent after a =
      let first = oldest_sent head tail numbers values W p sent in
      let some : head < tail = first.0 in (
        some,
        record {
          within = record { ordered = omega arith; inside = W.inside; same = W.same };
          queue = sym (ap (λ (queue : List Packet). (send_oldest slot queue).next) first.1);
          written = a ∙ sym (ap (λ (queue : List Packet). entered (send_oldest slot queue).entries before) first.1);
        },
      )

  pub sent_none : ((p : Packet) → oldest_of (window_of (window head tail) numbers values) ≡ Some p → ⊥)
      → Stepped (send_oldest slot (window_of (window head tail) numbers values)) before (window head tail) numbers values before
  unfolding entered
  sent_none h =
      let none = oldest_none head tail numbers values W h in
      record {
        within = W;
        queue = none ∙ sym (ap (λ (queue : List Packet). (send_oldest slot queue).next) none);
        written = sym (ap (λ (queue : List Packet). entered (send_oldest slot queue).entries before) none);
      }

module _ (room : ℕ) (M : Marking) (slots : List ℕ) (slot : Slot) (queue : List Packet) (marks : List ℕ) where
  -- the marks, the flush by the head's mark and the sending of what stays make the end of a slot
  pub finished : (marks' : List ℕ) → marks' ≡ marks_after room M slots slot (beside queue marks)
      → (m : PacketNumber) → m ≡ head_mark marks' queue
      → (before between after : Lists) (left w : Window) (numbers values : List ℕ)
      → Stepped (flushing slot m marks' queue) before left numbers values between
      → Stepped (send_oldest slot (window_of left numbers values)) between w numbers values after
      → Finished (finishing room M slots slot (beside queue marks)) before w numbers values marks' after
  unfolding finishing
  finished marks' marked m by-head before between after left w numbers values F S =
      let sending : PacketNumber → List ℕ → List Packet → Step Marked = λ k ms stay.
      let sent = send_oldest slot stay in
      record { entries = flushed slot k ms queue ++ sent.entries; next = beside sent.next ms }
      in
      let step : sending m marks' (window_of left numbers values) ≡ finishing room M slots slot (beside queue marks) =
      ap (sending m marks') F.queue
      ∙ ap (λ (k : PacketNumber). sending k marks' (unflushed k marks' queue)) by-head
      ∙ ap (λ (ms : List ℕ). sending (head_mark ms queue) ms (unflushed (head_mark ms queue) ms queue)) marked
      in
      let sent = send_oldest slot (window_of left numbers values) in
      record {
        within = S.within;
        state = ap (λ (held : List Packet). beside held marks') S.queue ∙ ap (λ (s : Step Marked). s.next) step;
        written =
            S.written
            ∙ ap (entered sent.entries) F.written
            ∙ sym (entered_both (flushed slot m marks' queue) sent.entries before)
            ∙ ap (λ (s : Step Marked). entered s.entries before) step;
      }

module _ (room : ℕ) (M : Marking) (slots : List ℕ) (until slot₀ : ℕ) (s₀ : Marked) (before : Lists) where
  abbrev P : Policy Marked
  P = mf_policy room M slots

  abbrev at : ℕ → Slot
  at slot = record { 0 = slot }

  -- what is left of the ends of slots, from a window and its marks
  pub record Left (slot head tail : ℕ) (numbers values marks : List ℕ) (now : Lists) : Type 0 where
    pub within : Within (window head tail) numbers values
    pub ends : Ending P until slot₀ s₀ before slot (beside (window_of (window head tail) numbers values) marks) now

  module _ (slot head tail : ℕ) (numbers values marks : List ℕ) (now : Lists) (L : Left slot head tail numbers values marks now) where
    abbrev state : Marked
    state = beside (window_of (window head tail) numbers values) marks

    held : length (window_of (window head tail) numbers values) ≡ tail - head
    held = window_length (window head tail) numbers values L.within

    pub left_turn : slot < until → head < tail
        → (w : Window) (numbers' values' marks' : List ℕ) (after : Lists) → Finished (finishing room M slots (at slot) state) now w numbers' values' marks' after
        → Left (slot + 1) w.head w.tail numbers' values' marks' after
    unfolding finishing
    left_turn more some w numbers' values' marks' after F =
        record {
          within = F.within;
          ends = ending_turn P until slot₀ s₀ before slot state now L.ends more (omega (arith, held)) (beside (window_of w numbers' values') marks') after F.state F.written;
        }

    all_ended : Ended P until slot₀ s₀ before state now → Finished (ending room M slots (at slot₀) (at until) s₀) before (window head tail) numbers values marks now
    unfolding ending
    all_ended E = record { within = L.within; state = E.state; written = E.written }

    pub left_past : until ≤ slot → Finished (ending room M slots (at slot₀) (at until) s₀) before (window head tail) numbers values marks now
    left_past h = all_ended (ending_past P until slot₀ s₀ before slot state now L.ends h)

    pub left_idle : tail ≤ head → Finished (ending room M slots (at slot₀) (at until) s₀) before (window head tail) numbers values marks now
    left_idle h = all_ended (ending_idle P until slot₀ s₀ before slot state now L.ends (omega (arith, held)))
