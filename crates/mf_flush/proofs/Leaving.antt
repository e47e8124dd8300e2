-- The ends of slots under MF, to the last entry of the lists: one end of a slot, then those that are left to come, as `ends_in` goes through them; and what
-- the window holds in the end is the queue that the policy's ends of slots leave, for a flush leaves no queue longer and a sending takes the oldest.
use Prim.Native.Nat.{ℕ, zero, suc, ◌+◌, ◌-◌, ◌≤◌, ◌<◌}
use mathlib.Core.Path.{◌≡◌, refl, sym, ap, ap₂, subst, ◌∙◌}
use mathlib.Core.Bool.{Bool, true, false, cond}
use mathlib.Core.List.{List, [], ◌∷◌}
use native.Mathlib.Numerals.{add-one}
use native.Mathlib.Omega.{arith}
use lib.ListN.{length, drop}
use Rattle.model.specs.declared.Packet.{Packet}
use Rattle.model.specs.declared.PacketNumber.{PacketNumber}
use Rattle.model.specs.declared.Slot.{Slot}
use Rattle.model.specs.Packets.{slots_until, following}
use Rattle.model.specs.Record.{Lists, entered}
use Rattle.model.specs.Course.{send_oldest, slot_ends}
use Rattle.model.specs.declared.Marking.{Marking}
use Rattle.model.specs.Policies.MF.{Marked, goes_with, marks_after, head_mark, unflushed, mf_policy}
use Rattle.steps.specs.declared.Window.{Window}
use Rattle.steps.specs.Window.{window_of, Within}
use Rattle.steps.specs.Guarded.{lies_within}
use Rattle.steps.specs.Step.{Stepped}
use Rattle.steps.specs.Lent.{Lent, lent, placed, leaving}
use Rattle.steps.proofs.Windows.{window, window_length}
use Rattle.steps.proofs.Guarding.{within_lies}
use Rattle.steps.proofs.Placing.{same_lent, placed_holds}
use Rattle.steps.proofs.Lending.{Held, left_holds}
use Rattle.mf_marks.specs.Mark.{beside}
use Rattle.mf_flush.specs.Flush.{Finished, finishing, ending, end_in, where_held, ends_in, MovedMF, moved_mf, ending_in}

module _ (room : ℕ) (M : Marking) (slots : List ℕ) where
  abbrev at : ℕ → Slot
  at slot = record { 0 = slot }

  -- the flush, and the sending of what it leaves, make the end of a slot
  pub end_left : (slot : Slot) (queue : List Packet) (marks marks' : List ℕ) → marks' ≡ marks_after room M slots slot (beside queue marks)
      → (m : PacketNumber) → m ≡ head_mark marks' queue
      → (l : Lent) (left w : Window) (numbers values : List ℕ) → lent left numbers values ≡ placed l.window.head (unflushed m marks' queue) l
      → (between after : Lists) → window_of left numbers values ≡ unflushed m marks' queue
      → Stepped (send_oldest slot (window_of left numbers values)) between w numbers values after → w.tail ≡ left.tail
      → lent w numbers values ≡ end_in room M slots slot (beside queue marks) l
  end_left slot queue marks marks' marked m by-head l left w numbers values F between after stays S same =
      let sent = window_length w numbers values S.within in
      let next = ap (λ (q : List Packet). (send_oldest slot q).next) stays in
      let head : w.head ≡ left.tail - length (send_oldest slot (unflushed m marks' queue)).next =
      omega (arith, sent, ap length (S.queue ∙ next), S.within.ordered, same) in
      same_lent (ap₂ window head same) refl refl
      ∙ ap (leaving (send_oldest slot (unflushed m marks' queue)).next) F
      ∙ ap (λ (k : PacketNumber). leaving (send_oldest slot (unflushed k marks' queue)).next (placed l.window.head (unflushed k marks' queue) l)) by-head
      ∙ ap (λ (ms : List ℕ). leaving (send_oldest slot (unflushed (head_mark ms queue) ms queue)).next (placed l.window.head (unflushed (head_mark ms queue) ms queue) l)) marked

  none_held : (queue : List Packet) (quiet busy : Lent) → length queue ≡ 0 → where_held queue quiet busy ≡ quiet
  none_held [] quiet busy h = refl
  none_held (p ∷ queue) quiet busy h = absurd (omega arith)

  some_held : (queue : List Packet) (quiet busy : Lent) → 0 < length queue → where_held queue quiet busy ≡ busy
  some_held [] quiet busy h = absurd (omega arith)
  some_held (p ∷ queue) quiet busy h = refl

  module _ (until : ℕ) where
    -- what is left of the ends of slots
    abbrev pub ends : ℕ → Marked → Lent → Lent
    ends slot s l = ends_in room M slots (slots_until (at slot) (at until)) (at slot) s l

    pub ends_past : (slot : ℕ) (s : Marked) (l : Lent) → until ≤ slot → ends slot s l ≡ l
    unfolding ends_in
    ends_past slot s l h =
        let none : until - slot ≡ 0 = omega arith in
        rw none refl

    pub ends_idle : (slot : ℕ) (s : Marked) (l : Lent) → length s.queue ≡ 0 → ends slot s l ≡ l
    unfolding ends_in
    ends_idle slot s l h = go (until - slot)
      where
        go : (n : ℕ) → ends_in room M slots n (at slot) s l ≡ l
        go zero = refl
        go (suc n) = none_held s.queue _ _ h

    pub ends_turn : (slot : ℕ) (s : Marked) (l : Lent) → slot < until → 0 < length s.queue
        → ends slot s l ≡ ends (slot + 1) (finishing room M slots (at slot) s).next (end_in room M slots (at slot) s l)
    unfolding ends_in
    ends_turn slot s l h some =
        let more : until - slot ≡ suc (until - (slot + 1)) = omega arith in
        rw (more, add-one slot) (some_held s.queue _ _ some)

  -- a flush leaves no queue longer
  unflushed_shorter : (m : PacketNumber) (marks : List ℕ) (queue : List Packet) → length (unflushed m marks queue) ≤ length queue
  unfolding unflushed
  unflushed_shorter m marks [] = omega arith
  unflushed_shorter m marks (p ∷ queue) = go (goes_with m marks p) (unflushed_shorter m marks queue)
    where
      go : (t : Bool) → length (unflushed m marks queue) ≤ length queue → length (cond t (unflushed m marks queue) (p ∷ unflushed m marks queue)) ≤ suc (length queue)
      go true h = omega arith
      go false h = omega arith

  sends_first : (slot : Slot) (queue : List Packet) → (send_oldest slot queue).next ≡ drop 1 queue
  sends_first slot [] = refl
  sends_first slot (p ∷ queue) = refl

  end_holds : (now : Slot) (s : Marked) (l : Lent) → Held l s.queue → Held (end_in room M slots now s l) (finishing room M slots now s).next.queue
  unfolding finishing
  end_holds now s l H =
      let marks = marks_after room M slots now s in
      let left = unflushed (head_mark marks s.queue) marks s.queue in
      let fits : l.window.head + length left ≤ length l.values =
      omega (arith, unflushed_shorter (head_mark marks s.queue) marks s.queue, ap length H.is, window_length l.window l.numbers l.values H.within, H.within.ordered, H.within.inside) in
      subst (λ (q : List Packet). Held (leaving q (placed l.window.head left l)) q) (sym (sends_first now left))
      (left_holds (placed l.window.head left l) left (placed_holds l.window.head left l fits H.within.same) 1)

  ends_hold : (n : ℕ) (now : Slot) (queue : List Packet) (marks : List ℕ) (l : Lent) → Held l queue
      → Held (ends_in room M slots n now (beside queue marks) l) (slot_ends (mf_policy room M slots) n now (beside queue marks)).next.queue
  unfolding ends_in slot_ends finishing
  ends_hold zero now queue marks l H = H
  ends_hold (suc n) now [] marks l H = H
  ends_hold (suc n) now (p ∷ queue) marks l H =
      let next = (finishing room M slots now (beside (p ∷ queue) marks)).next in
      ends_hold n (following now) next.queue next.marks (end_in room M slots now (beside (p ∷ queue) marks) l) (end_holds now (beside (p ∷ queue) marks) l H)

  module _ (now until : Slot) (w : Window) (numbers values marks : List ℕ) (before : Lists) where
    abbrev all : Lent
    all = lent w numbers values

    abbrev state : Marked
    state = beside (window_of w numbers values) marks

    abbrev done : MovedMF
    done =
        let step = ending room M slots now until state in
        moved_mf (ends_in room M slots (slots_until now until) now state all) step.next.marks (entered step.entries before)

    -- the test of the window decides what is left
    pub ends_kept : (v : Window) (numbers' values' marks' : List ℕ) (after : Lists) → lies_within w numbers values ≡ true
        → Finished (ending room M slots now until state) before v numbers' values' marks' after
        → lent v numbers' values' ≡ ends_in room M slots (slots_until now until) now state all
        → moved_mf (lent v numbers' values') marks' after ≡ ending_in room M slots now until all marks before
    unfolding ending_in
    ends_kept v numbers' values' marks' after e F exact =
        rw e
        (ap₂ (λ (l : Lent) (ms : List ℕ). moved_mf l ms after) exact (ap (λ (s : Marked). s.marks) F.state)
        ∙ ap (moved_mf (ends_in room M slots (slots_until now until) now state all) (ending room M slots now until state).next.marks) F.written)

    pub none_ends : lies_within w numbers values ≡ false → moved_mf all marks before ≡ ending_in room M slots now until all marks before
    unfolding ending_in
    none_ends e = rw e refl

    -- what the promise tells of the queue, the marks and the record
    pub ends_finish : Within w numbers values → (v : Window) (numbers' values' marks' : List ℕ) (after : Lists)
        → moved_mf (lent v numbers' values') marks' after ≡ ending_in room M slots now until all marks before
        → Finished (ending room M slots now until state) before v numbers' values' marks' after
    unfolding ending_in ending
    ends_finish W v numbers' values' marks' after told =
        let e : moved_mf (lent v numbers' values') marks' after ≡ done = told ∙ ap (λ (t : Bool). cond t done (moved_mf all marks before)) (within_lies w numbers values W) in
        let H : Held (lent v numbers' values') (ending room M slots now until state).next.queue =
        subst (λ (m : MovedMF). Held m.lent (ending room M slots now until state).next.queue) (sym e)
        (ends_hold (slots_until now until) now (window_of w numbers values) marks all (record { within = W; is = refl })) in
        record {
          within = H.within;
          state = ap₂ beside H.is (ap (λ (m : MovedMF). m.marks) e);
          written = ap (λ (m : MovedMF). m.written) e;
        }
