-- What is told of MF's steps, on a queue beside marks, is what the run asks of a policy.
use Rattle.std.proofs.Common.{◌≡◌, false, ℕ, ◌-◌, ◌≤◌, List, length, ap, arith}
use Rattle.model.specs.declared.Marking.{Marking}
use Rattle.model.specs.declared.Packet.{Packet}
use Rattle.model.specs.declared.Slot.{Slot}
use Rattle.model.specs.Course.{slot_ends}
use Rattle.model.specs.Packets.{Arrival, slots_until}
use Rattle.model.specs.Policies.Greedy.{greedy_rule}
use Rattle.model.specs.Policies.MF.{Marked, mf_policy}
use Rattle.model.specs.Record.{Lists}
use Rattle.laws.proofs.Conserving.{conserving_mf, slot_ends_shorter}
use Rattle.steps.specs.declared.Window.{Window}
use Rattle.steps.specs.Guarded.{Guarded, lies_within}
use Rattle.steps.specs.Lent.{lent, moved}
use Rattle.steps.specs.Step.{Stepped, arriving}
use Rattle.steps.specs.Window.{Within, window_of}
use Rattle.steps.proofs.Guarding.{lies_within_lem}
use Rattle.steps.proofs.Windows.{window_length}
use Rattle.mf_marks.specs.Mark.{beside}
use Rattle.mf_flush.specs.Flush.{Finished, ending, ending_in, MovedMF, moved_mf}
use Rattle.mf_flush.proofs.Leaving.{ends_finish}
use Rattle.runs_loop.specs.Done.{Done}

module _ (room : ℕ) (M : Marking) (slots : List ℕ) (w : Window) (numbers values marks : List ℕ) (before after : Lists)
    (r : Window) (numbers' values' : List ℕ) where
  -- an arrival leaves the marks
  pub arrival_done : (a : Arrival) → Stepped (arriving (greedy_rule room) a (window_of w numbers values)) before r numbers' values' after
      → Done (λ (queue : List Packet). beside queue marks) ((mf_policy room M slots).arrive a (beside (window_of w numbers values) marks)) before r numbers' values' after
  arrival_done a S = record { within = S.within; held = ap (λ (queue : List Packet). beside queue marks) S.queue; written = S.written }

  module _ (marks' : List ℕ) (now until : Slot)
      (told : moved_mf (lent r numbers' values') marks' after ≡ ending_in room M slots now until (lent w numbers values) marks before) where
    ended : Within w numbers values → Finished (ending room M slots now until (beside (window_of w numbers values) marks)) before r numbers' values' marks' after
    ended W = ends_finish room M slots now until w numbers values marks before W r numbers' values' marks' after told

    ends_done : Within w numbers values
        → Done (λ (queue : List Packet). beside queue marks') (slot_ends (mf_policy room M slots) (slots_until now until) now (beside (window_of w numbers values) marks))
        before r numbers' values' after
    unfolding ending
    ends_done W = let F = ended W in record { within = F.within; held = F.state; written = F.written }

    ends_shorter : Within w numbers values → r.tail - r.head ≤ w.tail - w.head
    ends_shorter W =
        omega (
          arith,
          window_length w numbers values W,
          window_length r numbers' values' (ended W).within,
          ap (λ (s : Marked). length s.queue) (ends_done W).held,
          slot_ends_shorter (conserving_mf room M slots) (slots_until now until) now (beside (window_of w numbers values) marks),
        )

    as_before : lies_within w numbers values ≡ false → moved_mf (lent r numbers' values') marks' after ≡ moved_mf (lent w numbers values) marks before
    unfolding ending_in
    as_before f = rw f at told

    pub ends : Guarded (lies_within w numbers values)
        (Done (λ (queue : List Packet). beside queue marks') (slot_ends (mf_policy room M slots) (slots_until now until) now (beside (window_of w numbers values) marks))
        before r numbers' values' after
        × (r.tail - r.head ≤ w.tail - w.head))
        ((moved (lent r numbers' values') after ≡ moved (lent w numbers values) before) × ((queue : List Packet) → beside queue marks' ≡ beside queue marks))
    ends =
        record {
          passed = λ t. let W = lies_within_lem w numbers values t in (ends_done W, ends_shorter W);
          failed = λ f. (
            ap (λ (m : MovedMF). moved m.lent m.written) (as_before f),
            λ queue. ap (λ (m : MovedMF). beside queue m.marks) (as_before f),
          );
        }
