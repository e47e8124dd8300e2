-- The packets that a rule's run sends, in order of sending: in a gap of n slots the first n of the queue, and in the end all that is left. They are the
-- packets of the run's entries with fate sent.
use Prim.Native.Nat.{ℕ, zero, suc, ◌+◌}
use mathlib.Core.Path.{◌≡◌, refl, ◌∙◌}
use mathlib.Core.Bool.{cond, ◌&&◌, and-true, and-false}
use mathlib.Core.List.{List, [], ◌∷◌, ◌++◌}
use native.Mathlib.Omega.{arith}
use lib.ListN.{length, take, drop}
use lib.Seq.{take-length}
use lib.Dec.{eqb}
use Rattle.model.specs.declared.Slot.{Slot}
use Rattle.model.specs.declared.Packet.{Packet}
use Rattle.model.specs.declared.LossKind.{LossKind}
use Rattle.model.specs.declared.LossKind.TheVariants as kinds
use Rattle.model.specs.Packets.{Arrival, slots_until, following}
use Rattle.model.specs.Record.{Entry, fate_number, loss_fate}
use Rattle.model.specs.Course.{Decision, Decided, held, rejected, losing, entries_of, by_rule, slot_ends, course}
use Rattle.laws.specs.Times.{times, of_packet, times_held}
use Rattle.laws.proofs.Times.{times_append}
use Rattle.laws.proofs.Fifo.{Fair, holds, rejects, loses}
use Rattle.theorems.proofs.Each.{Each, each_append, each_take, each_drop}

unfoldable pub sent_by : (List Packet → Packet → Decided) → Slot → List Packet → List Arrival → List Packet
sent_by rule now queue [] = queue
sent_by rule now queue (a ∷ trace) =
    let gap = slots_until now a.slot in
    take gap queue ++ sent_by rule a.slot (rule (drop gap queue) a.packet).queue trace

-- how often packet n is entered as sent
unfoldable pub times_sent : ℕ → List Entry → ℕ
times_sent n [] = 0
times_sent n (e ∷ entries) = cond (eqb e.number.0 n && eqb (fate_number e.fate) 1) 1 0 + times_sent n entries

sent_append : (n : ℕ) (xs ys : List Entry) → times_sent n (xs ++ ys) ≡ times_sent n xs + times_sent n ys
unfolding times_sent
sent_append n [] ys = omega arith
sent_append n (x ∷ xs) ys = omega (arith, sent_append n xs ys)

-- an arrival enters nothing as sent
none_sent : (n : ℕ) (a : Arrival) (d : Decision) → times_sent n (entries_of a d) ≡ 0
unfolding times_sent
none_sent n a held = refl
none_sent n a rejected = rw and-false
none_sent n a (losing l) = go l.kind
  where
    go : (k : LossKind) → ◌≡◌ {A = ℕ} (cond (eqb l.packet.number.0 n && eqb (fate_number (loss_fate k)) 1) 1 0 + 0) 0
    go kinds.PushedOut = rw and-false
    go kinds.Preempted = rw and-false

module _ (rule : List Packet → Packet → Decided) where
  pub ends_next : (n : ℕ) (now : Slot) (queue : List Packet) → (slot_ends (by_rule rule) n now queue).next ≡ drop n queue
  unfolding slot_ends
  ends_next zero now queue = refl
  ends_next (suc n) now [] = refl
  ends_next (suc n) now (p ∷ queue) = ends_next n (following now) queue

  ends_sent : (k n : ℕ) (now : Slot) (queue : List Packet) → times_sent k (slot_ends (by_rule rule) n now queue).entries ≡ times_held k (take n queue)
  unfolding slot_ends times_sent times
  ends_sent k zero now queue = refl
  ends_sent k (suc n) now [] = refl
  ends_sent k (suc n) now (p ∷ queue) = rw and-true (omega (arith, ends_sent k n (following now) queue))

  pub course_sent : (n : ℕ) (now : Slot) (queue : List Packet) (trace : List Arrival)
      → times_sent n (course (by_rule rule) now queue trace) ≡ times_held n (sent_by rule now queue trace)
  unfolding course sent_by
  course_sent n now queue [] = ends_sent n (length queue) now queue ∙ rw take-length
  course_sent n now queue (a ∷ trace) =
      let gap = slots_until now a.slot in
      let before = (slot_ends (by_rule rule) gap now queue).entries in
      let decided = rule (drop gap queue) a.packet in
      let step = entries_of a decided.decision in
      let later = course (by_rule rule) a.slot decided.queue trace in
      rw (ends_next gap now queue)
      (omega (
        arith,
        sent_append n before (step ++ later),
        sent_append n step later,
        none_sent n a decided.decision,
        ends_sent n gap now queue,
        course_sent n a.slot decided.queue trace,
        times_append of_packet n (take gap queue) (sent_by rule a.slot decided.queue trace),
      ))

module _ (P : Packet → Type 0) where
  each_fair : {queue : List Packet} {p : Packet} {d : Decided} → Fair queue p d → Each P queue → P p → Each P d.queue
  each_fair {queue} {p} holds h k = each_append P queue (p ∷ []) h (k, tt)
  each_fair rejects h k = h
  each_fair {queue} {p} (loses place kind l) h k =
      each_append P (take place queue ++ drop (suc place) queue) (p ∷ [])
      (each_append P (take place queue) (drop (suc place) queue) (each_take P place queue h) (each_drop P (suc place) queue h)) (k, tt)

  module _ (rule : List Packet → Packet → Decided) (fair : (queue : List Packet) (p : Packet) → Fair queue p (rule queue p)) where
    -- a fair rule sends only packets that were held or arrive
    pub each_sent : (now : Slot) (queue : List Packet) (trace : List Arrival) → Each P queue → Each (λ a. P a.packet) trace
        → Each P (sent_by rule now queue trace)
    unfolding sent_by
    each_sent now queue [] h k = h
    each_sent now queue (a ∷ trace) h k =
        let gap = slots_until now a.slot in
        each_append P (take gap queue) _ (each_take P gap queue h)
        (each_sent a.slot (rule (drop gap queue) a.packet).queue trace
        (each_fair (fair (drop gap queue) a.packet) (each_drop P gap queue h) k.0) k.1)
