-- No packet is made or unmade: whatever leaves the queue is entered, once. So in a whole course each packet that was held or that arrives is entered as
-- often as it was there, since after the last arrival slots go on until nothing is held.
use Prim.Native.Nat.{ℕ, zero, suc, ◌+◌, ◌-◌, ◌≤◌, min}
use native.Mathlib.Omega.{arith}
use mathlib.Core.Path.{◌≡◌, refl}
use mathlib.Core.List.{List, [], ◌∷◌, ◌++◌}
use lib.ListN.{length, take, drop}
use Rattle.model.specs.declared.Beta.{Beta}
use Rattle.model.specs.declared.Packet.{Packet}
use Rattle.model.specs.declared.Slot.{Slot}
use Rattle.model.specs.Packets.{Arrival, nobody, slots_until, following}
use Rattle.model.specs.Record.{Entry}
use Rattle.model.specs.Course.{Step, Policy, Decided, entries_of, send_oldest, by_rule, unless_held, and_then, slot_ends, course}
use Rattle.model.specs.Policies.Greedy.{greedy_rule}
use Rattle.laws.specs.Times.{times, of_entry, of_packet, times_entered, times_held, times_arriving}
use Rattle.laws.specs.AtOnce.{pg_at_once}
use Rattle.model.specs.declared.Marking.{Marking}
use Rattle.model.specs.Policies.MF.{mf_policy}
use Rattle.model.specs.Policies.Plan.{kept_rule}
use Rattle.laws.proofs.Times.{times_append, times_none, times_without}
use Rattle.laws.proofs.Fifo.{Fair, holds, rejects, loses, Parted, none, goes, stays, Fifo, fifo_greedy, fifo_pg, fifo_kept, fifo_mf}

pub record Conserving {S : Type 0} (P : Policy S) : Type 0 where
  pub arrival : (n : ℕ) (a : Arrival) (s : S) →
      times_entered n (P.arrive a s).entries + times_held n (P.held (P.arrive a s).next) ≡ times_held n (P.held s) + times_arriving n (a ∷ [])
  pub finish : (n : ℕ) (now : Slot) (s : S) →
      times_entered n (P.finish now s).entries + times_held n (P.held (P.finish now s).next) ≡ times_held n (P.held s)
  pub shorter : (now : Slot) (s : S) → length (P.held (P.finish now s).next) ≤ length (P.held s) - 1

fair_conserves : {queue : List Packet} {d : Decided} (n : ℕ) (a : Arrival) → Fair queue a.packet d →
    times_entered n (entries_of a d.decision) + times_held n d.queue ≡ times_held n queue + times_arriving n (a ∷ [])
unfolding times
fair_conserves {queue} n a holds = omega (arith, times_append of_packet n queue (a.packet ∷ []))
fair_conserves n a rejects = omega arith
fair_conserves {queue} n a (loses place kind h) =
    omega (arith, times_append of_packet n (take place queue ++ drop (suc place) queue) (a.packet ∷ []), times_without of_packet n place nobody queue h)

parted_conserves : {now : Slot} {queue left : List Packet} {entries : List Entry} (n : ℕ) → Parted now queue entries left →
    times_entered n entries + times_held n left ≡ times_held n queue
unfolding times
parted_conserves n none = refl
parted_conserves n (goes h) = omega (arith, parted_conserves n h)
parted_conserves n (stays h) = omega (arith, parted_conserves n h)

parted_shorter : {now : Slot} {queue left : List Packet} {entries : List Entry} → Parted now queue entries left → length left ≤ length queue
parted_shorter none = omega arith
parted_shorter (goes h) = omega (arith, parted_shorter h)
parted_shorter (stays h) = omega (arith, parted_shorter h)

send_conserves : (n : ℕ) (now : Slot) (queue : List Packet) →
    times_entered n (send_oldest now queue).entries + times_held n (send_oldest now queue).next ≡ times_held n queue
unfolding times
send_conserves n now [] = refl
send_conserves n now (p ∷ queue) = omega arith

send_shorter : (now : Slot) (queue : List Packet) → length (send_oldest now queue).next ≡ length queue - 1
send_shorter now [] = refl
send_shorter now (p ∷ queue) = omega arith

module _ {S : Type 0} where
  pub conserving : {P : Policy S} → Fifo P → Conserving P
  conserving F =
      record {
        arrival = λ n a s. rw (F.arrive_enters a s, F.arrive_holds a s) (fair_conserves n a (F.fair s a.packet));
        finish = λ n now s.
            rw (F.finish_enters now s, F.finish_holds now s, times_append of_entry)
            (omega (arith, parted_conserves n (F.parted now s), send_conserves n now (F.leaves now s)));
        shorter = λ now s. rw (F.finish_holds now s) (omega (arith, parted_shorter (F.parted now s), send_shorter now (F.leaves now s)));
      }

  unless_held_cases : (Q : Step S → Type 0) (queue : List Packet) (quiet busy : Step S) → (length queue ≡ 0 → Q quiet) → Q busy →
      Q (unless_held queue quiet busy)
  unless_held_cases Q [] quiet busy h k = h refl
  unless_held_cases Q (p ∷ queue) quiet busy h k = k

  module _ (P : Policy S) where
    -- what holds where no slot ends or nothing is held, and is carried back over each end of a slot, holds of all ends of slots
    pub slot_ends_induction : (Q : ℕ → Slot → S → Step S → Type 0) →
        ((k : ℕ) (now : Slot) (s : S) → min k (length (P.held s)) ≡ 0 → Q k now s (record { entries = []; next = s })) →
        ((k : ℕ) (now : Slot) (s : S) (step : Step S) → Q k (following now) (P.finish now s).next step →
        Q (suc k) now s (and_then (P.finish now s).entries step)) →
        (k : ℕ) (now : Slot) (s : S) → Q k now s (slot_ends P k now s)
    unfolding slot_ends
    slot_ends_induction Q quiet busy zero now s = quiet zero now s (omega arith)
    slot_ends_induction Q quiet busy (suc k) now s =
        unless_held_cases (λ step. Q (suc k) now s step) (P.held s) _ _
        (λ h. quiet (suc k) now s (omega arith))
        (busy k now s _ (slot_ends_induction Q quiet busy k (following now) (P.finish now s).next))

  module _ {P : Policy S} (C : Conserving P) where
    pub slot_ends_conserves : (n k : ℕ) (now : Slot) (s : S) →
        times_entered n (slot_ends P k now s).entries + times_held n (P.held (slot_ends P k now s).next) ≡ times_held n (P.held s)
    unfolding times
    slot_ends_conserves n =
        slot_ends_induction P (λ k now s step. times_entered n step.entries + times_held n (P.held step.next) ≡ times_held n (P.held s))
        (λ k now s h. omega arith)
        (λ k now s step h. omega (arith, times_append of_entry n (P.finish now s).entries step.entries, C.finish n now s))

    pub slot_ends_shorter : (k : ℕ) (now : Slot) (s : S) → length (P.held (slot_ends P k now s).next) ≤ length (P.held s) - k
    slot_ends_shorter =
        slot_ends_induction P (λ k now s step. length (P.held step.next) ≤ length (P.held s) - k)
        (λ k now s h. omega arith)
        (λ k now s step h. omega (arith, C.shorter now s))

    -- in a whole course each packet is entered as often as it is held or arrives
    pub course_conserves : (n : ℕ) (now : Slot) (s : S) (trace : List Arrival) →
        times_entered n (course P now s trace) ≡ times_held n (P.held s) + times_arriving n trace
    unfolding course times
    course_conserves n now s [] =
        let k = length (P.held s) in
        omega (arith, slot_ends_conserves n k now s, times_none of_packet n (P.held (slot_ends P k now s).next) (omega (arith, slot_ends_shorter k now s)))
    course_conserves n now s (a ∷ trace) =
        let before = slot_ends P (slots_until now a.slot) now s in
        let step = P.arrive a before.next in
        let later = course P a.slot step.next trace in
        omega (
          arith,
          times_append of_entry n before.entries (step.entries ++ later),
          times_append of_entry n step.entries later,
          slot_ends_conserves n (slots_until now a.slot) now s,
          C.arrival n a before.next,
          course_conserves n a.slot step.next trace,
        )

pub conserving_greedy : (room : ℕ) → Conserving (by_rule (greedy_rule room))
conserving_greedy room = conserving (fifo_greedy room)

pub conserving_pg : (room : ℕ) (beta : Beta) → Conserving (by_rule (pg_at_once room beta))
conserving_pg room beta = conserving (fifo_pg room beta)

pub conserving_kept : (kept : List ℕ) → Conserving (by_rule (kept_rule kept))
conserving_kept kept = conserving (fifo_kept kept)

pub conserving_mf : (room : ℕ) (M : Marking) (slots : List ℕ) → Conserving (mf_policy room M slots)
conserving_mf room M slots = conserving (fifo_mf room M slots)
