-- How a course of a policy goes from one moment to the next: its numbers go on rising, and each entry that it makes is made between the two moments.
use Prim.Native.Nat.{ℕ, suc, ◌+◌, ◌≤◌}
use native.Mathlib.Omega.{arith}
use mathlib.Core.Path.{◌≡◌}
use mathlib.Core.List.{List, [], ◌∷◌, ◌++◌, append_assoc}
use lib.ListN.{length, get_or}
use Rattle.model.specs.declared.Packet.{Packet}
use Rattle.model.specs.declared.Slot.{Slot}
use Rattle.model.specs.Packets.{Arrival, nobody, slots_until}
use Rattle.model.specs.Record.{Entry}
use Rattle.model.specs.Course.{Step, Policy, Decided, entries_of, send_oldest, slot_ends, course}
use Rattle.laws.specs.MostQueue.{turn}
use Rattle.laws.specs.Accepted.{Next, Comes}
use Rattle.laws.proofs.Fifo.{Fair, holds, rejects, loses, Fifo}
use Rattle.laws.proofs.Conserving.{slot_ends_induction}
use Rattle.laws.proofs.Cases.{eqb_cases}
use Rattle.laws.proofs.Rising.{Rising, rising_bounds, rising_fair, rising_parted, rising_sent, rising_at}
use Rattle.laws.proofs.All.{All, all_append, all_weaken}
use Rattle.laws.proofs.Moments.{Since, Between, since_earlier, gone_later, FlushedBy, Arrived, sent_between, flushed_between, rejected_between, lost_between}

-- a policy whose states are fit to flush only by marks of later packets that have arrived
pub record Marks {S : Type 0} {P : Policy S} (F : Fifo P) (Fit : ℕ → S → Type 0) : Type 0 where
  pub arrival : (last : ℕ) (a : Arrival) (s : S) → Fit last s → Fit (suc last) (P.arrive a s).next
  pub finish : (last : ℕ) (now : Slot) (s : S) → Rising 0 last (P.held s) → Fit last s → Fit last (P.finish now s).next
  pub flush : (last : ℕ) (now : Slot) (s : S) → Rising 0 last (P.held s) → Fit last s → All (FlushedBy now last) (F.flushes now s)

module _ (slots : List ℕ) where
  arrived_later : (now now' last : ℕ) → now ≤ now' → Arrived slots now last → Arrived slots now' last
  arrived_later now now' last h A = record { by_now = λ k b. omega (arith, A.by_now k b); counted = A.counted }

  arrived_next : (now last : ℕ) (a : Arrival) → Next slots now last a → Arrived slots a.slot.0 last → Arrived slots a.slot.0 (suc last)
  arrived_next now last a N A =
      record {
        by_now = λ k b.
            eqb_cases k last _ (λ t q. rw q (omega (arith, N.slot))) λ t q. omega (arith, A.by_now k (omega arith));
        counted = N.counted;
      }

  between_wider : (now last now' last' from till : ℕ) → from ≤ now → now' ≤ till → (e : Entry) → Between slots now last now' last' e →
      Between slots from last till last' e
  between_wider now last now' last' from till a b e h =
      record { since = since_earlier slots from last now last a (omega arith) e h.since; gone = gone_later now' last' till last' b (omega arith) e h.gone }

  module _ (at : Slot) (last : ℕ) (A : Arrived slots at.0 last) where
    sends_between : (queue : List Packet) → Rising 0 last queue → All (Between slots at.0 last (suc at.0) last) (send_oldest at queue).entries
    sends_between [] h = tt
    sends_between (p ∷ queue) h =
        (sent_between slots last at A at.0 (suc at.0) p (omega arith) (omega arith) h.0 (rising_bounds p.number.0 last queue h.1), tt)

  module _ (now last : ℕ) (a : Arrival) (N : Next slots now last a) where
    fair_between : {queue : List Packet} {d : Decided} → Fair queue a.packet d → Rising 0 last queue →
        All (Between slots a.slot.0 last a.slot.0 (suc last)) (entries_of a d.decision)
    fair_between holds h = tt
    fair_between rejects h = (rejected_between slots now last a N, tt)
    fair_between {queue} (loses place kind b) h = (lost_between slots now last a N (get_or queue place nobody) kind (rising_at 0 last place queue b h).1, tt)

pub course_turn : {S : Type 0} (P : Policy S) (now : Slot) (s : S) (a : Arrival) (trace : List Arrival) →
    course P now s (a ∷ trace) ≡ (turn P now s a).entries ++ course P a.slot (turn P now s a).next trace
unfolding course
course_turn P now s a trace = rw append_assoc

-- how a state stands at a moment
pub record Stands {S : Type 0} (slots : List ℕ) (P : Policy S) (Fit : ℕ → S → Type 0) (now last : ℕ) (s : S) : Type 0 where
  pub arrived : Arrived slots now last
  pub rising : Rising 0 last (P.held s)
  pub fit : Fit last s

-- a step from one moment to another
pub record Goes {S : Type 0} (slots : List ℕ) (P : Policy S) (Fit : ℕ → S → Type 0) (now last now' last' : ℕ) (step : Step S) : Type 0 where
  pub stands : Stands slots P Fit now' last' step.next
  pub between : All (Between slots now last now' last') step.entries

module _ {S : Type 0} {P : Policy S} {F : Fifo P} {Fit : ℕ → S → Type 0} (M : Marks F Fit) (slots : List ℕ) where
  finish_goes : (last : ℕ) (at : Slot) (s : S) → Stands slots P Fit at.0 last s → Goes slots P Fit at.0 last (suc at.0) last (P.finish at s)
  finish_goes last at s T =
      let left = rising_parted 0 last (F.parted at s) T.rising in
      record {
        stands = record {
          arrived = arrived_later slots at.0 (suc at.0) last (omega arith) T.arrived;
          rising = rw (F.finish_holds at s) (rising_sent 0 last at (F.leaves at s) left);
          fit = M.finish last at s T.rising T.fit;
        };
        between = rw (F.finish_enters at s)
            (all_append (Between slots at.0 last (suc at.0) last) (F.flushes at s) _
            (all_weaken (FlushedBy at last) _ (λ e h. flushed_between slots last at T.arrived at.0 (suc at.0) e (omega arith) (omega arith) h) (F.flushes at s)
            (M.flush last at s T.rising T.fit))
            (sends_between slots at last T.arrived (F.leaves at s) left));
      }

  pub slot_ends_goes : (last k : ℕ) (now : Slot) (s : S) → Stands slots P Fit now.0 last s → (till : ℕ) → now.0 + k ≤ till →
      Goes slots P Fit now.0 last till last (slot_ends P k now s)
  slot_ends_goes last =
      slot_ends_induction P
      (λ k now s step. Stands slots P Fit now.0 last s → (till : ℕ) → now.0 + k ≤ till → Goes slots P Fit now.0 last till last step)
      (λ k now s quiet T till h.
      record {
        stands = record { arrived = arrived_later slots now.0 till last (omega arith) T.arrived; rising = T.rising; fit = T.fit };
        between = tt;
      })
      (λ k now s step rest T till h.
      let here = finish_goes last now s T in
      let there = rest here.stands till (omega arith) in
      record {
        stands = there.stands;
        between = all_append (Between slots now.0 last till last) (P.finish now s).entries step.entries
            (all_weaken _ _ (between_wider slots now.0 last (suc now.0) last now.0 till (omega arith) (omega arith)) (P.finish now s).entries here.between)
            (all_weaken _ _ (between_wider slots (suc now.0) last till last now.0 till (omega arith) (omega arith)) step.entries there.between);
      })

  pub arrive_goes : (now last : ℕ) (a : Arrival) (s : S) → Next slots now last a → Stands slots P Fit a.slot.0 last s →
      Goes slots P Fit a.slot.0 last a.slot.0 (suc last) (P.arrive a s)
  arrive_goes now last a s N T =
      record {
        stands = record {
          arrived = arrived_next slots now last a N T.arrived;
          rising = rw (F.arrive_holds a s) (rising_fair 0 last N.number (F.fair s a.packet) T.rising);
          fit = M.arrival last a s T.fit;
        };
        between = rw (F.arrive_enters a s) (fair_between slots now last a N (F.fair s a.packet) T.rising);
      }

  pub turn_goes : (last : ℕ) (now : Slot) (s : S) (a : Arrival) → Next slots now.0 last a → Stands slots P Fit now.0 last s →
      Goes slots P Fit now.0 last a.slot.0 (suc last) (turn P now s a)
  turn_goes last now s a N T =
      let before = slot_ends P (slots_until now a.slot) now s in
      let ends = slot_ends_goes last (slots_until now a.slot) now s T a.slot.0 (omega (arith, N.later)) in
      let arrives = arrive_goes now.0 last a before.next N ends.stands in
      let later = N.later in
      record {
        stands = arrives.stands;
        between = all_append (Between slots now.0 last a.slot.0 (suc last)) before.entries _
            (all_weaken _ _
            (λ e h. record { since = h.since; gone = gone_later a.slot.0 last a.slot.0 (suc last) (omega arith) (omega arith) e h.gone })
            before.entries ends.between)
            (all_weaken _ _ (between_wider slots a.slot.0 last a.slot.0 (suc last) now.0 a.slot.0 (omega arith) (omega arith)) (P.arrive a before.next).entries arrives.between);
      }

  -- all entries from a moment on
  pub course_since : (last : ℕ) (now : Slot) (s : S) (trace : List Arrival) → Comes slots now.0 last trace → Stands slots P Fit now.0 last s →
      All (Since slots now.0 last) (course P now s trace)
  unfolding course
  course_since last now s [] C T =
      let ends = slot_ends_goes last (length (P.held s)) now s T (now.0 + length (P.held s)) (omega arith) in
      all_weaken _ _ (λ e h. h.since) (slot_ends P (length (P.held s)) now s).entries ends.between
  course_since last now s (a ∷ trace) C T =
      let goes = turn_goes last now s a C.0 T in
      let later = C.0.later in
      rw (course_turn P now s a trace)
      (all_append (Since slots now.0 last) (turn P now s a).entries (course P a.slot (turn P now s a).next trace)
      (all_weaken _ _ (λ e h. h.since) (turn P now s a).entries goes.between)
      (all_weaken _ _ (since_earlier slots now.0 last a.slot.0 (suc last) (omega arith) (omega arith)) (course P a.slot (turn P now s a).next trace)
      (course_since (suc last) a.slot (turn P now s a).next trace C.1 goes.stands)))
