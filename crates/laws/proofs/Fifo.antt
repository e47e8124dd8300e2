-- The four policies are first in, first out: an arrival enters at the back or not at all, losses leave from anywhere, and at a slot's end, once the flushed
-- are gone, the oldest is sent.
use Prim.Native.Nat.{ℕ, ◌<◌}
use mathlib.Core.Path.{◌≡◌, refl}
use mathlib.Core.Bool.{Bool, true, false, cond}
use mathlib.Core.List.{List, [], ◌∷◌, ◌++◌}
use lib.ListN.{length, get_or}
use lib.Dec.{eqb, ltb}
use Rattle.model.specs.declared.Beta.{Beta}
use Rattle.model.specs.declared.LossKind.{LossKind}
use Rattle.model.specs.declared.LossKind.TheVariants.{PushedOut, Preempted}
use Rattle.model.specs.declared.PacketNumber.{PacketNumber}
use Rattle.model.specs.declared.Packet.{Packet}
use Rattle.model.specs.declared.Slot.{Slot}
use Rattle.model.specs.Packets.{Arrival, nobody, values_of}
use Rattle.model.specs.Record.{Entry, flushed_at}
use Rattle.model.specs.Course.{Policy, Decided, held, rejected, losing, entries_of, send_oldest, by_rule}
use Rattle.model.specs.Policies.Greedy.{without, loser_at, greedy_rule}
use Rattle.model.specs.Policies.PG.{preempted_at}
use Rattle.laws.specs.AtOnce.{pg_at_once}
use Rattle.model.specs.declared.Marking.{Marking}
use Rattle.model.specs.Policies.MF.{mark_of, goes_with, flushed, unflushed, head_mark, marks_after, mf_policy}
use Rattle.model.specs.Policies.Plan.{kept_of, kept_rule}
use Rattle.laws.proofs.Cases.{cond_cases, below_cases}

-- the arrival is held, or rejected, or held at the cost of the packet at one place
pub data Fair (queue : List Packet) (p : Packet) : Decided → Type 0 where
  holds : Fair queue p (record { decision = held; queue = queue ++ p ∷ [] })
  rejects : Fair queue p (record { decision = rejected; queue = queue })
  loses : (place : ℕ) (kind : LossKind) → place < length queue →
      Fair queue p
      (record {
        decision = losing (record { packet = get_or queue place nobody; kind = kind });
        queue = without place queue ++ p ∷ [];
      })

-- a queue in which each packet is either flushed or stays
pub data Parted (now : Slot) : List Packet → List Entry → List Packet → Type 0 where
  none : Parted now [] [] []
  goes : {p : Packet} {mark : PacketNumber} {queue left : List Packet} {entries : List Entry} →
      Parted now queue entries left → Parted now (p ∷ queue) (flushed_at now mark p ∷ entries) left
  stays : {p : Packet} {queue left : List Packet} {entries : List Entry} →
      Parted now queue entries left → Parted now (p ∷ queue) entries (p ∷ left)

-- what it takes to be first in, first out
pub record Fifo {S : Type 0} (P : Policy S) : Type 0 where
  pub decides : S → Packet → Decided
  pub flushes : Slot → S → List Entry
  pub leaves : Slot → S → List Packet
  pub fair : (s : S) (p : Packet) → Fair (P.held s) p (decides s p)
  pub parted : (now : Slot) (s : S) → Parted now (P.held s) (flushes now s) (leaves now s)
  pub arrive_enters : (a : Arrival) (s : S) → (P.arrive a s).entries ≡ entries_of a (decides s a.packet).decision
  pub arrive_holds : (a : Arrival) (s : S) → P.held (P.arrive a s).next ≡ (decides s a.packet).queue
  pub finish_enters : (now : Slot) (s : S) → (P.finish now s).entries ≡ flushes now s ++ (send_oldest now (leaves now s)).entries
  pub finish_holds : (now : Slot) (s : S) → P.held (P.finish now s).next ≡ (send_oldest now (leaves now s)).next

pub all_stay : (now : Slot) (queue : List Packet) → Parted now queue [] queue
all_stay now [] = none
all_stay now (p ∷ queue) = stays (all_stay now queue)

-- a policy by a fair rule
abbrev pub fifo_by_rule : (rule : List Packet → Packet → Decided) → ((queue : List Packet) (p : Packet) → Fair queue p (rule queue p)) → Fifo (by_rule rule)
fifo_by_rule rule fair =
    record {
      decides = rule;
      flushes = λ now queue. [];
      leaves = λ now queue. queue;
      fair = fair;
      parted = all_stay;
      arrive_enters = λ a queue. refl;
      arrive_holds = λ a queue. refl;
      finish_enters = λ now queue. refl;
      finish_holds = λ now queue. refl;
    }

module _ (queue : List Packet) (p : Packet) where
  pub greedy_fair : (room : ℕ) → Fair queue p (greedy_rule room queue p)
  unfolding greedy_rule
  greedy_fair room =
      let loser = loser_at (values_of (queue ++ p ∷ [])) in
      cond_cases (Fair queue p) (ltb (length queue) room) _ _ (λ e. holds)
      λ e. below_cases (Fair queue p) loser (length queue) _ _ (λ b. loses loser PushedOut b) (λ b. rejects)

  pub pg_fair : (room : ℕ) (beta : Beta) → Fair queue p (pg_at_once room beta queue p)
  unfolding pg_at_once
  pg_fair room beta =
      let place = preempted_at beta p.value (values_of queue) in
      below_cases (Fair queue p) place (length queue) _ _ (λ b. loses place Preempted b) (λ b. greedy_fair room)

  pub kept_fair : (kept : List ℕ) → Fair queue p (kept_rule kept queue p)
  unfolding kept_rule
  kept_fair kept = cond_cases (Fair queue p) (eqb (kept_of kept p.number) 1) _ _ (λ e. holds) (λ e. rejects)

pub flush_parted : (now : Slot) (m : PacketNumber) (marks : List ℕ) (queue : List Packet) → Parted now queue (flushed now m marks queue) (unflushed m marks queue)
unfolding flushed unflushed
flush_parted now m marks [] = none
flush_parted now m marks (p ∷ queue) = go (goes_with m marks p) (flush_parted now m marks queue)
  where
    go : (t : Bool) → Parted now queue (flushed now m marks queue) (unflushed m marks queue) →
        Parted now (p ∷ queue)
        (cond t (flushed_at now (mark_of marks p) p ∷ flushed now m marks queue) (flushed now m marks queue))
        (cond t (unflushed m marks queue) (p ∷ unflushed m marks queue))
    go true h = goes h
    go false h = stays h

abbrev pub fifo_greedy : (room : ℕ) → Fifo (by_rule (greedy_rule room))
fifo_greedy room = fifo_by_rule (greedy_rule room) (λ queue p. greedy_fair queue p room)

abbrev pub fifo_pg : (room : ℕ) (beta : Beta) → Fifo (by_rule (pg_at_once room beta))
fifo_pg room beta = fifo_by_rule (pg_at_once room beta) (λ queue p. pg_fair queue p room beta)

abbrev pub fifo_kept : (kept : List ℕ) → Fifo (by_rule (kept_rule kept))
fifo_kept kept = fifo_by_rule (kept_rule kept) (λ queue p. kept_fair queue p kept)

abbrev pub fifo_mf : (room : ℕ) (M : Marking) (slots : List ℕ) → Fifo (mf_policy room M slots)
fifo_mf room M slots =
    record {
      decides = λ s p. greedy_rule room s.queue p;
      flushes = λ now s. let marks = marks_after room M slots now s in flushed now (head_mark marks s.queue) marks s.queue;
      leaves = λ now s. let marks = marks_after room M slots now s in unflushed (head_mark marks s.queue) marks s.queue;
      fair = λ s p. greedy_fair s.queue p room;
      parted = λ now s. flush_parted now _ (marks_after room M slots now s) s.queue;
      arrive_enters = λ a s. refl;
      arrive_holds = λ a s. refl;
      finish_enters = λ now s. refl;
      finish_holds = λ now s. refl;
    }
