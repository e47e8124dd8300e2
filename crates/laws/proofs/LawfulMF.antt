-- MF's record obeys the rules too: a mark is the number of a later packet that has arrived, since a packet is marked only by one that stands behind it in
-- the queue, whose numbers rise.
use Prim.Native.Nat.{ℕ, zero, suc, ◌-◌, ◌≤◌, ◌<◌}
use native.Mathlib.Omega.{arith}
use mathlib.Core.Path.{◌≡◌, refl, ap}
use mathlib.Core.Bool.{Bool, true, false, cond, not, ◌&&◌, and-eq-true_iff}
use mathlib.Core.List.{List, [], ◌∷◌}
use lib.ListN.{length, get_or, set, take}
use lib.Dec.{leb, eqb}
use borrow.Author.Tests.{eqb-false, not-true}
use Rattle.model.specs.declared.PacketNumber.{PacketNumber}
use Rattle.model.specs.declared.Packet.{Packet}
use Rattle.model.specs.declared.Slot.{Slot}
use Rattle.model.specs.Packets.{place_of, slot_of, arrivals}
use Rattle.model.specs.Record.{Lists, flushed_at}
use Rattle.model.specs.Course.{first}
use Rattle.model.specs.Refusals.{mf_refusal}
use Rattle.model.specs.declared.Marking.{Marking}
use Rattle.model.specs.Policies.MF.{Marked, mark_of, is_marked, goes_with, mark_down, mark_from, marks_after, flushed, mf_policy, unmarked}
use Rattle.laws.proofs.Cases.{cond_cases}
use Rattle.laws.proofs.Fifo.{fifo_mf}
use Rattle.laws.proofs.Conserving.{conserving_mf}
use Rattle.laws.proofs.Rising.{Rising, rising_bounds, rising_take}
use Rattle.laws.proofs.All.{All}
use Rattle.laws.proofs.Moments.{FlushedBy}
use Rattle.laws.proofs.Standing.{Marks}
use Rattle.laws.proofs.Lists.{zeros}
use Rattle.laws.proofs.Room.{most_queue_roomy, roomy_mf}
use Rattle.laws.proofs.Accepted.{mf_accepted}
use Rattle.laws.proofs.Lawful.{Lawful, lawful}

-- every mark is the number of a later packet that has arrived
abbrev pub MarksFit : ℕ → List ℕ → Type 0
MarksFit last marks = (k : ℕ) → (get_or marks k 0 ≡ 0 → ⊥) → (suc k < get_or marks k 0) × (get_or marks k 0 ≤ last)

get_d_set_either : (list : List ℕ) (i k v : ℕ) (G : Type 0) → (k ≡ i → get_or (set list i v) k 0 ≡ v → G) → (get_or (set list i v) k 0 ≡ get_or list k 0 → G) → G
get_d_set_either [] i k v G same other = other refl
get_d_set_either (x ∷ list) zero zero v G same other = same refl refl
get_d_set_either (x ∷ list) zero (suc k) v G same other = other refl
get_d_set_either (x ∷ list) (suc i) zero v G same other = other refl
get_d_set_either (x ∷ list) (suc i) (suc k) v G same other = get_d_set_either list i k v G (λ e h. same (ap suc e) h) other

-- the packets have numbers from 1 to below this one
abbrev Below : ℕ → List Packet → Type 0
Below m [] = Unit {0}
Below m (p ∷ older) = (0 < p.number.0) × (p.number.0 < m) × Below m older

below_wider : (m m' : ℕ) (older : List Packet) → m ≤ m' → Below m older → Below m' older
below_wider m m' [] h b = tt
below_wider m m' (p ∷ older) h b = (b.0, omega (arith, b.1), below_wider m m' older h b.2)

module _ (last : ℕ) where
  set_fits : (marks : List ℕ) (i v : ℕ) → suc i < v → v ≤ last → MarksFit last marks → MarksFit last (set marks i v)
  set_fits marks i v low high fit k marked =
      get_d_set_either marks i k v _ (λ e h. omega arith) λ h. rw h (fit k (rw h at marked))

  mark_down_fits : (lo n : ℕ) (marking : PacketNumber) (older : List Packet) (marks : List ℕ) → marking.0 ≤ last → Below marking.0 older →
      MarksFit last marks → MarksFit last (mark_down lo n marking older marks)
  unfolding mark_down
  mark_down_fits lo n marking [] marks h b fit = fit
  mark_down_fits lo zero marking (p ∷ older) marks h b fit = fit
  mark_down_fits lo (suc n) marking (p ∷ older) marks h b fit =
      cond_cases (MarksFit last) (eqb p.value lo && not (is_marked marks p)) _ _
      (λ e. mark_down_fits lo n marking older _ h b.2 (set_fits marks (place_of p.number) marking.0 (omega (arith, b.0, b.1)) h fit))
      (λ e. mark_down_fits lo (suc n) marking older marks h b.2 fit)

  mark_from_fits : (M : Marking) (slots : List ℕ) (now : Slot) (low : ℕ) (older queue : List Packet) (marks : List ℕ) →
      Below (suc low) older → Rising low last queue → MarksFit last marks → MarksFit last (mark_from M slots now older queue marks)
  unfolding mark_from
  mark_from_fits M slots now low older [] marks b rising fit = fit
  mark_from_fits M slots now low older (p ∷ queue) marks b rising fit =
      mark_from_fits M slots now p.number.0 (p ∷ older) queue _
      (omega (arith, rising.0), omega arith, below_wider (suc low) (suc p.number.0) older (omega (arith, rising.0)) b)
      rising.1
      (cond_cases (MarksFit last) (eqb p.value M.hi && eqb (slot_of slots p.number).0 now.0) _ _
      (λ e. mark_down_fits M.lo M.r p.number older marks (rising_bounds p.number.0 last queue rising.1)
      (below_wider (suc low) p.number.0 older rising.0 b) fit)
      (λ e. fit))

  -- who is flushed has a mark
  flushed_fits : (now : Slot) (m : PacketNumber) (low : ℕ) (marks : List ℕ) (queue : List Packet) → Rising low last queue → MarksFit last marks →
      All (FlushedBy now last) (flushed now m marks queue)
  unfolding flushed
  flushed_fits now m low marks [] rising fit = tt
  flushed_fits now m low marks (p ∷ queue) rising fit =
      go (goes_with m marks p) refl (flushed_fits now m p.number.0 marks queue rising.1 fit)
    where
      go : (t : Bool) → goes_with m marks p ≡ t → All (FlushedBy now last) (flushed now m marks queue) →
          All (FlushedBy now last) (cond t (flushed_at now (mark_of marks p) p ∷ flushed now m marks queue) (flushed now m marks queue))
      go true e rest =
          let marked = ((and-eq-true_iff (is_marked marks p) (leb (mark_of marks p).0 m.0)).0 e).0 in
          let mark = fit (place_of p.number) (eqb-false (mark_of marks p).0 0 (not-true _ marked)) in
          (record { fate = refl; when = refl; older = omega (arith, mark.0, rising.0); marked = mark.1 }, rest)
      go false e rest = rest

mf_marks : (room : ℕ) (M : Marking) (slots : List ℕ) → Marks (fifo_mf room M slots) (λ last s. MarksFit last s.marks)
mf_marks room M slots =
    let fits : (last : ℕ) (now : Slot) (s : Marked) → Rising 0 last s.queue → MarksFit last s.marks → MarksFit last (marks_after room M slots now s) =
    λ last now s rising fit. mark_from_fits last M slots now 0 [] (take (room - 1) s.queue) s.marks tt (rising_take 0 last (room - 1) s.queue rising) fit
    in
    record {
      arrival = λ last a s fit k marked. omega (arith, fit k marked);
      finish = fits;
      flush = λ last now s rising fit. flushed_fits last now _ 0 (marks_after room M slots now s) s.queue rising (fits last now s rising fit);
    }

pub lawful_mf : (slots values : List ℕ) (room : ℕ) (lists : Lists) (M : Marking) → (mf_refusal M slots values room lists).number ≡ 0 →
    Lawful (mf_policy room M slots) (unmarked (length slots)) slots values room
lawful_mf slots values room lists M z =
    lawful (mf_marks room M slots) (unmarked (length slots)) refl (λ k marked. absurd (marked (zeros (length slots) k)))
    slots values room lists (mf_accepted slots values room lists M z)
    (most_queue_roomy (conserving_mf room M slots) room (roomy_mf room M slots) first (unmarked (length slots)) (arrivals slots values) (omega arith))
