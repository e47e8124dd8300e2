-- Only lo packets are marked, and each marked packet has a hi packet behind it: the one that marked it, since a hi packet is lost only when every held packet
-- is hi, is never flushed, and is sent only once all before it are gone. So a head that is flushed leaves a hi packet.
use Prim.Native.Nat.{ℕ, zero, suc, ◌-◌, ◌≤◌, ◌<◌}
use mathlib.Core.Path.{◌≡◌, refl, sym, ap, subst, ◌∙◌}
use mathlib.Core.Logic.{◌⊎◌, inl, inr}
use mathlib.Core.Bool.{Bool, true, false, not, ◌&&◌, ◌||◌, and-eq-true_iff}
use mathlib.Core.List.{List, [], ◌∷◌, ◌++◌}
use native.Mathlib.Omega.{arith}
use lib.ListN.{length, get_or, set, take, drop, take-append-drop}
use lib.Seq.{get_or-set_other}
use lib.Dec.{leb, ltb, eqb}
use borrow.Author.Tests.{eqb-true, ltb-true, not-false}
use Rattle.model.specs.declared.PacketNumber.{PacketNumber}
use Rattle.model.specs.declared.Packet.{Packet}
use Rattle.model.specs.declared.Slot.{Slot}
use Rattle.model.specs.Packets.{Arrival, arrivals, slots_until, following, place_of, slot_of}
use Rattle.model.specs.Limits.{record_limits}
use Rattle.model.specs.Refusals.{value_ok, marking_ok, lo_or_hi, packet_refusal_from, mf_refusal}
use Rattle.model.specs.Course.{Policy, send_oldest, slot_ends, first}
use Rattle.model.specs.Policies.Greedy.{greedy_rule}
use Rattle.model.specs.declared.Marking.{Marking}
use Rattle.model.specs.Policies.MF.{Marked, is_marked, goes_with, mark_down, mark_from, marks_after, unflushed, head_mark, mf_policy, unmarked}
use Rattle.laws.specs.Accepted.{Comes}
use Rattle.laws.proofs.Cases.{cond_cases, below_cases}
use Rattle.laws.proofs.FirstFault.{or_else_zero, verdict_if_zero}
use Rattle.laws.proofs.Fifo.{greedy_fair, flush_parted}
use Rattle.laws.proofs.Rising.{Rising, rising_bounds, rising_fair, rising_parted, rising_sent, rising_take}
use Rattle.laws.proofs.Conserving.{slot_ends_induction}
use Rattle.laws.proofs.Accepted.{mf_accepted}
use Rattle.laws.proofs.Lists.{zeros}
use Rattle.theorems.specs.FlushLeaves.{AtEnds, AtEveryEnd, Leaves, FlushLeaves}
use Rattle.theorems.proofs.Queue.{AtLeast}
use Rattle.theorems.proofs.Lowest.{greedy_pushes_out}

-- the packets older than a number, newest first
abbrev Falling : ℕ → List Packet → Type 0
Falling bound [] = Unit {0}
Falling bound (p ∷ older) = (0 < p.number.0) × (p.number.0 < bound) × Falling p.number.0 older

falling_wider : (bound wider : ℕ) (older : List Packet) → bound ≤ wider → Falling bound older → Falling wider older
falling_wider bound wider [] h F = tt
falling_wider bound wider (p ∷ older) h F = (F.0, omega (arith, F.1), F.2)

-- marking changes no mark but those of the packets before the marking one
module _ (lo : ℕ) (marking : PacketNumber) where
  down_other : (n bound k : ℕ) (older : List Packet) (marks : List ℕ) → bound ≤ suc k → Falling bound older
      → get_or (mark_down lo n marking older marks) k 0 ≡ get_or marks k 0
  unfolding mark_down
  down_other n bound k [] marks h F = refl
  down_other zero bound k (p ∷ older) marks h F = refl
  down_other (suc n) bound k (p ∷ older) marks h F =
      let next : p.number.0 ≤ suc k = omega (arith, F.1) in
      let away : k ≡ place_of p.number → ⊥ = λ e. omega (arith, F.0, F.1) in
      cond_cases (λ (ms : List ℕ). get_or ms k 0 ≡ get_or marks k 0) (eqb p.value lo && not (is_marked marks p)) _ _
      (λ e. down_other n p.number.0 k older _ next F.2 ∙ get_or-set_other marks (place_of p.number) k marking.0 0 away)
      (λ e. down_other (suc n) p.number.0 k older marks next F.2)

from_other : (M : Marking) (slots : List ℕ) (now : Slot) (low last k : ℕ) (older queue : List Packet) (marks : List ℕ) → last ≤ k → Falling (suc low) older
    → Rising low last queue → get_or (mark_from M slots now older queue marks) k 0 ≡ get_or marks k 0
unfolding mark_from
from_other M slots now low last k older [] marks h F R = refl
from_other M slots now low last k older (p ∷ queue) marks h F R =
    let below = rising_bounds p.number.0 last queue R.1 in
    from_other M slots now p.number.0 last k (p ∷ older) queue _ h
    (omega (arith, R.0), omega arith, falling_wider (suc low) p.number.0 older R.0 F) R.1
    ∙ cond_cases (λ (ms : List ℕ). get_or ms k 0 ≡ get_or marks k 0) (eqb p.value M.hi && eqb (slot_of slots p.number).0 now.0) _ _
    (λ e. down_other M.lo p.number M.r (suc low) k older marks (omega (arith, R.0)) F)
    (λ e. refl)

module _ (M : Marking) (less : M.lo < M.hi) where
  abbrev HasHi : List Packet → Type 0
  HasHi [] = ⊥
  HasHi (p ∷ queue) = (p.value ≡ M.hi) ⊎ HasHi queue

  -- a packet is lo or hi, and where it is marked it is lo and Behind holds
  record Kept (marks : List ℕ) (p : Packet) (Behind : Type 0) : Type 0 where
    value : (p.value ≡ M.lo) ⊎ (p.value ≡ M.hi)
    marked : is_marked marks p ≡ true → (p.value ≡ M.lo) × Behind

  -- each marked packet of a queue is lo and has a hi packet behind it
  abbrev Backed : List ℕ → List Packet → Type 0
  Backed marks [] = Unit {0}
  Backed marks (p ∷ queue) = Kept marks p (HasHi queue) × Backed marks queue

  same_kept : (marks marks' : List ℕ) (p : Packet) (Behind : Type 0) → get_or marks' (place_of p.number) 0 ≡ get_or marks (place_of p.number) 0
      → Kept marks p Behind → Kept marks' p Behind
  same_kept marks marks' p Behind e K =
      record { value = K.value; marked = λ h. K.marked (ap (λ (k : ℕ). not (eqb k 0)) (sym e) ∙ h) }

  hi_unmarked : (marks : List ℕ) (p : Packet) (Behind : Type 0) → Kept marks p Behind → p.value ≡ M.hi → is_marked marks p ≡ false
  hi_unmarked marks p Behind K e = go (is_marked marks p) refl
    where
      go : (t : Bool) → is_marked marks p ≡ t → is_marked marks p ≡ false
      go true h = absurd (omega (arith, (K.marked h).0))
      go false h = h

  -- the flush
  hi_stays : (m : PacketNumber) (marks : List ℕ) (queue : List Packet) → Backed marks queue → HasHi queue → HasHi (unflushed m marks queue)
  unfolding unflushed
  hi_stays m marks [] G h = h
  hi_stays m marks (p ∷ queue) G (inl e) = rw (hi_unmarked marks p (HasHi queue) G.0 e) (inl e)
  hi_stays m marks (p ∷ queue) G (inr h) =
      cond_cases HasHi (goes_with m marks p) _ _ (λ e. hi_stays m marks queue G.1 h) (λ e. inr (hi_stays m marks queue G.1 h))

  some_held : (queue : List Packet) → HasHi queue → 0 < length queue
  some_held [] h = absurd h
  some_held (p ∷ queue) h = omega arith

  leaves : (m : PacketNumber) (marks : List ℕ) (queue : List Packet) → Backed marks queue → 0 < length queue → 0 < length (unflushed m marks queue)
  unfolding unflushed
  leaves m marks [] G h = h
  leaves m marks (p ∷ queue) G h = go (is_marked marks p) refl
    where
      go : (t : Bool) → is_marked marks p ≡ t → 0 < length (unflushed m marks (p ∷ queue))
      go true e =
          cond_cases (λ (q : List Packet). 0 < length q) (goes_with m marks p) _ _
          (λ t. some_held (unflushed m marks queue) (hi_stays m marks queue G.1 (G.0.marked e).1)) (λ t. omega arith)
      go false e = rw e (omega arith)

  flush_guarded : (m : PacketNumber) (marks : List ℕ) (queue : List Packet) → Backed marks queue → Backed marks (unflushed m marks queue)
  unfolding unflushed
  flush_guarded m marks [] G = tt
  flush_guarded m marks (p ∷ queue) G =
      cond_cases (Backed marks) (goes_with m marks p) _ _ (λ e. flush_guarded m marks queue G.1)
      (λ e. (
        record { value = G.0.value; marked = λ h. ((G.0.marked h).0, hi_stays m marks queue G.1 (G.0.marked h).1) },
        flush_guarded m marks queue G.1,
      ))

  send_guarded : (now : Slot) (marks : List ℕ) (queue : List Packet) → Backed marks queue → Backed marks (send_oldest now queue).next
  send_guarded now marks [] G = tt
  send_guarded now marks (p ∷ queue) G = G.1

  -- an arrival
  has_append : (queue more : List Packet) → HasHi queue → HasHi (queue ++ more)
  has_append [] more h = absurd h
  has_append (p ∷ queue) more (inl e) = inl e
  has_append (p ∷ queue) more (inr h) = inr (has_append queue more h)

  module _ (marks : List ℕ) (p : Packet) (value : (p.value ≡ M.lo) ⊎ (p.value ≡ M.hi)) (bare : is_marked marks p ≡ false) where
    append_guarded : (queue : List Packet) → Backed marks queue → Backed marks (queue ++ p ∷ [])
    append_guarded [] G = (record { value = value; marked = λ h. absurd (let z : ◌≡◌ {A = ℕ} 0 1 = cc in omega arith) }, tt)
    append_guarded (q ∷ queue) G =
        (record { value = G.0.value; marked = λ h. ((G.0.marked h).0, has_append queue (p ∷ []) (G.0.marked h).1) }, append_guarded queue G.1)

    has_without : (front back : List Packet) (lost : Packet) → (lost.value ≡ M.hi → ⊥) → HasHi (front ++ lost ∷ back) → HasHi (front ++ back)
    has_without [] back lost low (inl e) = absurd (low e)
    has_without [] back lost low (inr h) = h
    has_without (x ∷ front) back lost low (inl e) = inl e
    has_without (x ∷ front) back lost low (inr h) = inr (has_without front back lost low h)

    without_guarded : (front back : List Packet) (lost : Packet) → AtLeast lost.value (front ++ back) → Backed marks (front ++ lost ∷ back)
        → Backed marks (front ++ back)
    without_guarded [] back lost A G = G.1
    without_guarded (x ∷ front) back lost A G = (
      record {
        value = G.0.value;
        marked = λ h.
            let k = G.0.marked h in
            (k.0, has_without front back lost (λ e. omega (arith, A.0, k.0)) k.1);
      },
      without_guarded front back lost A.1 G.1,
    )

    arrive_guarded : (room : ℕ) (queue : List Packet) → Backed marks queue → Backed marks (greedy_rule room queue p).queue
    arrive_guarded room queue G =
        let more = append_guarded queue G in
        below_cases {A = ℕ} (λ k. Backed marks (greedy_rule room queue p).queue) (length queue) room 0 0
        (λ some. subst (Backed marks) (sym ((greedy_pushes_out room).holds queue p some)) more)
        (λ full.
        let L = (greedy_pushes_out room).loses queue p full in
        subst (Backed marks) (sym L.stay) (without_guarded L.front L.back L.lost L.low (subst (Backed marks) L.were more)))

  -- the marks: of the packets older than a place, newest first, where Behind says that a hi packet is behind them
  abbrev Older : List ℕ → List Packet → Type 0 → Type 0
  Older marks [] Behind = Unit {0}
  Older marks (p ∷ older) Behind = Kept marks p Behind × Older marks older ((p.value ≡ M.hi) ⊎ Behind)

  set_older : (k v bound : ℕ) (older : List Packet) (Behind : Type 0) (marks : List ℕ) → bound ≤ suc k → Falling bound older → Older marks older Behind
      → Older (set marks k v) older Behind
  set_older k v bound [] Behind marks h F O = tt
  set_older k v bound (p ∷ older) Behind marks h F O =
      let away : place_of p.number ≡ k → ⊥ = λ e. omega (arith, F.0, F.1) in (
        same_kept marks (set marks k v) p Behind (get_or-set_other marks k (place_of p.number) v 0 away) O.0,
        set_older k v p.number.0 older _ marks (omega (arith, F.1)) F.2 O.1,
      )

  down_guarded : (marking : PacketNumber) (n bound : ℕ) (older : List Packet) (marks : List ℕ) (Behind : Type 0) → Behind → Falling bound older
      → Older marks older Behind → Older (mark_down M.lo n marking older marks) older Behind
  unfolding mark_down
  down_guarded marking n bound [] marks Behind b F O = tt
  down_guarded marking zero bound (p ∷ older) marks Behind b F O = O
  down_guarded marking (suc n) bound (p ∷ older) marks Behind b F O =
      let place = place_of p.number in
      let own : p.number.0 ≤ suc place = omega (arith, F.0) in
      let isLo = eqb p.value M.lo in
      let bare = not (is_marked marks p) in
      cond_cases (λ (ms : List ℕ). Older ms (p ∷ older) Behind) (isLo && bare) _ _
      (λ e. (
        record { value = O.0.value; marked = λ h. (eqb-true p.value M.lo ((and-eq-true_iff isLo bare).0 e).0, b) },
        down_guarded marking n p.number.0 older (set marks place marking.0) _ (inr b) F.2
            (set_older place marking.0 p.number.0 older _ marks own F.2 O.1),
      ))
      (λ e. (
        same_kept marks (mark_down M.lo (suc n) marking older marks) p Behind (down_other M.lo marking (suc n) p.number.0 place older marks own F.2) O.0,
        down_guarded marking (suc n) p.number.0 older marks _ (inr b) F.2 O.1,
      ))

  -- the packets from a number on keep what they have where marks change only before it
  behind_same : (low last : ℕ) (queue : List Packet) (marks marks' : List ℕ) → ((k : ℕ) → low ≤ k → get_or marks' k 0 ≡ get_or marks k 0)
      → Rising low last queue → Backed marks queue → Backed marks' queue
  behind_same low last [] marks marks' e R G = tt
  behind_same low last (p ∷ queue) marks marks' e R G = (
    same_kept marks marks' p (HasHi queue) (e (place_of p.number) (omega (arith, R.0))) G.0,
    behind_same p.number.0 last queue marks marks' (λ k h. e k (omega (arith, R.0))) R.1 G.1,
  )

  -- the older packets put back before the others
  abbrev joined : List Packet → List Packet → List Packet
  joined [] rest = rest
  joined (p ∷ older) rest = joined older (p ∷ rest)

  join_guarded : (older rest : List Packet) (marks : List ℕ) → Older marks older (HasHi rest) → Backed marks rest → Backed marks (joined older rest)
  join_guarded [] rest marks O G = G
  join_guarded (p ∷ older) rest marks O G = join_guarded older (p ∷ rest) marks O.1 (O.0, G)

  module _ (slots : List ℕ) (now : Slot) where
    from_guarded : (low last : ℕ) (older queue behind : List Packet) (marks : List ℕ) → Falling (suc low) older → Rising low last (queue ++ behind)
        → Older marks older (HasHi (queue ++ behind)) → Backed marks (queue ++ behind)
        → Backed (mark_from M slots now older queue marks) (joined older (queue ++ behind))
    unfolding mark_from
    from_guarded low last older [] behind marks F R O G = join_guarded older behind marks O G
    from_guarded low last older (p ∷ queue) behind marks F R O G =
        let rest = queue ++ behind in
        let isHi = eqb p.value M.hi in
        let arrived = eqb (slot_of slots p.number).0 now.0 in
        let both =
        cond_cases (λ (ms : List ℕ). Older ms older (HasHi (p ∷ rest)) × Backed ms (p ∷ rest)) (isHi && arrived) (mark_down M.lo M.r p.number older marks) marks
        (λ e. (
          down_guarded p.number M.r (suc low) older marks (HasHi (p ∷ rest)) (inl (eqb-true p.value M.hi ((and-eq-true_iff isHi arrived).0 e).0)) F O,
          behind_same low last (p ∷ rest) marks _ (λ k h. down_other M.lo p.number M.r (suc low) k older marks (omega arith) F) R G,
        ))
        (λ e. (O, G))
        in
        from_guarded p.number.0 last (p ∷ older) queue behind _
        (omega (arith, R.0), omega arith, falling_wider (suc low) p.number.0 older R.0 F) R.1 (both.1.0, both.0) both.1.1

    marks_guarded : (room last : ℕ) (queue : List Packet) (marks : List ℕ) → Rising 0 last queue → Backed marks queue
        → Backed (mark_from M slots now [] (take (room - 1) queue) marks) queue
    marks_guarded room last queue marks R G =
        let whole = take-append-drop (room - 1) queue in
        subst (Backed (mark_from M slots now [] (take (room - 1) queue) marks)) whole
        (from_guarded 0 last [] (take (room - 1) queue) (drop (room - 1) queue) marks tt (subst (Rising 0 last) (sym whole) R) tt (subst (Backed marks) (sym whole) G))

  module _ (room : ℕ) (slots : List ℕ) where
    abbrev P : Policy Marked
    P = mf_policy room M slots

    -- a state that the run comes to: numbers rise, no packet to come is marked, and each marked packet has a hi packet behind it
    record Stand (last : ℕ) (s : Marked) : Type 0 where
      rising : Rising 0 last s.queue
      fresh : (k : ℕ) → last ≤ k → get_or s.marks k 0 ≡ 0
      guarded : Backed s.marks s.queue

    finish_stands : (last : ℕ) (now : Slot) (s : Marked) → Stand last s → Stand last (P.finish now s).next
    finish_stands last now s T =
        let marks = marks_after room M slots now s in
        let m = head_mark marks s.queue in
        record {
          rising = rising_sent 0 last now (unflushed m marks s.queue) (rising_parted 0 last (flush_parted now m marks s.queue) T.rising);
          fresh = λ k h.
              from_other M slots now 0 last k [] (take (room - 1) s.queue) s.marks h tt (rising_take 0 last (room - 1) s.queue T.rising) ∙ T.fresh k h;
          guarded = send_guarded now marks (unflushed m marks s.queue)
              (flush_guarded m marks s.queue (marks_guarded slots now room last s.queue s.marks T.rising T.guarded));
        }

    arrive_stands : (last : ℕ) (a : Arrival) (s : Marked) → a.packet.number.0 ≡ suc last → (a.packet.value ≡ M.lo) ⊎ (a.packet.value ≡ M.hi)
        → Stand last s → Stand (suc last) (P.arrive a s).next
    arrive_stands last a s number value T =
        let place : place_of a.packet.number ≡ last = omega arith in
        let bare : is_marked s.marks a.packet ≡ false =
        ap (λ (k : ℕ). not (eqb (get_or s.marks k 0) 0)) place ∙ ap (λ (k : ℕ). not (eqb k 0)) (T.fresh last (omega arith)) in
        record {
          rising = rising_fair 0 last number (greedy_fair s.queue a.packet room) T.rising;
          fresh = λ k h. T.fresh k (omega arith);
          guarded = arrive_guarded s.marks a.packet value bare room s.queue T.guarded;
        }

    ends_leave : (last n : ℕ) (now : Slot) (s : Marked) → Stand last s → AtEnds (Leaves room M slots) P n now s
    ends_leave last zero now s T = tt
    ends_leave last (suc n) now s T = λ some. (
      leaves _ (marks_after room M slots now s) s.queue (marks_guarded slots now room last s.queue s.marks T.rising T.guarded) some,
      ends_leave last n (following now) (P.finish now s).next (finish_stands last now s T),
    )

    ends_stand : (last n : ℕ) (now : Slot) (s : Marked) → Stand last s → Stand last (slot_ends P n now s).next
    ends_stand last =
        slot_ends_induction P (λ n now s step. Stand last s → Stand last step.next) (λ n now s h T. T) (λ n now s step rest T. rest (finish_stands last now s T))

    -- each packet to come is lo or hi
    abbrev Values : List Arrival → Type 0
    Values [] = Unit {0}
    Values (a ∷ trace) = ((a.packet.value ≡ M.lo) ⊎ (a.packet.value ≡ M.hi)) × Values trace

    course_leaves : (last : ℕ) (now : Slot) (s : Marked) (trace : List Arrival) → Comes slots now.0 last trace → Values trace → Stand last s
        → AtEveryEnd (Leaves room M slots) P now s trace
    course_leaves last now s [] C W T = ends_leave last (length s.queue) now s T
    course_leaves last now s (a ∷ trace) C W T =
        let before = slot_ends P (slots_until now a.slot) now s in (
          ends_leave last (slots_until now a.slot) now s T,
          course_leaves (suc last) a.slot (P.arrive a before.next).next trace C.1 W.1
              (arrive_stands last a before.next C.0.number W.0 (ends_stand last (slots_until now a.slot) now s T)),
        )

    lo_or_hi_lem : (v : ℕ) → lo_or_hi M v ≡ true → (v ≡ M.lo) ⊎ (v ≡ M.hi)
    lo_or_hi_lem v e = go (eqb v M.lo) refl ((and-eq-true_iff (value_ok v) (eqb v M.lo || eqb v M.hi)).0 e).1
      where
        go : (t : Bool) → eqb v M.lo ≡ t → (t || eqb v M.hi) ≡ true → (v ≡ M.lo) ⊎ (v ≡ M.hi)
        go true h k = inl (eqb-true v M.lo h)
        go false h k = inr (eqb-true v M.hi k)

    taken : (before : Slot) (trace : List Arrival) → (packet_refusal_from (lo_or_hi M) before trace).number ≡ 0 → Values trace
    unfolding packet_refusal_from
    taken before [] z = tt
    taken before (a ∷ trace) z =
        let one = or_else_zero _ _ z in
        let two = or_else_zero _ _ one.1 in
        (lo_or_hi_lem a.packet.value (not-false _ (verdict_if_zero _ 5 _ two.0)), taken a.slot trace two.1)

lo_below_hi : (M : Marking) → marking_ok M ≡ true → M.lo < M.hi
lo_below_hi M e =
    let three = value_ok M.lo && value_ok M.hi && ltb M.lo M.hi in
    let all = (and-eq-true_iff three (leb M.r record_limits.r)).0 e in
    ltb-true M.lo M.hi ((and-eq-true_iff (value_ok M.lo && value_ok M.hi) (ltb M.lo M.hi)).0 all.0).1

pub flush_leaves : FlushLeaves
unfolding mf_refusal
flush_leaves slots values room M lists z =
    let one = or_else_zero _ _ z in
    let two = or_else_zero _ _ one.1 in
    let three = or_else_zero _ _ two.1 in
    let four = or_else_zero _ _ three.1 in
    let less = lo_below_hi M (not-false _ (verdict_if_zero _ 3 0 four.0)) in
    course_leaves M less room slots 0 first (unmarked (length slots)) (arrivals slots values)
    (mf_accepted slots values room lists M z).comes
    (taken M less room slots (record { 0 = 0 }) (arrivals slots values) four.1)
    (record { rising = omega arith; fresh = λ k h. zeros (length slots) k; guarded = tt })
