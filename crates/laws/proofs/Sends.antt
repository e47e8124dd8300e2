-- Sendings go in the order of the numbers, at most one a slot: the queue's numbers rise, and what is sent is its oldest.
use Prim.Native.Nat.{ℕ, zero, suc, ◌+◌, ◌≤◌, ◌<◌}
use native.Mathlib.Omega.{arith}
use mathlib.Core.Path.{◌≡◌, refl, sym, ◌∙◌}
use mathlib.Core.Bool.{false}
use mathlib.Core.List.{List, [], ◌∷◌, ◌++◌, append-nil, append_assoc}
use lib.ListN.{length}
use borrow.Author.Tests.{lt-leb}
use Rattle.model.specs.declared.Fate.{Fate}
use Rattle.model.specs.declared.Fate.TheVariants.{Sent, Rejected, PushedOut, Preempted, Flushed}
use Rattle.model.specs.declared.LossKind.{LossKind}
use Rattle.model.specs.declared.LossKind.TheVariants as kinds
use Rattle.model.specs.declared.Packet.{Packet}
use Rattle.model.specs.declared.Slot.{Slot}
use Rattle.model.specs.Packets.{Arrival, slots_until}
use Rattle.model.specs.Record.{fate_number, loss_fate, Entry, Row}
use Rattle.model.specs.Rules.{has_fate, not_after_last}
use Rattle.model.specs.Course.{Policy, Decision, held, rejected, losing, entries_of, send_oldest, slot_ends, course}
use Rattle.laws.specs.Times.{times, times_entered}
use Rattle.laws.specs.Accepted.{Comes}
use Rattle.laws.proofs.Fifo.{Parted, none, goes, stays, Fifo}
use Rattle.laws.proofs.Conserving.{slot_ends_induction}
use Rattle.laws.proofs.Cases.{eqb_cases}
use Rattle.laws.proofs.Entered.{entry_of, EnteredOnce}
use Rattle.laws.proofs.Rising.{Rising, rising_fair, rising_parted}
use Rattle.laws.proofs.Held.{Older}

-- the first type for a sending, the second for all else
abbrev if_sent : Fate → Type 0 → Type 0 → Type 0
if_sent Sent sent other = sent
if_sent Rejected sent other = other
if_sent PushedOut sent other = other
if_sent Preempted sent other = other
if_sent Flushed sent other = other

-- sendings have rising numbers, above `low`, and rising slots, after `after`
abbrev pub SendsFrom : ℕ → ℕ → List Entry → Type 0
SendsFrom low after [] = Unit {0}
SendsFrom low after (e ∷ entries) =
    if_sent e.fate
    ((low < e.number.0) × (after < e.when.0) × SendsFrom e.number.0 e.when.0 entries)
    (SendsFrom low after entries)

if_sent_cases : (f : Fate) (A B G : Type 0) → if_sent f A B → (f ≡ Sent → A → G) → (B → G) → G
if_sent_cases Sent A B G h sent other = sent refl h
if_sent_cases Rejected A B G h sent other = other h
if_sent_cases PushedOut A B G h sent other = other h
if_sent_cases Preempted A B G h sent other = other h
if_sent_cases Flushed A B G h sent other = other h

loss_not_sent : (kind : LossKind) (A B : Type 0) → B → if_sent (loss_fate kind) A B
loss_not_sent kinds.PushedOut A B h = h
loss_not_sent kinds.Preempted A B h = h

arrive_sends : (low after : ℕ) (a : Arrival) (decision : Decision) (tail : List Entry) → SendsFrom low after tail →
    SendsFrom low after (entries_of a decision ++ tail)
arrive_sends low after a held tail h = h
arrive_sends low after a rejected tail h = h
arrive_sends low after a (losing l) tail h = loss_not_sent l.kind _ _ h

parted_sends : {now : Slot} {queue left : List Packet} {entries : List Entry} (low after : ℕ) (tail : List Entry) → Parted now queue entries left →
    SendsFrom low after tail → SendsFrom low after (entries ++ tail)
parted_sends low after tail none h = h
parted_sends low after tail (goes parted) h = parted_sends low after tail parted h
parted_sends low after tail (stays parted) h = parted_sends low after tail parted h

-- what comes after goes on from any number below those held and any slot before this
abbrev GoesOn : ℕ → ℕ → List Packet → List Entry → Type 0
GoesOn now last queue tail = (low after : ℕ) → Rising low last queue → after < now → SendsFrom low after tail

send_sends : (low after last : ℕ) (now : Slot) (queue : List Packet) (tail : List Entry) → Rising low last queue → after < now.0 →
    GoesOn (suc now.0) last (send_oldest now queue).next tail → SendsFrom low after ((send_oldest now queue).entries ++ tail)
send_sends low after last now [] tail h b on = on low after h (omega arith)
send_sends low after last now (p ∷ queue) tail h b on = (h.0, b, on p.number.0 now.0 h.1 (omega arith))

module _ {S : Type 0} {P : Policy S} (F : Fifo P) (last : ℕ) where
  finish_sends : (now : Slot) (s : S) (tail : List Entry) → GoesOn (suc now.0) last (P.held (P.finish now s).next) tail →
      GoesOn now.0 last (P.held s) ((P.finish now s).entries ++ tail)
  finish_sends now s tail on low after h b =
      rw (F.finish_enters now s, append_assoc)
      (parted_sends low after _ (F.parted now s)
      (send_sends low after last now (F.leaves now s) tail (rising_parted low last (F.parted now s) h) b (rw (F.finish_holds now s) at on)))

  slot_ends_sends : (k : ℕ) (now : Slot) (s : S) (till : ℕ) (tail : List Entry) → now.0 + k ≤ till →
      GoesOn till last (P.held (slot_ends P k now s).next) tail →
      GoesOn now.0 last (P.held s) ((slot_ends P k now s).entries ++ tail)
  slot_ends_sends =
      slot_ends_induction P
      (λ k now s step. (till : ℕ) (tail : List Entry) → now.0 + k ≤ till → GoesOn till last (P.held step.next) tail →
      GoesOn now.0 last (P.held s) (step.entries ++ tail))
      (λ k now s quiet till tail h on low after rising b. on low after rising (omega arith))
      (λ k now s step rest till tail h on.
      rw append_assoc (finish_sends now s (step.entries ++ tail) (rest till tail (omega arith) on)))

-- a course sends in order
pub course_sends : {S : Type 0} {P : Policy S} → Fifo P → (slots : List ℕ) (last : ℕ) (now : Slot) (s : S) (trace : List Arrival) →
    Comes slots now.0 last trace → GoesOn now.0 last (P.held s) (course P now s trace)
unfolding course
course_sends {P} F slots last now s [] C =
    let k = length (P.held s) in
    rw append-nil at (slot_ends_sends F last k now s (now.0 + k) [] (omega arith) (λ low after h b. tt))
course_sends {P} F slots last now s (a ∷ trace) C =
    let before = slot_ends P (slots_until now a.slot) now s in
    let step = P.arrive a before.next in
    slot_ends_sends F last (slots_until now a.slot) now s a.slot.0 _ (omega (arith, C.0.later))
    (λ low after h b.
    let rising : Rising low (suc last) (P.held step.next) =
    rw (F.arrive_holds a before.next) (rising_fair low last C.0.number (F.fair before.next a.packet) h)
    in
    rw (F.arrive_enters a before.next)
    (arrive_sends low after a (F.decides before.next a.packet).decision (course P a.slot step.next trace)
    (course_sends F slots (suc last) a.slot step.next trace C.1 low after rising b)))

-- who is sent has a higher number and a later slot
sends_after : (n low after : ℕ) (entries : List Entry) → SendsFrom low after entries → 0 < times_entered n entries → (entry_of n entries).fate ≡ Sent →
    (low < n) × (after < (entry_of n entries).when.0)
unfolding times entry_of
sends_after n low after [] h b sent = absurd (omega arith)
sends_after n low after (e ∷ entries) h b sent =
    eqb_cases e.number.0 n _
    (λ t q. let its = rw (rw t at sent) at h in rw t (omega (arith, its)))
    λ t q.
    let there : 0 < times_entered n entries = omega (arith, rw t at b) in
    rw t
    (if_sent_cases e.fate _ _ _ h
    (λ f its. omega (arith, its.0, its.1, sends_after n e.number.0 e.when.0 entries its.2 there (rw t at sent)))
    (λ its. sends_after n low after entries its there (rw t at sent)))

-- of two that are sent the older is sent first
pub sends_in_order : (i j low after : ℕ) (entries : List Entry) → SendsFrom low after entries → i < j →
    0 < times_entered i entries → 0 < times_entered j entries →
    (entry_of i entries).fate ≡ Sent → (entry_of j entries).fate ≡ Sent → (entry_of i entries).when.0 < (entry_of j entries).when.0
unfolding times entry_of
sends_in_order i j low after [] h b bi bj si sj = absurd (omega arith)
sends_in_order i j low after (e ∷ entries) h b bi bj si sj =
    eqb_cases e.number.0 i _
    (λ t q.
    eqb_cases e.number.0 j _ (λ t' q'. absurd (omega arith))
    λ t' q'. let its = rw (rw t at si) at h in
    rw (t, t') (sends_after j e.number.0 e.when.0 entries its.2 (omega (arith, rw t' at bj)) (rw t' at sj)).1)
    λ t q.
    eqb_cases e.number.0 j _
    (λ t' q'.
    let its = rw (rw t' at sj) at h in
    absurd (omega (arith, sends_after i e.number.0 e.when.0 entries its.2 (omega (arith, rw t at bi)) (rw t at si))))
    λ t' q'.
    rw (t, t')
    (if_sent_cases e.fate _ _ _ h
    (λ f its. sends_in_order i j e.number.0 e.when.0 entries its.2 b (omega (arith, rw t at bi)) (omega (arith, rw t' at bj)) (rw t at si) (rw t' at sj))
    (λ its. sends_in_order i j low after entries its b (omega (arith, rw t at bi)) (omega (arith, rw t' at bj)) (rw t at si) (rw t' at sj)))

pub number_sent : (f : Fate) → fate_number f ≡ 1 → f ≡ Sent
number_sent Sent e = refl
number_sent Rejected e = absurd (omega arith)
number_sent PushedOut e = absurd (omega arith)
number_sent Preempted e = absurd (omega arith)
number_sent Flushed e = absurd (omega arith)

-- a sending is after all sendings of older packets
pub sends_not_after_last : (entries : List Entry) (packets : ℕ) → EnteredOnce packets entries → SendsFrom 0 0 entries →
    (j : ℕ) → j < packets → (entry_of (suc j) entries).fate ≡ Sent → (last : ℕ) → last ≤ j → (older : List Row) → Older entries last older →
    (when : Slot) → when.0 ≡ (entry_of (suc j) entries).when.0 → not_after_last when older ≡ false
unfolding not_after_last has_fate
sends_not_after_last entries packets O h j b sent zero l [] told when w = refl
sends_not_after_last entries packets O h j b sent zero l (r ∷ older) told when w = absurd told
sends_not_after_last entries packets O h j b sent (suc last) l [] told when w = absurd told
sends_not_after_last entries packets O h j b sent (suc last) l (r ∷ older) told when w =
    eqb_cases r.fate 1 _
    (λ t q.
    let earlier = sends_in_order (suc last) (suc j) 0 0 entries h (omega arith) (omega (arith, O.once last (omega arith))) (omega (arith, O.once j b))
    (number_sent (entry_of (suc last) entries).fate (sym told.0.fate ∙ q)) sent
    in
    rw t (lt-leb when.0 r.when.0 (omega (arith, told.0.when))))
    λ t q. rw t (sends_not_after_last entries packets O h j b sent last (omega arith) older told.1 when w)
