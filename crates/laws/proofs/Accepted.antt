-- What a trace that no call refuses gives to rely on. A chain of refusals is clear only if each of them is, and the walk over the packets is such a chain: the
-- packets come in number order, and slots that never go down from one packet to the next never go down at all.
use Prim.Native.Nat.{ℕ, zero, suc, ◌+◌, ◌≤◌, ◌<◌, max}
use native.Mathlib.Nat.{le_refl, le_of_suc-le-suc}
use native.Mathlib.Omega.{arith}
use mathlib.Core.Path.{◌≡◌, refl, sym, ap}
use mathlib.Core.Bool.{Bool, true, ◌&&◌, and-eq-true_iff, ◌||◌}
use mathlib.Core.List.{List, [], ◌∷◌}
use lib.ListN.{length, get_or}
use lib.Dec.{leb, eqb}
use borrow.Author.Tests.{leb-true, eqb-true, not-false}
use Rattle.model.specs.declared.Beta.{Beta}
use Rattle.model.specs.declared.Slot.{Slot}
use Rattle.model.specs.Limits.{record_limits, port_limits, within}
use Rattle.model.specs.Packets.{arrivals_from}
use Rattle.model.specs.Record.{Lists}
use Rattle.model.specs.Rules.{Verdict, clear}
use Rattle.model.specs.Refusals.{slot_ok, value_ok, lo_or_hi, packet_refusal_from, trace_refusal, plain_refusal, pg_refusal, mf_refusal}
use Rattle.model.specs.declared.Marking.{Marking}
use Rattle.laws.specs.Accepted.{Packets, Comes, Accepted}
use Rattle.laws.proofs.FirstFault.{or_else_zero, verdict_if_zero}

-- a verdict that is clear has number 0
pub clear_number : (v : Verdict) → clear ≡ v → v.number ≡ 0
clear_number v e = ap (λ (w : Verdict). w.number) (sym e)

-- the parts of a slot's test
record SlotFits (before s : ℕ) : Type 0 where
  from : 1 ≤ s
  to : s ≤ record_limits.slot
  above : before ≤ s

slot_fits : (before s : ℕ) → slot_ok (record { 0 = before }) (record { 0 = s }) ≡ true → SlotFits before s
unfolding within
slot_fits before s h =
    let both = (and-eq-true_iff (within 1 record_limits.slot s) (leb before s)).0 h in
    let range = (and-eq-true_iff (leb 1 s) (leb s record_limits.slot)).0 both.0 in
    record { from = leb-true 1 s range.0; to = leb-true s record_limits.slot range.1; above = leb-true before s both.1 }

-- what holds of the first and of all others holds of all
each : (P : ℕ → Type 0) (x : ℕ) (list : List ℕ) → P x → ((k : ℕ) → k < length list → P (get_or list k 0))
    → (k : ℕ) → k < length (x ∷ list) → P (get_or (x ∷ list) k 0)
each P x list here rest zero h = here
each P x list here rest (suc k) h = rest k (le_of_suc-le-suc h)

-- the packets, and that no slot is below `before`
record Walked (ok : ℕ → Bool) (before : ℕ) (slots values : List ℕ) : Type 0 where
  packets : Packets ok slots values
  above : (k : ℕ) → k < length slots → before ≤ get_or slots k 0

walked : (ok : ℕ → Bool) (before n : ℕ) (slots values : List ℕ) → length values ≡ length slots
    → (packet_refusal_from ok (record { 0 = before }) (arrivals_from n slots values)).number ≡ 0 → Walked ok before slots values
unfolding packet_refusal_from arrivals_from
walked ok before n [] values l e =
    record {
      packets = record {
        slot_from = λ k h. absurd (omega arith);
        slot_to = λ k h. absurd (omega arith);
        never_down = λ p q h h'. absurd (omega arith);
        taken = λ k h. absurd (omega arith);
      };
      above = λ k h. absurd (omega arith);
    }
walked ok before n (s ∷ slots) [] l e = absurd (omega arith)
walked ok before n (s ∷ slots) (v ∷ values) l e =
    let here = or_else_zero _ _ e in
    let next = or_else_zero _ _ here.1 in
    let fits = slot_fits before s (not-false _ (verdict_if_zero _ 4 n here.0)) in
    let rest = walked ok s (suc n) slots values (omega arith) next.1 in
    record {
      packets = record {
        slot_from = λ k h. each (λ (x : ℕ). 1 ≤ x) s slots fits.from rest.packets.slot_from k h;
        slot_to = λ k h. each (λ (x : ℕ). x ≤ record_limits.slot) s slots fits.to rest.packets.slot_to k h;
        never_down = λ p q h h'. order rest p q h h';
        taken = λ k h. pass rest (not-false _ (verdict_if_zero _ 5 n next.0)) k h;
      };
      above = λ k h. each (λ (x : ℕ). before ≤ x) s slots fits.above (λ j i. omega (arith, rest.above j i, fits.above)) k h;
    }
  where
    order : Walked ok s slots values → (p q : ℕ) → p ≤ q → q < length (s ∷ slots) → get_or (s ∷ slots) p 0 ≤ get_or (s ∷ slots) q 0
    order rest zero zero h h' = le_refl s
    order rest zero (suc q) h h' = rest.above q (le_of_suc-le-suc h')
    order rest (suc p) zero h h' = absurd (omega arith)
    order rest (suc p) (suc q) h h' = rest.packets.never_down p q (le_of_suc-le-suc h) (le_of_suc-le-suc h')

    pass : Walked ok s slots values → ok v ≡ true → (k : ℕ) → k < length (s ∷ slots) → ok (get_or (v ∷ values) k 0) ≡ true
    pass rest here zero h = here
    pass rest here (suc k) h = rest.packets.taken k (le_of_suc-le-suc h)

accepted_comes : (ok : ℕ → Bool) (slots : List ℕ) (now last : ℕ) (before : Slot) (rest values : List ℕ) → now ≤ max before.0 1 →
    ((k m : ℕ) → m ≡ last + k → get_or slots m 0 ≡ get_or rest k 0) → length slots ≡ last + length rest →
    (packet_refusal_from ok before (arrivals_from (suc last) rest values)).number ≡ 0 → Comes slots now last (arrivals_from (suc last) rest values)
unfolding packet_refusal_from arrivals_from
accepted_comes ok slots now last before [] values h there l z = tt
accepted_comes ok slots now last before (s ∷ rest) [] h there l z = tt
accepted_comes ok slots now last before (s ∷ rest) (v ∷ values) h there l z =
    let first = or_else_zero _ _ z in
    let second = or_else_zero _ _ first.1 in
    let fits = slot_fits before.0 s (not-false _ (verdict_if_zero _ 4 _ first.0)) in
    let here : get_or slots last 0 ≡ s = there 0 last (omega arith) in (
      record { number = refl; slot = omega arith; later = omega (arith, fits.from, fits.above); counted = omega arith },
      accepted_comes ok slots s (suc last) (record { 0 = s }) rest values (omega arith) (λ k m e. there (suc k) m (omega arith)) (omega arith) second.1,
    )

all_four : (a b c d : Bool) → (a && b && c && d) ≡ true → (a ≡ true) × (b ≡ true) × (c ≡ true) × (d ≡ true)
all_four a b c d h =
    let x = (and-eq-true_iff (a && b && c) d).0 h in
    let y = (and-eq-true_iff (a && b) c).0 x.0 in
    let z = (and-eq-true_iff a b).0 y.0 in
    (z.0, z.1, y.1, x.1)

-- a call that is not refused, whatever its own parameters are
pub accepted : (own : Verdict) (ok : ℕ → Bool) (slots values : List ℕ) (room : ℕ) (lists : Lists) →
    (trace_refusal own ok slots values room lists).number ≡ 0 → Accepted ok slots values room lists
unfolding within
accepted own ok slots values room lists z =
    let n = length slots in
    let first = or_else_zero _ _ z in
    let second = or_else_zero _ _ first.1 in
    let third = or_else_zero _ _ second.1 in
    let fourth = or_else_zero _ _ third.1 in
    let same = all_four (eqb (length values) n) (eqb (length lists.fates) n) (eqb (length lists.whens) n) (eqb (length lists.bys) n)
    (not-false _ (verdict_if_zero _ 0 0 first.0))
    in
    let rooms = (and-eq-true_iff (leb 1 room) (leb room port_limits.room)).0 (not-false _ (verdict_if_zero _ 2 0 third.0)) in
    let lengths = eqb-true (length values) n same.0 in
    record {
      lengths = lengths;
      sized = record {
        fates = eqb-true (length lists.fates) n same.1;
        whens = eqb-true (length lists.whens) n same.2;
        bys = eqb-true (length lists.bys) n same.3;
      };
      few = leb-true n record_limits.packets (not-false _ (verdict_if_zero _ 1 0 second.0));
      room_from = leb-true 1 room rooms.0;
      room_to = leb-true room port_limits.room rooms.1;
      packets = (walked ok 0 1 slots values lengths fourth.1).packets;
      comes = accepted_comes ok slots 1 0 (record { 0 = 0 }) slots values (omega arith)
          (λ k m e. let e' : m ≡ k = omega arith in rw e') (omega arith) fourth.1;
    }

-- MF's test of a value is the stricter one
pub lo_or_hi_ok : (M : Marking) (v : ℕ) → lo_or_hi M v ≡ true → value_ok v ≡ true
lo_or_hi_ok M v h = ((and-eq-true_iff (value_ok v) (eqb v M.lo || eqb v M.hi)).0 h).0

module _ (slots values : List ℕ) (room : ℕ) (lists : Lists) where
  pub plain_accepted : (plain_refusal slots values room lists).number ≡ 0 → Accepted value_ok slots values room lists
  unfolding plain_refusal
  plain_accepted z = accepted _ _ slots values room lists z

  pub pg_accepted : (beta : Beta) → (pg_refusal beta slots values room lists).number ≡ 0 → Accepted value_ok slots values room lists
  unfolding pg_refusal
  pg_accepted beta z = accepted _ _ slots values room lists z

  pub mf_accepted : (M : Marking) → (mf_refusal M slots values room lists).number ≡ 0 → Accepted (lo_or_hi M) slots values room lists
  unfolding mf_refusal
  mf_accepted M z = accepted _ _ slots values room lists z
