-- No record that obeys the rules sends more packets of value at least w than a set B that fits and with which no other such packet fits. With of B
-- `came` so far and b held, and of the record `arrived` so far and `gone` already sent: where B's queue becomes full before it idles, gone + b is at
-- most came; where it does not, arrived is at most came.
use Prim.Native.Nat.{ℕ, zero, suc, ◌+◌, ◌-◌, ◌≤◌}
use mathlib.Core.Path.{◌≡◌, refl, subst}
use mathlib.Core.Bool.{Bool, true, false, cond, ◌&&◌, ◌||◌}
use mathlib.Core.List.{List, [], ◌∷◌}
use native.Mathlib.Omega.{arith}
use lib.Dec.{leb}
use borrow.Author.Tests.{leb-true, leb-false, eq-eqb, ne_eqb}
use Rattle.model.specs.declared.Slot.{Slot}
use Rattle.model.specs.declared.Fate.TheVariants.{Sent}
use Rattle.model.specs.Packets.{Arrival, slots_until}
use Rattle.model.specs.Record.{Row}
use Rattle.model.specs.Course.{first}
use Rattle.model.specs.Rules.{Buffer, Obeys, ObeysFrom, has_fate, count_of, buffer_of}
use Rattle.theorems.specs.Demand3.{sent_at_least}
use Rattle.theorems.proofs.Each.{Each, each_map, each_both}
use Rattle.laws.specs.Accepted.{Comes}
use Rattle.theorems.proofs.Trace.{arrival_of, trace_of}
use Rattle.theorems.proofs.Sending.{is_sent_hi, sent_before, SoFar, before_sent, more_by, before_arrival, so_far}
use Rattle.theorems.proofs.Fits.{place_in, after, Fits, fits_less, more, fills, room_now, room_left}

-- how many packets of a trace are in a set
unfoldable pub set_in : (ℕ → ℕ) → List Arrival → ℕ
set_in set [] = 0
set_in set (a ∷ trace) = set (place_in a) + set_in set trace

later_places : (slots : List ℕ) (k now : ℕ) (trace : List Arrival) → Comes slots now k trace → Each (λ a. k ≤ place_in a) trace
later_places slots k now [] a = tt
later_places slots k now (b ∷ trace) a = (
  omega (arith, a.0.number),
  each_map (λ x. suc k ≤ place_in x) (λ x. k ≤ place_in x) (λ x h. omega arith) trace (later_places slots (suc k) b.slot.0 trace a.1),
)

-- a gap: what holds before it holds after it, of the queue as it will be after the next arrival
over_gap : (room b gap came arrived gone gone' : ℕ) (full lasts later : Bool) → leb room b ≡ full → leb gap b ≡ lasts
    → arrived ≤ gone + room → gone' ≤ gone + gap → gone' ≤ arrived
    → (full || lasts && later ≡ true → gone + b ≤ came)
    → (full || lasts && later ≡ false → arrived ≤ came)
    → (later ≡ true → gone' + (b - gap) ≤ came) × (later ≡ false → arrived ≤ came)
over_gap room b gap came arrived gone gone' true lasts later ef el h1 h2 h3 busy slack =
    let f = busy refl in
    (λ e. omega (arith, leb-true room b ef), λ e. omega (arith, leb-true room b ef))
over_gap room b gap came arrived gone gone' false false later ef el h1 h2 h3 busy slack =
    let f = slack refl in
    (λ e. omega (arith, leb-false gap b el), λ e. f)
over_gap room b gap came arrived gone gone' false true later ef el h1 h2 h3 busy slack =
    (λ e. omega (arith, busy e, leb-true gap b el), slack)

-- after the last arrival
at_end : (room b came arrived gone : ℕ) (full : Bool) → leb room b ≡ full → arrived ≤ gone + room
    → (full ≡ true → gone + b ≤ came) → (full ≡ false → arrived ≤ came) → arrived ≤ came
at_end room b came arrived gone true e h busy slack = omega (arith, busy refl, leb-true room b e)
at_end room b came arrived gone false e h busy slack = slack refl

module _ (w room : ℕ) (set : ℕ → ℕ) where
  -- no packet of value at least w that is not in the set fits with it
  abbrev pub Blocks : Slot → ℕ → List Arrival → Arrival → Type 0
  Blocks now b trace x = w ≤ x.packet.value → set (place_in x) ≡ 0 → Fits room (more (place_in x) set) now b trace → ⊥

  module _ (slots : List ℕ) (now : Slot) (b k : ℕ) (a : Arrival) (trace : List Arrival)
      (comes : Comes slots now.0 k (a ∷ trace)) (fits : Fits room set now b (a ∷ trace)) where
    later : Each (λ x. suc k ≤ place_in x) trace
    later = later_places slots (suc k) a.slot.0 trace comes.1

    -- at another place the set is as it was
    other : (x : Arrival) → suc k ≤ place_in x → more (place_in x) set (place_in a) ≡ set (place_in a)
    other x h = rw (ne_eqb (place_in a) (place_in x) (λ e. omega (arith, comes.0.number)))

    pub still_blocks : Each (Blocks now b (a ∷ trace)) trace → Each (Blocks a.slot (after set now b a) trace) trace
    still_blocks h =
        each_map (λ x. suc k ≤ place_in x × Blocks now b (a ∷ trace) x) (Blocks a.slot (after set now b a) trace)
        (λ x g v z f.
        let same : after (more (place_in x) set) now b a ≡ after set now b a = rw (other x g.0) in
        g.1 v z (rw same (fits.0, f)))
        trace (each_both (λ x. suc k ≤ place_in x) (Blocks now b (a ∷ trace)) trace later h)

    -- where the queue does not become full before it idles, a packet of value at least w is in the set
    pub must_be_in : fills room set a.slot (after set now b a) trace ≡ false → w ≤ a.packet.value → Blocks now b (a ∷ trace) a
        → 1 ≤ set (place_in a)
    must_be_in e v block = go (set (place_in a)) refl
      where
        go : (n : ℕ) → set (place_in a) ≡ n → 1 ≤ n
        go (suc n) z = omega arith
        go zero z =
            let n = after set now b a in
            let one : after (more (place_in a) set) now b a ≡ suc n = rw (eq-eqb (place_in a) (place_in a) refl) (omega arith) in
            let same = each_map (λ x. suc k ≤ place_in x) (λ x. more (place_in a) set (place_in x) ≤ set (place_in x))
            (λ x h. rw (ne_eqb (place_in x) (place_in a) (λ q. omega (arith, comes.0.number))) (omega arith)) trace later in
            absurd (block v z
            (rw one (
              room_now room set a.slot n trace e,
              fits_less room (more (place_in a) set) set a.slot (suc n) (suc n) trace (omega arith) same
                  (room_left room set a.slot n trace e fits.1),
            )))

  -- a record takes no more than is in the set, unless the queue becomes full before it idles
  takes_in : (r : Row) (n : ℕ) → (w ≤ r.value → 1 ≤ n) → cond (is_sent_hi w r) 1 0 ≤ n
  takes_in r n h = go (has_fate Sent r) (leb w r.value) refl
    where
      go : (s v : Bool) → leb w r.value ≡ v → cond (s && v) 1 0 ≤ n
      go false v e = omega arith
      go true false e = omega arith
      go true true e = h (leb-true w r.value e)

  most_walk : (slots : List ℕ) (k came b : ℕ) (now : Slot) (older rows : List Row)
      → Comes slots now.0 k (trace_of rows)
      → ObeysFrom (buffer_of slots room) older rows
      → SoFar w room now.0 older
      → Fits room set now b (trace_of rows)
      → Each (Blocks now b (trace_of rows)) (trace_of rows)
      → (fills room set now b (trace_of rows) ≡ true → sent_before w now.0 older + b ≤ came)
      → (fills room set now b (trace_of rows) ≡ false → sent_at_least w older ≤ came)
      → sent_at_least w older + sent_at_least w rows ≤ came + set_in set (trace_of rows)
  unfolding fills set_in sent_at_least count_of
  most_walk slots k came b now older [] a o s f blocks busy slack =
      omega (arith, at_end room b came (sent_at_least w older) (sent_before w now.0 older) (leb room b) refl s.held busy slack)
  most_walk slots k came b now older (r ∷ rows) a o s f blocks busy slack =
      let B : Buffer = buffer_of slots room in
      let p = arrival_of r in
      let gap = slots_until now r.slot in
      let here = so_far w B older r o.0 s.order in
      let same = before_arrival w B older r o.0 in
      let gone = sent_before w now.0 older in
      let gone' = sent_before w r.slot.0 older in
      let later : gone' ≤ gone + gap = subst (λ (t : ℕ). sent_before w t older ≤ gone + gap) (omega (arith, a.0.later))
      (more_by w now.0 gap older s.order) in
      let gapped = over_gap room b gap came (sent_at_least w older) gone gone' (leb room b) (leb gap b)
      (fills room set r.slot (after set now b p) (trace_of rows))
      refl refl s.held later (before_sent w r.slot.0 older) busy slack in
      omega (
        arith,
        most_walk slots (suc k) (came + set (place_in p)) (after set now b p) r.slot (r ∷ older) rows a.1 o.1 here f.1
            (still_blocks slots now b k p (trace_of rows) a f blocks.1)
            (λ e. rw same (omega (arith, gapped.0 e)))
            (λ e. omega (arith, gapped.1 e, takes_in r (set (place_in p)) (λ v. must_be_in slots now b k p (trace_of rows) a f e v blocks.0))),
      )

  pub sent_most : (slots : List ℕ) (rows : List Row) → Comes slots 1 0 (trace_of rows) → Obeys (buffer_of slots room) rows
      → Fits room set first 0 (trace_of rows)
      → Each (Blocks first 0 (trace_of rows)) (trace_of rows)
      → sent_at_least w rows ≤ set_in set (trace_of rows)
  unfolding sent_at_least sent_before count_of
  sent_most slots rows a o f blocks =
      omega (
        arith,
        most_walk slots 0 0 0 first [] rows a o (record { order = tt; held = omega arith }) f blocks
            (λ e. omega arith) (λ e. omega arith),
      )
