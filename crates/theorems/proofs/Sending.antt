-- What demand 3 needs of a record that obeys the rules: of its sent packets of value at least w, at most one more is sent at each slot's end, none is
-- sent before it arrives, and at most room have arrived and are still to be sent just after any arrival.
use Prim.Native.Nat.{ℕ, zero, suc, ◌+◌, ◌≤◌}
use mathlib.Core.Path.{◌≡◌, refl}
use mathlib.Core.Bool.{Bool, true, false, cond, ◌&&◌}
use mathlib.Core.List.{List, [], ◌∷◌}
use native.Mathlib.Nat.{add-zero, add-suc}
use native.Mathlib.Omega.{arith}
use lib.Dec.{leb, ltb}
use borrow.Author.Tests.{ltb-true, ltb-false, leb-false, lt-ltb}
use Rattle.model.specs.declared.Fate.TheVariants.{Sent}
use Rattle.model.specs.Record.{Row}
use Rattle.model.specs.Rules.{Buffer, Faultless, has_fate, at_fate, count_of, when_wrong, not_after_last, not_later, is_held_at, over_room}
use Rattle.theorems.specs.Demand3.{sent_at_least}

-- sent, of value at least w
abbrev pub is_sent_hi : ℕ → Row → Bool
is_sent_hi w r = has_fate Sent r && leb w r.value

-- how many of these are sent before slot t
unfoldable pub sent_before : ℕ → ℕ → List Row → ℕ
sent_before w t rows = count_of (λ r. is_sent_hi w r && ltb r.when.0 t) rows

-- sent packets of higher number are sent later; the newest row stands first
abbrev pub InOrder : List Row → Type 0
InOrder [] = Unit {0}
InOrder (r ∷ older) = (not_later older r ≡ false) × InOrder older

-- if each row that passes a test passes one of two others, so do their counts
count_split : (p q s : Row → Bool) → ((r : Row) → cond (p r) 1 0 ≤ cond (q r) 1 0 + cond (s r) 1 0)
    → (rows : List Row) → count_of p rows ≤ count_of q rows + count_of s rows
unfolding count_of
count_split p q s h [] = omega arith
count_split p q s h (r ∷ rows) = omega (arith, h r, count_split p q s h rows)

one_of : (t u : Bool) → cond (t && u) 1 0 ≤ cond t 1 0
one_of true true = omega arith
one_of true false = omega arith
one_of false u = omega arith

pub before_sent : (w t : ℕ) (rows : List Row) → sent_before w t rows ≤ sent_at_least w rows
unfolding sent_before sent_at_least count_of
before_sent w t [] = omega arith
before_sent w t (r ∷ rows) = omega (arith, one_of (is_sent_hi w r) (ltb r.when.0 t), before_sent w t rows)

-- a later slot has no fewer sent before it
pub before_later : (w t u : ℕ) (rows : List Row) → t ≤ u → sent_before w t rows ≤ sent_before w u rows
unfolding sent_before count_of
before_later w t u [] h = omega arith
before_later w t u (r ∷ rows) h =
    go (is_sent_hi w r) (ltb r.when.0 t) (ltb r.when.0 u) refl refl (before_later w t u rows h)
  where
    go : (s e f : Bool) → ltb r.when.0 t ≡ e → ltb r.when.0 u ≡ f → sent_before w t rows ≤ sent_before w u rows
        → cond (s && e) 1 0 + sent_before w t rows ≤ cond (s && f) 1 0 + sent_before w u rows
    go false e f he hf ih = omega arith
    go true false f he hf ih = omega arith
    go true true true he hf ih = omega arith
    go true true false he hf ih = omega (arith, ltb-true, ltb-false)

-- after the last sent packet's slot all are sent
settled : (w t : ℕ) (rows : List Row) → InOrder rows → not_after_last (record { 0 = t }) rows ≡ false → sent_at_least w rows ≤ sent_before w t rows
unfolding sent_before sent_at_least count_of not_after_last not_later
settled w t [] o h = omega arith
settled w t (r ∷ rows) o h = go (has_fate Sent r) (leb w r.value) h o.0 (λ u. settled w u rows o.1)
  where
    go : (s v : Bool) → cond s (leb t r.when.0) (not_after_last (record { 0 = t }) rows) ≡ false
        → s && not_after_last r.when rows ≡ false
        → ((u : ℕ) → not_after_last (record { 0 = u }) rows ≡ false → sent_at_least w rows ≤ sent_before w u rows)
        → cond (s && v) 1 0 + sent_at_least w rows ≤ cond ((s && v) && ltb r.when.0 t) 1 0 + sent_before w t rows
    go false v h p ih = omega (arith, ih t h)
    go true false h p ih =
        omega (arith, ih r.when.0 p, before_later w r.when.0 t rows (omega (arith, leb-false)))
    go true true h p ih =
        rw (lt-ltb r.when.0 t (leb-false t r.when.0 h))
        (omega (arith, ih r.when.0 p, before_later w r.when.0 t rows (omega (arith, leb-false))))

-- at most one more is sent at each slot's end
pub one_more : (w t : ℕ) (rows : List Row) → InOrder rows → sent_before w (suc t) rows ≤ suc (sent_before w t rows)
unfolding sent_before count_of not_later
one_more w t [] o = omega arith
one_more w t (r ∷ rows) o =
    go (has_fate Sent r) (leb w r.value) (ltb r.when.0 (suc t)) (ltb r.when.0 t) refl refl o.0 (one_more w t rows o.1)
  where
    go : (s v e f : Bool) → ltb r.when.0 (suc t) ≡ e → ltb r.when.0 t ≡ f
        → s && not_after_last r.when rows ≡ false
        → sent_before w (suc t) rows ≤ suc (sent_before w t rows)
        → cond (s && v && e) 1 0 + sent_before w (suc t) rows ≤ suc (cond (s && v && f) 1 0 + sent_before w t rows)
    go false v e f he hf p ih = omega arith
    go true false e f he hf p ih = omega arith
    go true true false f he hf p ih = omega arith
    go true true true true he hf p ih = omega arith
    go true true true false he hf p ih =
        let here : r.when.0 ≤ t = omega (arith, ltb-true) in
        omega (arith, settled w r.when.0 rows o.1 p, before_later w r.when.0 t rows here, before_sent w (suc t) rows)

-- at most so many more as slots end
pub more_by : (w t n : ℕ) (rows : List Row) → InOrder rows → sent_before w (t + n) rows ≤ sent_before w t rows + n
more_by w t zero rows o = rw (add-zero t) (omega arith)
more_by w t (suc n) rows o = rw (add-suc t n) (omega (arith, one_more w (t + n) rows o, more_by w t n rows o))

-- where a record stands in slot `now`, its packets up to the newest of `older` having arrived
pub record SoFar (w room now : ℕ) (older : List Row) : Type 0 where
  pub order : InOrder older
  pub held : sent_at_least w older ≤ sent_before w now older + room

-- a packet that is sent is sent before this slot or held just after its arrival
held_or_before : (w : ℕ) (at r : Row)
    → cond (is_sent_hi w r) 1 0 ≤ cond (is_sent_hi w r && ltb r.when.0 at.slot.0) 1 0 + cond (is_held_at at r) 1 0
unfolding is_held_at at_fate
held_or_before w at r = go (has_fate Sent r) (leb w r.value) (leb at.slot.0 r.when.0) (ltb r.when.0 at.slot.0) _ refl refl
  where
    go : (s v e f x : Bool) → leb at.slot.0 r.when.0 ≡ e → ltb r.when.0 at.slot.0 ≡ f
        → cond (s && v) 1 0
        ≤ cond (s && v && f) 1 0 + cond (cond s e x) 1 0
    go false v e f x he hf = omega arith
    go true false e f x he hf = omega arith
    go true true true f x he hf = omega arith
    go true true false true x he hf = omega arith
    go true true false false x he hf = omega (arith, leb-false, ltb-false)

-- a packet is not sent before the slot in which it arrives
sent_later : (B : Buffer) (older : List Row) (r : Row) (w : ℕ) → Faultless B older r
    → ◌≡◌ {A = ℕ} (cond (is_sent_hi w r && ltb r.when.0 r.slot.0) 1 0) 0
unfolding when_wrong at_fate
sent_later B older r w h = go (has_fate Sent r) (leb w r.value) (ltb r.when.0 r.slot.0) _ h.when
  where
    go : (s v e x : Bool) → cond s e x ≡ false → ◌≡◌ {A = ℕ} (cond (s && v && e) 1 0) 0
    go false v e x h = refl
    go true false e x h = refl
    go true true false x h = refl
    go true true true x h = absurd (let n : ◌≡◌ {A = ℕ} 0 1 = cc in omega arith)

module _ (w : ℕ) (B : Buffer) (older : List Row) (r : Row) (h : Faultless B older r) where
  -- an arrival changes nothing of what was sent before its slot
  pub before_arrival : sent_before w r.slot.0 (r ∷ older) ≡ sent_before w r.slot.0 older
  unfolding sent_before count_of
  before_arrival = omega (arith, sent_later B older r w h)

  pub so_far : InOrder older → SoFar w B.room r.slot.0 (r ∷ older)
  unfolding sent_before sent_at_least over_room
  so_far o =
      record {
        order = (h.later, o);
        held = omega (
          arith,
          count_split (is_sent_hi w) (λ x. is_sent_hi w x && ltb x.when.0 r.slot.0) (is_held_at r)
              (held_or_before w r) (r ∷ older),
          ltb-false B.room (count_of (is_held_at r) (r ∷ older)) h.within_room,
        );
      }
