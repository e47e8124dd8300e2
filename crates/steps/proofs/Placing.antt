-- A queue written from a place on is what the window holds then: entries written over themselves change nothing, and what is written behind a queue or over
-- it is one queue written.
use Prim.Native.Nat.{ℕ, ◌+◌, ◌-◌, ◌≤◌}
use mathlib.Core.Path.{◌≡◌, refl, sym, ap, ap₂, ◌∙◌}
use mathlib.Core.List.{List, [], ◌∷◌, ◌++◌}
use native.Mathlib.Omega.{arith}
use lib.ListN.{length, take, drop, set, length-append, length-map}
use lib.Seq.{sets, length-sets}
use Rattle.model.specs.declared.Packet.{Packet}
use Rattle.model.specs.Packets.{values_of, numbers_of}
use Rattle.model.specs.Port.{packets_of}
use Rattle.queue.proofs.Packets.{map_behind, packets_numbers, packets_both}
use Rattle.steps.specs.declared.Window.{Window}
use Rattle.steps.specs.Window.{part, window_of, Within, Holds}
use Rattle.steps.specs.Lent.{Lent, lent, placed}
use Rattle.steps.proofs.Writing.{sets_over, sets_both, sets_own, sets_read}
use Rattle.steps.proofs.Windows.{window, parts_same, window_length, window_values}

pub same_lent : {w w' : Window} {numbers numbers' values values' : List ℕ} → w ≡ w' → numbers ≡ numbers' → values ≡ values'
    → lent w numbers values ≡ lent w' numbers' values'
same_lent a b c = rw (a, b, c) refl

-- no packet written
pub placed_none : (place : ℕ) (w : Window) (numbers values : List ℕ) → lent (window place place) numbers values ≡ placed place [] (lent w numbers values)
unfolding placed
placed_none place w numbers values =
    let end : place ≡ place + 0 = omega arith in
    same_lent (ap (window place) end) refl refl

module _ (place : ℕ) (queue : List Packet) (l : Lent) where
  -- a queue that fits into the lists is what the window holds
  pub placed_holds : place + length queue ≤ length l.values → length l.numbers ≡ length l.values
      → Holds (placed place queue l).window (placed place queue l).numbers (placed place queue l).values queue
  unfolding placed window_of
  placed_holds fits same =
      let whole : place + length queue - place ≡ length queue = omega arith in
      let n = length-map queue (λ (p : Packet). p.number.0) in
      let v = length-map queue (λ (p : Packet). p.value) in
      record {
        within = record { ordered = omega arith; inside = rw length-sets fits; same = simp length-sets same };
        is =
            ap (λ (k : ℕ). packets_of (take k (drop place (sets l.numbers place (numbers_of queue)))) (take k (drop place (sets l.values place (values_of queue))))) whole
            ∙ ap₂ packets_of
            (ap (λ (k : ℕ). take k (drop place (sets l.numbers place (numbers_of queue)))) (sym n) ∙ sets_read l.numbers place (numbers_of queue) (omega arith))
            (ap (λ (k : ℕ). take k (drop place (sets l.values place (values_of queue)))) (sym v) ∙ sets_read l.values place (values_of queue) (omega arith))
            ∙ packets_both queue;
      }

  -- a queue that is no shorter, written over it
  pub placed_over : (more : List Packet) → length queue ≤ length more → placed place more (placed place queue l) ≡ placed place more l
  unfolding placed
  placed_over more h =
      let n = length-map queue (λ (p : Packet). p.number.0) in
      let v = length-map queue (λ (p : Packet). p.value) in
      let n' = length-map more (λ (p : Packet). p.number.0) in
      let v' = length-map more (λ (p : Packet). p.value) in
      same_lent refl (sets_over l.numbers place (numbers_of queue) (numbers_of more) (omega arith))
      (sets_over l.values place (values_of queue) (values_of more) (omega arith))

  -- a packet written behind it
  pub placed_behind : (p : Packet) (r : Lent) → r ≡ placed place queue l
      → lent (window r.window.head (r.window.tail + 1)) (set r.numbers r.window.tail p.number.0) (set r.values r.window.tail p.value)
      ≡ placed place (queue ++ p ∷ []) l
  unfolding placed
  placed_behind p r e =
      let n = length-map queue (λ (q : Packet). q.number.0) in
      let v = length-map queue (λ (q : Packet). q.value) in
      let longer : length (queue ++ p ∷ []) ≡ length queue + 1 = length-append queue (p ∷ []) in
      let tail : place + length queue + 1 ≡ place + length (queue ++ p ∷ []) = omega arith in
      ap (λ (k : Lent). lent (window k.window.head (k.window.tail + 1)) (set k.numbers k.window.tail p.number.0) (set k.values k.window.tail p.value)) e
      ∙ same_lent (ap (window place) tail)
      (ap (λ (k : ℕ). set (sets l.numbers place (numbers_of queue)) (place + k) p.number.0) (sym n)
      ∙ sym (ap (sets l.numbers place) (map_behind (λ (q : Packet). q.number.0) queue p) ∙ sets_both l.numbers place (numbers_of queue) (p.number.0 ∷ [])))
      (ap (λ (k : ℕ). set (sets l.values place (values_of queue)) (place + k) p.value) (sym v)
      ∙ sym (ap (sets l.values place) (map_behind (λ (q : Packet). q.value) queue p) ∙ sets_both l.values place (values_of queue) (p.value ∷ [])))

module _ (w : Window) (numbers values : List ℕ) (W : Within w numbers values) where
  abbrev all : Lent
  all = lent w numbers values

  abbrev queue : List Packet
  queue = window_of w numbers values

  pub reaches : w.tail ≤ length numbers
  reaches = omega (arith, W.same, W.inside)

  pub window_numbers : numbers_of queue ≡ part w numbers
  unfolding window_of
  window_numbers = packets_numbers (part w numbers) (part w values) (parts_same w numbers values W)

  -- written over itself
  pub placed_own : placed w.head queue all ≡ all
  unfolding placed
  placed_own =
      let n = window_length w numbers values W in
      let tail : w.head + length queue ≡ w.tail = omega (arith, W.ordered) in
      let own : (list : List ℕ) → w.tail ≤ length list → sets list w.head (part w list) ≡ list = λ list h. sets_own list w.head (w.tail - w.head) (omega (arith, W.ordered)) in
      same_lent (ap (window w.head) tail) (ap (sets numbers w.head) window_numbers ∙ own numbers reaches)
      (ap (sets values w.head) (window_values w numbers values W) ∙ own values W.inside)
