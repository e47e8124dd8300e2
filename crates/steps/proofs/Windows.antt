-- What a window holds, entry by entry; with one entry more; and with its oldest taken: the part of each list first, then the packets of the two parts.
use Prim.Native.Nat.{ℕ, zero, suc, ◌+◌, ◌-◌, ◌≤◌, ◌<◌}
use mathlib.Core.Path.{◌≡◌, sym, ap, ap₂, ◌∙◌, refl}
use mathlib.Core.List.{List, [], ◌∷◌, ◌++◌}
use mathlib.Core.Bool.{Bool, true, false}
use native.Mathlib.Numerals.{add-one}
use native.Mathlib.Omega.{arith}
use native.Mathlib.Nat.{zero-add, suc-add}
use lib.ListN.{length, get_or, take, drop, set, length-take, length-drop, length-set}
use lib.Seq.{take-nil, drop-set-add, take-suc-set, drop-cons, get_or-take, get_or-drop}
use lib.Dec.{ltb}
use borrow.Author.Tests.{ltb-true, ltb-false}
use Rattle.model.specs.Packets.{packet_of, packet_in, nobody, values_of}
use Rattle.model.specs.declared.Packet.{Packet}
use Rattle.model.specs.Port.{packets_of}
use Rattle.std.specs.Prelude.{Some}
use Rattle.queue.proofs.Packets.{packets_append, packets_values, packets_length, packets_at_lem}
use Rattle.steps.specs.declared.Window.{Window}
use Rattle.steps.specs.Window.{part, window_of, Within, Holds, oldest_of}

abbrev pub window : ℕ → ℕ → Window
window head tail = record { head = head; tail = tail }

pub part_length : (w : Window) (list : List ℕ) → w.tail ≤ length list → length (part w list) ≡ w.tail - w.head
part_length w list h = simp (length-take, length-drop) (omega arith)

-- the queue that a window holds: its length, its values, and the packet at a place
module _ (w : Window) (numbers values : List ℕ) (W : Within w numbers values) where
  pub parts_same : length (part w numbers) ≡ length (part w values)
  parts_same = part_length w numbers (omega (arith, W.same, W.inside)) ∙ sym (part_length w values W.inside)

  pub window_length : length (window_of w numbers values) ≡ w.tail - w.head
  unfolding window_of
  window_length = packets_length (part w numbers) (part w values) parts_same ∙ part_length w values W.inside

  pub window_values : values_of (window_of w numbers values) ≡ part w values
  unfolding window_of
  window_values = packets_values (part w numbers) (part w values) parts_same

  pub window_at : (place : ℕ) → w.head + place < w.tail
      → get_or (window_of w numbers values) place nobody
      ≡ packet_in numbers values (w.head + place)
  unfolding window_of
  window_at place inside =
      packets_at_lem (part w numbers) (part w values) place parts_same (rw (part_length w values W.inside) (omega arith))
      ∙ ap₂ packet_of (entry_at numbers) (entry_at values)
    where
      entry_at : (list : List ℕ) → get_or (part w list) place 0 ≡ get_or list (w.head + place) 0
      entry_at list = get_or-take (w.tail - w.head) (drop w.head list) place 0 (omega arith) ∙ get_or-drop w.head list place 0

-- one more entry behind the window
stored_part : (w : Window) (list : List ℕ) (entry : ℕ) → w.head ≤ w.tail → w.tail < length list
    → part (window w.head (w.tail + 1)) (set list w.tail entry) ≡ part w list ++ entry ∷ []
stored_part w list entry ordered free =
    let n = w.tail - w.head in
    let k : w.tail + 1 - w.head ≡ suc n = omega arith in
    let t : w.tail ≡ w.head + n = omega arith in
    ap₂ take k (ap (λ (i : ℕ). drop w.head (set list i entry)) t ∙ drop-set-add w.head list n entry)
    ∙ take-suc-set (drop w.head list) n entry (rw length-drop (omega arith))

pub stored : (w : Window) (numbers values : List ℕ) (p : Packet) → Within w numbers values → w.tail < length values
    → Holds (window w.head (w.tail + 1)) (set numbers w.tail p.number.0) (set values w.tail p.value)
    (window_of w numbers values ++ p ∷ [])
unfolding window_of packets_of
stored w numbers values p W free =
    record {
      within = record { ordered = omega (arith, W.ordered); inside = simp length-set (omega arith); same = simp length-set W.same };
      is =
          ap₂ packets_of (stored_part w numbers p.number.0 W.ordered (omega (arith, W.same)))
          (stored_part w values p.value W.ordered free)
          ∙ packets_append (part w numbers) (part w values) (p.number.0 ∷ []) (p.value ∷ [])
          (part_length w numbers (omega (arith, W.same, W.inside)) ∙ sym (part_length w values W.inside));
    }

-- a part from a start, and the end cut off first
pub take_drop : (n start : ℕ) (list : List ℕ) → take n (drop start list) ≡ drop start (take (start + n) list)
take_drop n zero list = ap (λ (k : ℕ). take k list) (sym (zero-add n))
take_drop n (suc start) [] = rw suc-add (take-nil n)
take_drop n (suc start) (x ∷ list) = rw suc-add (take_drop n start list)

-- the oldest entry
part_cons : (head tail : ℕ) (list : List ℕ) → head < tail → tail ≤ length list
    → part (window head tail) list ≡ get_or list head 0 ∷ part (window (head + 1) tail) list
part_cons head tail list some fits =
    let n : tail - head ≡ suc (tail - (head + 1)) = omega arith in
    ap₂ take n (drop-cons list head 0 (omega arith))
    ∙ ap (λ (k : ℕ). get_or list head 0 ∷ take (tail - (head + 1)) (drop k list)) (sym (add-one head))

module _ (head tail : ℕ) (numbers values : List ℕ) (W : Within (window head tail) numbers values) where
  pub window_cons : head < tail
      → window_of (window head tail) numbers values
      ≡ packet_in numbers values head
      ∷ window_of (window (head + 1) tail) numbers values
  unfolding window_of packets_of
  window_cons some =
      ap₂ packets_of (part_cons head tail numbers some (omega (arith, W.same, W.inside))) (part_cons head tail values some W.inside)

  pub window_none : tail ≤ head → window_of (window head tail) numbers values ≡ []
  unfolding window_of packets_of
  window_none empty =
      let n : tail - head ≡ 0 = omega arith in
      ap (λ (k : ℕ). packets_of (take k (drop head numbers)) (take k (drop head values))) n

  -- the oldest is sent: something is held, and the window has it first
  pub oldest_sent : (p : Packet) → oldest_of (window_of (window head tail) numbers values) ≡ Some p
      → (head < tail) × (window_of (window head tail) numbers values ≡ p ∷ window_of (window (head + 1) tail) numbers values)
  oldest_sent p sent = go (ltb head tail) refl
    where
      go : (t : Bool) → ltb head tail ≡ t → (head < tail) × (window_of (window head tail) numbers values ≡ p ∷ window_of (window (head + 1) tail) numbers values)
      go false f =
          let none = window_none (ltb-false head tail f) in
          let z : ◌≡◌ {A = ℕ} 0 1 = cc in
          absurd (omega arith)
      go true f =
          let some : head < tail = ltb-true head tail f in
          let cons = window_cons some in
          let first : Packet = packet_in numbers values head in
          let same : Some first ≡ Some p = sym (ap oldest_of cons) ∙ sent in
          let is : first ≡ p = cc in
          (some, cons ∙ ap (λ (q : Packet). q ∷ window_of (window (head + 1) tail) numbers values) is)

  -- none is sent: nothing is held
  pub oldest_none : ((p : Packet) → oldest_of (window_of (window head tail) numbers values) ≡ Some p → ⊥) → window_of (window head tail) numbers values ≡ []
  oldest_none h = go (window_of (window head tail) numbers values) refl
    where
      go : (queue : List Packet) → window_of (window head tail) numbers values ≡ queue → queue ≡ []
      go [] e = refl
      go (p ∷ queue) e = absurd (h p (ap oldest_of e))
