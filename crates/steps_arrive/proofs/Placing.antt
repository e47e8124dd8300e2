-- What an arrival does to a window leaves a queue written from a place on: a part that moves down is written at its new place.
use Prim.Native.Nat.{ℕ, suc, ◌+◌, ◌-◌, ◌≤◌, ◌<◌}
use mathlib.Core.Path.{◌≡◌, sym, ap, ap₂, ◌∙◌}
use mathlib.Core.List.{List, ◌++◌}
use native.Mathlib.Omega.{arith}
use lib.ListN.{length, take, drop, length-take, length-drop}
use lib.Seq.{sets, take-take, drop-drop}
use borrow.Author.Tests.{lt-ltb, le-ltb}
use Rattle.model.specs.declared.Packet.{Packet}
use Rattle.model.specs.Policies.Greedy.{without}
use Rattle.laws.proofs.Lists.{length_without}
use Rattle.queue.specs.Slide.{slid}
use Rattle.queue.proofs.Moving.{slid_moved}
use Rattle.queue.proofs.Packets.{map_without}
use Rattle.steps.specs.declared.Window.{Window}
use Rattle.steps.specs.Window.{part, window_of, Within}
use Rattle.steps.specs.Lent.{Lent, lent, placed}
use Rattle.steps.proofs.Writing.{sets_both, sets_part, sets_own}
use Rattle.steps.proofs.Windows.{window, take_drop, window_length, window_values}
use Rattle.steps.proofs.Placing.{same_lent, reaches, window_numbers, placed_own}
use Rattle.steps_arrive.specs.Arrive.{open_place}

module _ (w : Window) (numbers values : List ℕ) (W : Within w numbers values) where
  abbrev all : Lent
  all = lent w numbers values

  abbrev queue : List Packet
  queue = window_of w numbers values

  -- moved to the start of its lists
  pub placed_start : lent (window 0 (w.tail - w.head)) (slid w.head w.tail 0 numbers) (slid w.head w.tail 0 values) ≡ placed 0 queue all
  unfolding placed
  placed_start =
      let n = window_length w numbers values W in
      let tail : w.tail - w.head ≡ 0 + length queue = omega arith in
      let start : (list : List ℕ) → w.tail ≤ length list → slid w.head w.tail 0 list ≡ sets list 0 (part w list) = λ list h.
      slid_moved w.head w.tail 0 list (omega arith) W.ordered h
      ∙ sets_part list 0 (drop w.head list) (w.tail - w.head) (omega arith) (rw length-drop (omega arith)) in
      same_lent (ap (window 0) tail) (start numbers (reaches w numbers values W) ∙ sym (ap (sets numbers 0) (window_numbers w numbers values W)))
      (start values W.inside ∙ sym (ap (sets values 0) (window_values w numbers values W)))

  -- a window with a free place behind it
  pub open_here : w.tail < length values → all ≡ placed (open_place all) queue all
  open_here free = rw (lt-ltb _ _ free) (sym (placed_own w numbers values W))

  pub open_start : length values ≤ w.tail
      → lent (window 0 (w.tail - w.head)) (slid w.head w.tail 0 numbers) (slid w.head w.tail 0 values) ≡ placed (open_place all) queue all
  open_start full = rw (le-ltb _ _ full) placed_start

  -- the packet at a place taken out
  module _ (place : ℕ) (inside : w.head + place < w.tail) where
    pub without_length : suc (length (without place queue)) ≡ length queue
    without_length = length_without place queue (omega (arith, window_length w numbers values W))

    closed : (list : List ℕ) → w.tail ≤ length list
        → slid (w.head + place + 1) w.tail (w.head + place) list ≡ sets list w.head (take place (part w list) ++ drop (suc place) (part w list))
    closed list fits =
        let behind = w.tail - (w.head + place + 1) in
        let held = drop w.head list in
        let next : w.head + suc place ≡ w.head + place + 1 = omega arith in
        let short : w.tail - w.head ≡ suc place + behind = omega arith in
        let first : take place (part w list) ≡ take place held = take-take place (w.tail - w.head) held (omega arith) in
        let second : drop (suc place) (part w list) ≡ take behind (drop (w.head + place + 1) list) =
        sym (ap (take behind) (sym (drop-drop (suc place) w.head list ∙ ap (λ (k : ℕ). drop k list) next))
        ∙ take_drop behind (suc place) held
        ∙ ap (λ (k : ℕ). drop (suc place) (take k held)) (sym short)) in
        let older : length (take place held) ≡ place = simp (length-take, length-drop) (omega arith) in
        slid_moved (w.head + place + 1) w.tail (w.head + place) list (omega arith) (omega arith) fits
        ∙ sets_part list (w.head + place) (drop (w.head + place + 1) list) behind (omega arith) (rw length-drop (omega arith))
        ∙ sym (ap₂ (λ (a b : List ℕ). sets list w.head (a ++ b)) first second
        ∙ sets_both list w.head (take place held) (take behind (drop (w.head + place + 1) list))
        ∙ ap₂ (λ (a : List ℕ) (k : ℕ). sets a (w.head + k) (take behind (drop (w.head + place + 1) list))) (sets_own list w.head place (omega arith)) older)

    pub placed_without : lent (window w.head (w.tail - 1)) (slid (w.head + place + 1) w.tail (w.head + place) numbers) (slid (w.head + place + 1) w.tail (w.head + place) values)
        ≡ placed w.head (without place queue) all
    unfolding placed
    placed_without =
        let n = window_length w numbers values W in
        let less = without_length in
        let tail : w.tail - 1 ≡ w.head + length (without place queue) = omega arith in
        same_lent (ap (window w.head) tail)
        (closed numbers (reaches w numbers values W)
        ∙ sym (ap (sets numbers w.head) (map_without (λ (p : Packet). p.number.0) place queue ∙ ap (λ (l : List ℕ). take place l ++ drop (suc place) l) (window_numbers w numbers values W))))
        (closed values W.inside
        ∙ sym (ap (sets values w.head) (map_without (λ (p : Packet). p.value) place queue ∙ ap (λ (l : List ℕ). take place l ++ drop (suc place) l) (window_values w numbers values W))))
