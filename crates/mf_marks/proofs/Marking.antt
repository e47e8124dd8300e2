-- The loops that mark: what is left of the marking, done on the marks as they are now, gives what the whole of it gives on the marks as they were.
use Prim.Native.Nat.{ℕ, zero, suc, min, ◌+◌, ◌-◌, ◌≤◌, ◌<◌}
use mathlib.Core.Path.{◌≡◌, refl, sym, ap, ap₂, ◌∙◌}
use mathlib.Core.Bool.{Bool, true, false, not, cond, ◌&&◌}
use mathlib.Core.List.{List, [], ◌∷◌}
use native.Mathlib.Numerals.{add-one}
use native.Mathlib.Omega.{arith}
use native.Mathlib.Nat.{add-zero}
use lib.ListN.{length, take, drop, set, length-take}
use lib.Seq.{take-take, take_all}
use lib.Dec.{eqb}
use Rattle.model.specs.declared.Packet.{Packet}
use Rattle.model.specs.declared.PacketNumber.{PacketNumber}
use Rattle.model.specs.declared.Slot.{Slot}
use Rattle.model.specs.Packets.{packet_in, place_of}
use Rattle.model.specs.Port.{packets_of}
use Rattle.model.specs.declared.Marking.{Marking}
use Rattle.model.specs.Policies.MF.{is_marked, mark_down, mark_from}
use Rattle.laws.proofs.Cases.{below}
use Rattle.queue.proofs.Packets.{packets_take}
use Rattle.steps.specs.declared.Window.{Window}
use Rattle.steps.specs.Window.{part, window_of, Within}
use Rattle.mf_marks.specs.Mark.{older_than, marked_by}
use Rattle.steps.proofs.Windows.{window, window_cons, window_none}

-- one of two lists by a test
pub by_first : (t : Bool) (first second list : List ℕ) → t ≡ true → list ≡ first → list ≡ cond t first second
by_first t first second list h e = rw h e

pub by_second : (t : Bool) (first second : List ℕ) → t ≡ false → second ≡ cond t first second
by_second t first second h = rw h refl

module _ (numbers values : List ℕ) (head n lo r : ℕ) (marking : PacketNumber) (marks₀ : List ℕ) where
  -- the first n packets come to the first i of them, with `left` still to mark
  pub record Down (i left : ℕ) (marks : List ℕ) : Type 0 where
    pub inside : i ≤ n
    pub same : length marks ≡ length marks₀
    pub rest : mark_down lo left marking (older_than numbers values head i) marks ≡ mark_down lo r marking (older_than numbers values head n) marks₀

  pub down_all : Down n r marks₀
  down_all = record { inside = omega arith; same = refl; rest = refl }

  pub down_none : (i left : ℕ) (marks : List ℕ) → i ≤ 0 → Down i left marks → marks ≡ mark_down lo r marking (older_than numbers values head n) marks₀
  unfolding mark_down older_than
  down_none zero left marks h D = D.rest
  down_none (suc i) left marks h D = absurd (omega arith)

  pub down_spent : (i left : ℕ) (marks : List ℕ) → left ≤ 0 → Down i left marks → marks ≡ mark_down lo r marking (older_than numbers values head n) marks₀
  unfolding mark_down
  down_spent i (suc left) marks h D = absurd (omega arith)
  down_spent i zero marks h D = sym (go (older_than numbers values head i)) ∙ D.rest
    where
      go : (older : List Packet) → mark_down lo 0 marking older marks ≡ marks
      go [] = refl
      go (p ∷ older) = refl

  -- the packet of a turn takes a mark
  abbrev Takes : ℕ → List ℕ → Bool
  Takes i marks =
      eqb (packet_in numbers values (head + i)).value lo && not (is_marked marks (packet_in numbers values (head + i)))

  turn : (i left : ℕ) (marks : List ℕ) (t : Bool) → Takes i marks ≡ t
      → mark_down lo (suc left) marking (older_than numbers values head (suc i)) marks
      ≡ cond t
      (mark_down lo left marking (older_than numbers values head i) (set marks (place_of (packet_in numbers values (head + i)).number) marking.0))
      (mark_down lo (suc left) marking (older_than numbers values head i) marks)
  unfolding mark_down older_than
  turn i left marks t e = rw e refl

  module _ (i left j l : ℕ) (marks : List ℕ) (D : Down i left marks) (some : i ≡ suc j) (more : left ≡ suc l) where
    abbrev before : (t : Bool) → Takes j marks ≡ t
        → cond t
        (mark_down lo l marking (older_than numbers values head j) (set marks (place_of (packet_in numbers values (head + j)).number) marking.0))
        (mark_down lo (suc l) marking (older_than numbers values head j) marks)
        ≡ mark_down lo r marking (older_than numbers values head n) marks₀
    before t e =
        sym (turn j l marks t e)
        ∙ ap₂ (λ (k m : ℕ). mark_down lo m marking (older_than numbers values head k) marks) (sym some) (sym more)
        ∙ D.rest

    pub down_marked : Takes j marks ≡ true
        → (marks' : List ℕ) → marks' ≡ set marks (place_of (packet_in numbers values (head + j)).number) marking.0 → length marks' ≡ length marks
        → Down j l marks'
    down_marked e marks' s same =
        record {
          inside = omega (arith, D.inside);
          same = same ∙ D.same;
          rest = ap (mark_down lo l marking (older_than numbers values head j)) s ∙ before true e;
        }

    pub down_passed : Takes j marks ≡ false → Down j left marks
    down_passed e =
        record {
          inside = omega (arith, D.inside);
          same = D.same;
          rest = ap (λ (m : ℕ). mark_down lo m marking (older_than numbers values head j) marks) more ∙ before false e;
        }

module _ (w : Window) (numbers values : List ℕ) (W : Within w numbers values) where
  -- the first packets of a window are a window
  pub window_take : (n most : ℕ) → n ≡ min most (w.tail - w.head) → window_of (window w.head (w.head + n)) numbers values ≡ take most (window_of w numbers values)
  unfolding window_of
  window_take n most e = ap₂ packets_of (first numbers) (first values) ∙ packets_take most (part w numbers) (part w values)
    where
      first : (list : List ℕ) → take (w.head + n - w.head) (drop w.head list) ≡ take most (part w list)
      first list =
          let held = drop w.head list in
          let whole : w.head + n - w.head ≡ n = omega arith in
          ap (λ (k : ℕ). take k held) whole
          ∙ below most (w.tail - w.head) (take n held ≡ take most (take (w.tail - w.head) held))
          (λ fewer.
          let k : n ≡ most = omega arith in
          ap (λ (j : ℕ). take j held) k ∙ sym (take-take most (w.tail - w.head) held (omega arith)))
          (λ all.
          let k : n ≡ w.tail - w.head = omega arith in
          ap (λ (j : ℕ). take j held) k ∙ sym (take_all most (take (w.tail - w.head) held) (rw length-take (omega arith))))

module _ (numbers values slots : List ℕ) (head n : ℕ) (M : Marking) (slot : Slot) (marks₀ : List ℕ) where
  -- the first n packets come to those from place i on
  pub record Passing (i : ℕ) (marks : List ℕ) : Type 0 where
    pub inside : i ≤ n
    pub same : length marks ≡ length marks₀
    pub rest : mark_from M slots slot (older_than numbers values head i) (window_of (window (head + i) (head + n)) numbers values) marks
        ≡ mark_from M slots slot [] (window_of (window head (head + n)) numbers values) marks₀

  pub passing_all : Passing 0 marks₀
  unfolding older_than
  passing_all =
      record {
        inside = omega arith;
        same = refl;
        rest = ap (λ (k : ℕ). mark_from M slots slot [] (window_of (window k (head + n)) numbers values) marks₀) (add-zero head);
      }

  module _ (W : Within (window head (head + n)) numbers values) (i : ℕ) (marks : List ℕ) (P : Passing i marks) where
    left : Within (window (head + i) (head + n)) numbers values
    left = record { ordered = omega (arith, P.inside); inside = W.inside; same = W.same }

    pub passing_none : n ≤ i → marks ≡ mark_from M slots slot [] (window_of (window head (head + n)) numbers values) marks₀
    unfolding mark_from
    passing_none h =
        sym (ap (λ (queue : List Packet). mark_from M slots slot (older_than numbers values head i) queue marks)
        (window_none (head + i) (head + n) numbers values left (omega arith)))
        ∙ P.rest

    abbrev next : Packet
    next = packet_in numbers values (head + i)

    pub passing_turn : i < n → (marks' : List ℕ)
        → marks'
        ≡ marked_by M slots slot (older_than numbers values head i) next marks
        → length marks' ≡ length marks → Passing (i + 1) marks'
    unfolding mark_from older_than
    passing_turn some marks' e same =
        let cons = window_cons (head + i) (head + n) numbers values left (omega arith) in
        let place : head + (i + 1) ≡ head + i + 1 = omega arith in
        record {
          inside = omega arith;
          same = same ∙ P.same;
          rest = ap₂ (λ (older queue : List Packet). mark_from M slots slot older queue marks')
              (ap (older_than numbers values head) (add-one i)) (ap (λ (k : ℕ). window_of (window k (head + n)) numbers values) place)
              ∙ ap (mark_from M slots slot (next ∷ older_than numbers values head i) (window_of (window (head + i + 1) (head + n)) numbers values)) e
              ∙ sym (ap (λ (queue : List Packet). mark_from M slots slot (older_than numbers values head i) queue marks) cons)
              ∙ P.rest;
        }
