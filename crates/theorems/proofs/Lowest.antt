-- A rule that holds the arrival at the back where there is room, and where there is none loses some packet of lowest value, the arrival or a held one.
-- Plain greedy is such a rule; which of equals it loses is left open.
use Prim.Native.Nat.{ℕ, suc, ◌+◌, ◌≤◌, ◌<◌}
use mathlib.Core.Path.{◌≡◌, refl, sym, ap, ap₂, subst, ◌∙◌}
use mathlib.Core.Bool.{Bool, true, false, ◌&&◌}
use mathlib.Core.List.{List, [], ◌∷◌, ◌++◌, append-nil, append_assoc}
use native.Mathlib.Numerals.{add-one}
use native.Mathlib.Omega.{arith}
use lib.ListN.{length, take, drop, length-append}
use lib.Seq.{take_at, take-append-le, drop-append-le, drop-append-add, take-append_seam}
use lib.Dec.{ltb}
use borrow.Author.Tests.{ltb-true, ltb-false, lt-ltb, le-ltb}
use Rattle.model.specs.declared.Packet.{Packet}
use Rattle.model.specs.Packets.{values_of}
use Rattle.model.specs.Course.{Decided}
use Rattle.model.specs.Policies.Greedy.{below_all, loser_at, without, overflow, greedy_rule}
use Rattle.theorems.proofs.Queue.{AtLeast}

-- `after` is `before` but for one packet, and no packet of `after` has a lower value
pub record LosesLowest (before after : List Packet) : Type 0 where
  pub front : List Packet
  pub lost : Packet
  pub back : List Packet
  pub were : before ≡ front ++ lost ∷ back
  pub stay : after ≡ front ++ back
  pub low : AtLeast lost.value (front ++ back)

pub record PushesOut (room : ℕ) (rule : List Packet → Packet → Decided) : Type 0 where
  pub holds : (queue : List Packet) (p : Packet) → length queue < room → (rule queue p).queue ≡ queue ++ p ∷ []
  pub loses : (queue : List Packet) (p : Packet) → room ≤ length queue → LosesLowest (queue ++ p ∷ []) (rule queue p).queue

-- what is not below all is at least what none is below
lowest_below : (v m : ℕ) (xs : List Packet) → below_all v (values_of xs) ≡ false → AtLeast m xs → m ≤ v
unfolding below_all
lowest_below v m [] e l = absurd (let n : ◌≡◌ {A = ℕ} 0 1 = cc in omega arith)
lowest_below v m (x ∷ xs) e l = go (ltb v x.value) refl e (λ f. lowest_below v m xs f l.1)
  where
    go : (t : Bool) → ltb v x.value ≡ t → t && below_all v (values_of xs) ≡ false → (below_all v (values_of xs) ≡ false → m ≤ v) → m ≤ v
    go true h e ih = ih e
    go false h e ih = omega (arith, ltb-false, l.0)

above_all : (v : ℕ) (xs : List Packet) → below_all v (values_of xs) ≡ true → AtLeast v xs
unfolding below_all
above_all v [] e = tt
above_all v (x ∷ xs) e = go (ltb v x.value) refl e (λ f. above_all v xs f)
  where
    go : (t : Bool) → ltb v x.value ≡ t → t && below_all v (values_of xs) ≡ true → (below_all v (values_of xs) ≡ true → AtLeast v xs)
        → (v ≤ x.value) × AtLeast v xs
    go true h e ih = (omega (arith, ltb-true), ih e)
    go false h e ih = absurd (let n : ◌≡◌ {A = ℕ} 0 1 = cc in omega arith)

put_back : (p : Packet) (xs ys : List Packet) → AtLeast p.value (xs ++ ys) → AtLeast p.value (xs ++ p ∷ ys)
put_back p [] ys l = (omega arith, l)
put_back p (x ∷ xs) ys l = (l.0, put_back p xs ys l.1)

-- the packet at loser_at, with those before it and behind it
record Loser (xs : List Packet) : Type 0 where
  front : List Packet
  lost : Packet
  back : List Packet
  were : xs ≡ front ++ lost ∷ back
  place : length front ≡ loser_at (values_of xs)
  low : AtLeast lost.value (front ++ back)

loser : (x : Packet) (xs : List Packet) → Loser (x ∷ xs)
unfolding loser_at below_all
loser x [] = record { front = []; lost = x; back = []; were = refl; place = refl; low = tt }
loser x (y ∷ ys) = go (below_all x.value (values_of (y ∷ ys))) refl (loser y ys)
  where
    go : (t : Bool) → below_all x.value (values_of (y ∷ ys)) ≡ t → Loser (y ∷ ys) → Loser (x ∷ y ∷ ys)
    go true e l =
        record {
          front = [];
          lost = x;
          back = y ∷ ys;
          were = refl;
          place = rw e;
          low = above_all x.value (y ∷ ys) e;
        }
    go false e l =
        record {
          front = x ∷ l.front;
          lost = l.lost;
          back = l.back;
          were = ap (λ (q : List Packet). x ∷ q) l.were;
          place = rw e (ap suc l.place);
          low = (
            lowest_below x.value l.lost.value (y ∷ ys) e
                (subst (AtLeast l.lost.value) (sym l.were) (put_back l.lost l.front l.back l.low)),
            l.low,
          );
        }

-- the same of a queue with an arrival behind it
loser_of : (queue : List Packet) (p : Packet) → Loser (queue ++ p ∷ [])
loser_of [] p = loser p []
loser_of (x ∷ queue) p = loser x (queue ++ p ∷ [])

nothing_behind : (xs : List Packet) → length xs ≡ 0 → xs ≡ []
nothing_behind [] e = refl
nothing_behind (x ∷ xs) e = absurd (omega arith)

module _ (queue : List Packet) (p : Packet) (l : Loser (queue ++ p ∷ [])) where
  size : length l.front + suc (length l.back) ≡ suc (length queue)
  size = omega (arith, simp length-append at (ap length l.were))

  -- a held packet is lost
  held_lost : length l.front < length queue → without (length l.front) queue ++ p ∷ [] ≡ l.front ++ l.back
  held_lost h =
      let i = length l.front in
      append_assoc (take i queue) (drop (suc i) queue) (p ∷ [])
      ∙ ap₂ ◌++◌
      (sym (take-append-le i queue (p ∷ []) (omega arith)) ∙ ap (take i) l.were ∙ take-append_seam l.front (l.lost ∷ l.back))
      (sym (drop-append-le (suc i) queue (p ∷ []) h) ∙ ap (drop (suc i)) l.were
      ∙ rw (← add-one i) (drop-append-add l.front (l.lost ∷ l.back) 1))

  -- the arrival is lost
  arrival_lost : length queue ≤ length l.front → queue ≡ l.front ++ l.back
  arrival_lost h =
      sym (take-append_seam queue (p ∷ []))
      ∙ ap (take (length queue)) l.were
      ∙ take_at l.front (l.lost ∷ l.back) (length queue) (omega (arith, size))
      ∙ rw (nothing_behind l.back (omega (arith, size))) (sym (append-nil l.front))

  one_lost : (overflow queue p).queue ≡ l.front ++ l.back
  one_lost = go (ltb (length l.front) (length queue)) refl
    where
      go : (t : Bool) → ltb (length l.front) (length queue) ≡ t → (overflow queue p).queue ≡ l.front ++ l.back
      go true e = rw (← l.place, e) (held_lost (ltb-true (length l.front) (length queue) e))
      go false e = rw (← l.place, e) (arrival_lost (ltb-false (length l.front) (length queue) e))

  lowest_lost : LosesLowest (queue ++ p ∷ []) (overflow queue p).queue
  lowest_lost =
      record { front = l.front; lost = l.lost; back = l.back; were = l.were; stay = one_lost; low = l.low }

pub greedy_pushes_out : (room : ℕ) → PushesOut room (greedy_rule room)
unfolding greedy_rule
greedy_pushes_out room =
    record {
      holds = λ queue p h. rw (lt-ltb (length queue) room h);
      loses = λ queue p h. rw (le-ltb (length queue) room h) (lowest_lost queue p (loser_of queue p));
    }
