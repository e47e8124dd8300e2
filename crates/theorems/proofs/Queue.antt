-- Packets of value at least w in a queue, and the run of them at its head: what losing one packet does to both.
use Prim.Native.Nat.{ℕ, suc, ◌+◌, ◌≤◌}
use mathlib.Core.Path.{◌≡◌, refl}
use mathlib.Core.Bool.{Bool, true, false, cond}
use mathlib.Core.List.{List, [], ◌∷◌, ◌++◌}
use native.Mathlib.Omega.{arith}
use lib.ListN.{length}
use lib.Dec.{leb}
use borrow.Author.Tests.{le-leb}
use Rattle.model.specs.declared.Packet.{Packet}
use Rattle.theorems.proofs.Each.{Each}

-- 1 for a packet of value at least w
abbrev pub hi : ℕ → Packet → ℕ
hi w p = cond (leb w p.value) 1 0

-- how many packets of value at least w
unfoldable pub hi_in : ℕ → List Packet → ℕ
hi_in w [] = 0
hi_in w (p ∷ queue) = hi w p + hi_in w queue

-- how many of them stand at the head with no other before them
unfoldable pub hi_run : ℕ → List Packet → ℕ
hi_run w [] = 0
hi_run w (p ∷ queue) = cond (leb w p.value) (suc (hi_run w queue)) 0

-- no packet has a value below v
abbrev pub AtLeast : ℕ → List Packet → Type 0
AtLeast v queue = Each (λ p. v ≤ p.value) queue

module _ (w : ℕ) where
  pub hi_append : (xs ys : List Packet) → hi_in w (xs ++ ys) ≡ hi_in w xs + hi_in w ys
  unfolding hi_in
  hi_append [] ys = omega arith
  hi_append (x ∷ xs) ys = omega (arith, hi_append xs ys)

  pub hi_length : (xs : List Packet) → hi_in w xs ≤ length xs
  unfolding hi_in
  hi_length [] = omega arith
  hi_length (x ∷ xs) = go (leb w x.value) (hi_length xs)
    where
      go : (t : Bool) → hi_in w xs ≤ length xs → cond t 1 0 + hi_in w xs ≤ suc (length xs)
      go true h = omega arith
      go false h = omega arith

  pub run_hi : (xs : List Packet) → hi_run w xs ≤ hi_in w xs
  unfolding hi_in hi_run
  run_hi [] = omega arith
  run_hi (x ∷ xs) = go (leb w x.value) (run_hi xs)
    where
      go : (t : Bool) → hi_run w xs ≤ hi_in w xs → cond t (suc (hi_run w xs)) 0 ≤ cond t 1 0 + hi_in w xs
      go true h = omega arith
      go false h = omega arith

  -- what comes behind does not shorten the run
  pub run_append : (xs ys : List Packet) → hi_run w xs ≤ hi_run w (xs ++ ys)
  unfolding hi_run
  run_append [] ys = omega arith
  run_append (x ∷ xs) ys = go (leb w x.value) (run_append xs ys)
    where
      go : (t : Bool) → hi_run w xs ≤ hi_run w (xs ++ ys) → cond t (suc (hi_run w xs)) 0 ≤ cond t (suc (hi_run w (xs ++ ys))) 0
      go true h = omega arith
      go false h = omega arith

  -- losing a packet below w does not shorten it either
  pub run_without : (xs : List Packet) (p : Packet) (ys : List Packet) → leb w p.value ≡ false → hi_run w (xs ++ p ∷ ys) ≤ hi_run w (xs ++ ys)
  unfolding hi_run
  run_without [] p ys e = rw e (omega arith)
  run_without (x ∷ xs) p ys e = go (leb w x.value) (run_without xs p ys e)
    where
      go : (t : Bool) → hi_run w (xs ++ p ∷ ys) ≤ hi_run w (xs ++ ys)
          → cond t (suc (hi_run w (xs ++ p ∷ ys))) 0 ≤ cond t (suc (hi_run w (xs ++ ys))) 0
      go true h = omega arith
      go false h = omega arith

  -- where no packet is below w the run is the whole queue
  pub run_all : (v : ℕ) (xs : List Packet) → w ≤ v → AtLeast v xs → hi_run w xs ≡ length xs
  unfolding hi_run
  run_all v [] h l = refl
  run_all v (x ∷ xs) h l = rw (le-leb w x.value (omega arith)) (omega (arith, run_all v xs h l.1))
