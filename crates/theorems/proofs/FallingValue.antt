-- The offline plan's order takes the packets of value at least w first, all of them, and after these the others.
use Prim.Native.Nat.{ℕ, suc, ◌≤◌, ◌<◌}
use mathlib.Core.Path.{◌≡◌, refl, ap}
use mathlib.Core.Bool.{Bool, true, false, cond}
use mathlib.Core.List.{List, [], ◌∷◌, ◌++◌}
use native.Mathlib.Omega.{arith}
use lib.Dec.{leb}
use borrow.Author.Tests.{leb-true, leb-false, le-leb, lt-leb}
use Rattle.model.specs.Packets.{Arrival}
use Rattle.model.specs.Policies.Plan.{insert, by_falling_value}
use Rattle.theorems.proofs.Each.{Each, each_map}

-- the packets of a trace that a test on their values picks
unfoldable pub picked : (ℕ → Bool) → List Arrival → List Arrival
picked test [] = []
picked test (a ∷ trace) = cond (test a.packet.value) (a ∷ picked test trace) (picked test trace)

abbrev pub at_least : ℕ → ℕ → Bool
at_least w v = leb w v

abbrev pub below : ℕ → ℕ → Bool
below w v = leb (suc v) w

module _ (P : Arrival → Type 0) where
  each_insert : (a : Arrival) (xs : List Arrival) → P a → Each P xs → Each P (insert a xs)
  unfolding insert
  each_insert a [] p h = (p, tt)
  each_insert a (b ∷ xs) p h = go (leb b.packet.value a.packet.value) (each_insert a xs p h.1)
    where
      go : (t : Bool) → Each P (insert a xs) → Each P (cond t (a ∷ b ∷ xs) (b ∷ insert a xs))
      go true ih = (p, h)
      go false ih = (h.0, ih)

  pub each_falling : (trace : List Arrival) → Each P trace → Each P (by_falling_value trace)
  unfolding by_falling_value
  each_falling [] h = tt
  each_falling (a ∷ trace) h = each_insert a (by_falling_value trace) h.0 (each_falling trace h.1)

  insert_each : (a : Arrival) (xs : List Arrival) → Each P (insert a xs) → P a × Each P xs
  unfolding insert
  insert_each a [] h = (h.0, tt)
  insert_each a (b ∷ xs) h = go (leb b.packet.value a.packet.value) h (insert_each a xs)
    where
      go : (t : Bool) → Each P (cond t (a ∷ b ∷ xs) (b ∷ insert a xs)) → (Each P (insert a xs) → P a × Each P xs) → P a × Each P (b ∷ xs)
      go true h ih = (h.0, h.1)
      go false h ih = let r = ih h.1 in (r.0, (h.0, r.1))

  -- what holds in the order holds in the trace
  pub falling_each : (trace : List Arrival) → Each P (by_falling_value trace) → Each P trace
  unfolding by_falling_value
  falling_each [] h = tt
  falling_each (a ∷ trace) h = let r = insert_each a (by_falling_value trace) h in (r.0, falling_each trace r.1)

  module _ (test : ℕ → Bool) where
    pub each_picked : (trace : List Arrival) → Each P trace → Each (λ a. P a × (test a.packet.value ≡ true)) (picked test trace)
    unfolding picked
    each_picked [] h = tt
    each_picked (a ∷ trace) h = go (test a.packet.value) refl (each_picked trace h.1)
      where
        go : (t : Bool) → test a.packet.value ≡ t → Each (λ b. P b × (test b.packet.value ≡ true)) (picked test trace)
            → Each (λ b. P b × (test b.packet.value ≡ true)) (cond t (a ∷ picked test trace) (picked test trace))
        go true e ih = ((h.0, e), ih)
        go false e ih = ih

    pub picked_each : (trace : List Arrival) → Each P (picked test trace) → Each (λ a. test a.packet.value ≡ true → P a) trace
    unfolding picked
    picked_each [] h = tt
    picked_each (a ∷ trace) h = go (test a.packet.value) refl h (picked_each trace)
      where
        go : (t : Bool) → test a.packet.value ≡ t → Each P (cond t (a ∷ picked test trace) (picked test trace))
            → (Each P (picked test trace) → Each (λ b. test b.packet.value ≡ true → P b) trace)
            → (test a.packet.value ≡ true → P a) × Each (λ b. test b.packet.value ≡ true → P b) trace
        go true e h ih = (λ d. h.0, ih h.1)
        go false e h ih = (λ d. absurd (let z : ◌≡◌ {A = ℕ} 0 1 = cc in omega arith), ih h)

-- a packet of value at least w goes before all that are below, and one below w behind all that are not
insert_high : (w : ℕ) (a : Arrival) (xs ys : List Arrival) → w ≤ a.packet.value → Each (λ y. y.packet.value < w) ys
    → insert a (xs ++ ys) ≡ insert a xs ++ ys
unfolding insert
insert_high w a [] [] h l = refl
insert_high w a [] (y ∷ ys) h l = rw (le-leb y.packet.value a.packet.value (omega (arith, l.0)))
insert_high w a (x ∷ xs) ys h l = go (leb x.packet.value a.packet.value) (insert_high w a xs ys h l)
  where
    go : (t : Bool) → insert a (xs ++ ys) ≡ insert a xs ++ ys
        → cond t (a ∷ x ∷ (xs ++ ys)) (x ∷ insert a (xs ++ ys)) ≡ cond t (a ∷ x ∷ xs) (x ∷ insert a xs) ++ ys
    go true ih = refl
    go false ih = ap (λ (l : List Arrival). x ∷ l) ih

insert_low : (w : ℕ) (a : Arrival) (xs ys : List Arrival) → a.packet.value < w → Each (λ x. w ≤ x.packet.value) xs
    → insert a (xs ++ ys) ≡ xs ++ insert a ys
unfolding insert
insert_low w a [] ys h l = refl
insert_low w a (x ∷ xs) ys h l =
    rw (lt-leb x.packet.value a.packet.value (omega (arith, l.0))) (ap (λ (l : List Arrival). x ∷ l) (insert_low w a xs ys h l.1))

picked_pass : (test : ℕ → Bool) (trace : List Arrival) → Each (λ a. test a.packet.value ≡ true) (by_falling_value (picked test trace))
picked_pass test trace =
    each_falling (λ a. test a.packet.value ≡ true) (picked test trace)
    (each_map (λ a. Unit {0} × (test a.packet.value ≡ true)) (λ a. test a.packet.value ≡ true) (λ a h. h.1) (picked test trace)
    (each_picked (λ a. Unit {0}) test trace (each_any trace)))
  where
    each_any : (xs : List Arrival) → Each (λ a. Unit {0}) xs
    each_any [] = tt
    each_any (x ∷ xs) = (tt, each_any xs)

pub order_split : (w : ℕ) (trace : List Arrival)
    → by_falling_value trace ≡ by_falling_value (picked (at_least w) trace) ++ by_falling_value (picked (below w) trace)
unfolding by_falling_value picked
order_split w [] = refl
order_split w (a ∷ trace) = go (leb w a.packet.value) refl (order_split w trace)
  where
    high : List Arrival
    high = by_falling_value (picked (at_least w) trace)

    low : List Arrival
    low = by_falling_value (picked (below w) trace)

    go : (t : Bool) → leb w a.packet.value ≡ t → by_falling_value trace ≡ high ++ low
        → insert a (by_falling_value trace)
        ≡ by_falling_value (cond t (a ∷ picked (at_least w) trace) (picked (at_least w) trace))
        ++ by_falling_value (cond (leb (suc a.packet.value) w) (a ∷ picked (below w) trace) (picked (below w) trace))
    go true e ih =
        let h : w ≤ a.packet.value = leb-true w a.packet.value e in
        rw (lt-leb (suc a.packet.value) w (omega arith), ih)
        (insert_high w a high low h
        (each_map (λ y. below w y.packet.value ≡ true) (λ y. y.packet.value < w)
        (λ y p. leb-true (suc y.packet.value) w p) low (picked_pass (below w) trace)))
    go false e ih =
        let h : a.packet.value < w = leb-false w a.packet.value e in
        rw (le-leb (suc a.packet.value) w h, ih)
        (insert_low w a high low h
        (each_map (λ x. at_least w x.packet.value ≡ true) (λ x. w ≤ x.packet.value)
        (λ x p. leb-true w x.packet.value p) high (picked_pass (at_least w) trace)))
