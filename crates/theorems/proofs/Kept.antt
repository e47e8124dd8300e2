-- What keeping packets in turn comes to: the kept packets fit, none of them is let go later, and a packet that is not kept does not fit with those that
-- are.
use Prim.Native.Nat.{ℕ, zero, suc, ◌≤◌, ◌<◌}
use mathlib.Core.Path.{◌≡◌, refl, ◌∙◌}
use mathlib.Core.Bool.{Bool, true, false, cond}
use mathlib.Core.List.{List, [], ◌∷◌, ◌++◌}
use native.Mathlib.Omega.{arith}
use lib.ListN.{length, set, length-set}
use lib.Seq.{get_or-set_same, get_or-set_other}
use lib.Dec.{eqb}
use borrow.Author.Tests.{eqb-true, eqb-false}
use Rattle.model.specs.Packets.{Arrival}
use Rattle.model.specs.Course.{first}
use Rattle.model.specs.Policies.Plan.{fits, keep_in_turn}
use Rattle.laws.proofs.Cases.{eqb_cases}
use Rattle.theorems.proofs.Each.{Each}
use Rattle.theorems.proofs.Fits.{place_in, Fits, set_of, true_fits, fits_true, fits_less, more}

each_always : (P : Arrival → Type 0) → ((a : Arrival) → P a) → (trace : List Arrival) → Each P trace
each_always P h [] = tt
each_always P h (a ∷ trace) = (h a, each_always P h trace)

-- to write a 1 is to add the place
set_more : (kept : List ℕ) (j i : ℕ) → j < length kept → set_of (set kept j 1) i ≡ more j (set_of kept) i
set_more kept j i h = go (eqb i j) refl
  where
    go : (t : Bool) → eqb i j ≡ t → set_of (set kept j 1) i ≡ cond t 1 (set_of kept i)
    go true e = rw (eqb-true i j e) (get_or-set_same kept j 1 0 h)
    go false e = get_or-set_other kept j i 1 0 (eqb-false i j e)

more_grows : (j i : ℕ) (s t : ℕ → ℕ) → s i ≤ t i → more j s i ≤ more j t i
more_grows j i s t h = go (eqb i j)
  where
    go : (b : Bool) → cond b 1 (s i) ≤ cond b 1 (t i)
    go true = omega arith
    go false = h

more_holds : (j i : ℕ) (s : ℕ → ℕ) → s i ≤ 1 → (s i ≤ more j s i) × (more j s i ≤ 1)
more_holds j i s h = go (eqb i j)
  where
    go : (b : Bool) → (s i ≤ cond b 1 (s i)) × (cond b 1 (s i) ≤ 1)
    go true = (h, omega arith)
    go false = (omega arith, h)

written_one : (kept : List ℕ) (j : ℕ) → set_of (set kept j 1) j ≤ 1
written_one [] j = omega arith
written_one (x ∷ kept) zero = omega arith
written_one (x ∷ kept) (suc j) = written_one kept j

-- a list of n kept packets that fit
pub record Keeping (room : ℕ) (trace : List Arrival) (kept : List ℕ) : Type 0 where
  pub long : length kept ≡ length trace
  pub flags : (i : ℕ) → set_of kept i ≤ 1
  pub fitting : Fits room (set_of kept) first 0 trace

-- all kept of the one are kept of the other
abbrev pub Within : List ℕ → List ℕ → Type 0
Within xs ys = (i : ℕ) → set_of xs i ≤ set_of ys i

module _ (room : ℕ) (trace : List Arrival) where
  -- x is kept or does not fit
  abbrev pub Settled : List ℕ → Arrival → Type 0
  Settled kept x = set_of kept (place_in x) ≡ 0 → Fits room (more (place_in x) (set_of kept)) first 0 trace → ⊥

  -- a packet that is settled stays so
  settled_on : (xs ys : List ℕ) (x : Arrival) → Within xs ys → Settled xs x → Settled ys x
  settled_on xs ys x h s z f =
      s (omega (arith, h (place_in x)))
      (fits_less room (more (place_in x) (set_of xs)) (more (place_in x) (set_of ys)) first 0 0 trace (omega arith)
      (each_always _ (λ a. more_grows (place_in x) (place_in a) (set_of xs) (set_of ys) (h (place_in a))) trace) f)

  record Turn (kept next : List ℕ) (x : Arrival) : Type 0 where
    keeping : Keeping room trace next
    grown : Within kept next
    done : Settled next x

  turn : (kept : List ℕ) (x : Arrival) → Keeping room trace kept → place_in x < length trace
      → Turn kept (cond (fits room trace (set kept (place_in x) 1)) (set kept (place_in x) 1) kept) x
  turn kept x k h = go (fits room trace (set kept (place_in x) 1)) refl
    where
      put : List ℕ
      put = set kept (place_in x) 1

      is_more : (i : ℕ) → set_of put i ≡ more (place_in x) (set_of kept) i
      is_more i = set_more kept (place_in x) i (omega (arith, k.long))

      go : (t : Bool) → fits room trace put ≡ t → Turn kept (cond t put kept) x
      go true e =
          record {
            keeping = record {
              long = length-set kept (place_in x) 1 ∙ k.long;
              flags = λ i. rw (is_more i) (more_holds (place_in x) i (set_of kept) (k.flags i)).1;
              fitting = true_fits room put first 0 trace e;
            };
            grown = λ i. rw (is_more i) (more_holds (place_in x) i (set_of kept) (k.flags i)).0;
            done = λ z f. omega (arith, get_or-set_same kept (place_in x) 1 0 (omega (arith, k.long)));
          }
      go false e =
          record {
            keeping = k;
            grown = λ i. omega arith;
            done = λ z f.
                let fit = fits_true room put first 0 trace
                (fits_less room (set_of put) (more (place_in x) (set_of kept)) first 0 0 trace (omega arith)
                (each_always _ (λ a. omega (arith, is_more (place_in a))) trace) f) in
                let n : ◌≡◌ {A = ℕ} 0 1 = cc in
                omega arith;
          }

  -- what is kept in the end
  pub record Ended (kept : List ℕ) (order : List Arrival) (end : List ℕ) : Type 0 where
    pub keeping : Keeping room trace end
    pub grown : Within kept end
    pub settled : Each (Settled end) order

  pub in_turn : (kept : List ℕ) (order : List Arrival) → Keeping room trace kept → Each (λ x. place_in x < length trace) order
      → Ended kept order (keep_in_turn room trace kept order)
  unfolding keep_in_turn
  in_turn kept [] k h = record { keeping = k; grown = λ i. omega arith; settled = tt }
  in_turn kept (x ∷ order) k h =
      let t = turn kept x k h.0 in
      let next = cond (fits room trace (set kept (place_in x) 1)) (set kept (place_in x) 1) kept in
      let r = in_turn next order t.keeping h.1 in
      record {
        keeping = r.keeping;
        grown = λ i. omega (arith, t.grown i, r.grown i);
        settled = (settled_on next (keep_in_turn room trace next order) x r.grown t.done, r.settled);
      }

  -- only packets of the order come to be kept
  pub in_turn_only : (allowed : ℕ → ℕ) (kept : List ℕ) (order : List Arrival) → ((i : ℕ) → set_of kept i ≤ allowed i)
      → Each (λ x. 1 ≤ allowed (place_in x)) order → (i : ℕ) → set_of (keep_in_turn room trace kept order) i ≤ allowed i
  unfolding keep_in_turn
  in_turn_only allowed kept [] h e i = h i
  in_turn_only allowed kept (x ∷ order) h e i =
      in_turn_only allowed (cond (fits room trace (set kept (place_in x) 1)) (set kept (place_in x) 1) kept) order
      (go (fits room trace (set kept (place_in x) 1))) e.1 i
    where
      go : (t : Bool) (i : ℕ) → set_of (cond t (set kept (place_in x) 1) kept) i ≤ allowed i
      go false i = h i
      go true i =
          eqb_cases i (place_in x) _
          (λ t q. rw q (omega (arith, e.0, written_one kept (place_in x))))
          (λ t q. rw (get_or-set_other kept (place_in x) i 1 0 q) (h i))

  pub in_turn_append : (kept : List ℕ) (xs ys : List Arrival)
      → keep_in_turn room trace kept (xs ++ ys) ≡ keep_in_turn room trace (keep_in_turn room trace kept xs) ys
  unfolding keep_in_turn
  in_turn_append kept [] ys = refl
  in_turn_append kept (x ∷ xs) ys = in_turn_append (cond (fits room trace (set kept (place_in x) 1)) (set kept (place_in x) 1) kept) xs ys
