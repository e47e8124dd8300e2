-- A test of every number of a list, and that numbers rise, as a loop finds them out: a place at a time, over what is left of the list.
use Prim.Native.Nat.{ℕ, zero, suc, ◌+◌, ◌-◌, ◌≤◌, ◌<◌, suc-le-suc}
use mathlib.Core.Path.{◌≡◌, refl, sym, ap, ◌∙◌}
use mathlib.Core.Bool.{Bool, true, false, not, ◌&&◌, ◌||◌, true≢false}
use mathlib.Core.List.{List, [], ◌∷◌}
use native.Mathlib.Numerals.{add-one}
use native.Mathlib.Omega.{arith}
use lib.ListN.{length, get_or, take, drop, length-drop, drop_of_length-le}
use lib.Seq.{take_all, drop-cons}
use lib.Dec.{leb, ltb}
use Rattle.std.proofs.lemmas.Bool.Decides.{nat_tests}
use borrow.Author.Tests.{leb-true}
use Rattle.model.specs.Limits.{within}
use Rattle.model.specs.Port.{all, rises_from}

-- what fails a test is bad, and what was bad stays so
one : (bad t rest : Bool) → (not (bad || not t) && rest) ≡ (not bad && (t && rest))
one true t rest = refl
one false true rest = refl
one false false rest = refl

-- a number that is not above the one before, or is above the last, is bad
both : (before n last : ℕ) (bad rest : Bool)
    → (not (bad || (leb n before || ltb last n)) && rest) ≡ (not bad && ((ltb before n && leb n last) && rest))
both before n last true rest = refl
both before n last false rest = grind (arith, nat_tests)

-- the parts of a test
pub left_part : (a b : Bool) → a && b ≡ true → a ≡ true
left_part true b e = refl
left_part false b e = e

pub right_part : (a b : Bool) → a && b ≡ true → b ≡ true
right_part true b e = e
right_part false b e = absurd (true≢false (sym e))

-- the parts of a range
pub within_from : (low high n : ℕ) → within low high n ≡ true → low ≤ n
unfolding within
within_from low high n e = leb-true _ _ (left_part _ _ e)

pub within_to : (low high n : ℕ) → within low high n ≡ true → n ≤ high
unfolding within
within_to low high n e = leb-true _ _ (right_part (leb low n) _ e)

-- nothing is left to test
none_left : (bad rest : Bool) → rest ≡ true → not bad ≡ (not bad && rest)
none_left true rest e = refl
none_left false rest e = sym e

module _ (list : List ℕ) (i : ℕ) where
  -- what is left of a list, its first number apart
  rest : i < length list → drop i list ≡ get_or list i 0 ∷ drop (i + 1) list
  rest inside = drop-cons list i 0 inside ∙ ap (λ (k : ℕ). get_or list i 0 ∷ drop k list) (sym (add-one i))

  module _ (test : ℕ → Bool) where
    pub all_turn : i < length list → (bad t : Bool) → t ≡ test (get_or list i 0)
        → (not (bad || not t) && all test (drop (i + 1) list)) ≡ (not bad && all test (drop i list))
    unfolding all
    all_turn inside bad t e =
        one bad t (all test (drop (i + 1) list))
        ∙ ap (λ (u : Bool). not bad && (u && all test (drop (i + 1) list))) e
        ∙ ap (λ (l : List ℕ). not bad && all test l) (sym (rest inside))

    -- the part from a place to the end is what is left
    pub all_behind : (n : ℕ) → length list ≡ n → all test (take (n - i) (drop i list)) ≡ all test (drop i list)
    all_behind n whole = ap (all test) (take_all (n - i) (drop i list) (rw length-drop (omega arith)))

    pub all_done : length list ≤ i → (bad : Bool) → not bad ≡ (not bad && all test (drop i list))
    unfolding all
    all_done past bad = none_left bad _ (rw (drop_of_length-le list past) refl)

  module _ (before last : ℕ) where
    pub rises_turn : i < length list → (bad : Bool)
        → (not (bad || (leb (get_or list i 0) before || ltb last (get_or list i 0))) && rises_from (get_or list i 0) last (drop (i + 1) list))
        ≡ (not bad && rises_from before last (drop i list))
    unfolding rises_from
    rises_turn inside bad =
        both before (get_or list i 0) last bad (rises_from (get_or list i 0) last (drop (i + 1) list))
        ∙ ap (λ (l : List ℕ). not bad && rises_from before last l) (sym (rest inside))

    pub rises_done : length list ≤ i → (bad : Bool) → not bad ≡ (not bad && rises_from before last (drop i list))
    unfolding rises_from
    rises_done past bad = none_left bad _ (rw (drop_of_length-le list past) refl)

-- what passes for the whole list passes for each of its numbers
pub all_each : (test : ℕ → Bool) (list : List ℕ) → all test list ≡ true → (k : ℕ) → k < length list → test (get_or list k 0) ≡ true
unfolding all
all_each test [] e k h = absurd (omega arith)
all_each test (n ∷ list) e zero h = left_part (test n) (all test list) e
all_each test (n ∷ list) e (suc k) h = all_each test list (right_part (test n) (all test list) e) k (omega arith)

-- and what passes for each passes for the whole
pub each_all : (test : ℕ → Bool) (list : List ℕ) → ((k : ℕ) → k < length list → test (get_or list k 0) ≡ true) → all test list ≡ true
unfolding all
each_all test [] each = refl
each_all test (n ∷ list) each = rw (each 0 (omega arith)) (each_all test list (λ k h. each (suc k) (suc-le-suc h)))
