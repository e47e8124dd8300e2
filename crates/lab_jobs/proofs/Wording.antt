-- A number of 1 to 7 digits: the bytes that are left tell what all do. And what stands behind some of a list.
use Prim.Native.Nat.{ℕ, zero, suc, ◌+◌, ◌-◌, ◌*◌, ◌≤◌, ◌<◌}
use mathlib.Core.Path.{◌≡◌, refl, sym, ◌∙◌}
use mathlib.Core.Bool.{Bool, true, false, ◌&&◌, and-false}
use mathlib.Core.List.{List}
use mathlib.Core.Logic.{◌⊎◌, inl, inr}
use native.Mathlib.Numerals.{add-one}
use native.Mathlib.Omega.{arith}
use lib.ListN.{length, get_or, take, drop, length-drop, drop_of_length-le}
use lib.Seq.{drop-cons, take_all}
use lib.Dec.{leb, eqb}
use borrow.Author.Tests.{le-leb, lt-leb, eqb-true, eqb-false}
use Rattle.std.proofs.Common.{Some, None}
use Rattle.model.specs.Limits.{within}
use Rattle.field.specs.Fields.{all_digits, value_from, is_number}
use Rattle.lab_jobs.specs.Words.{number_in, slash_at, beta_in}

module _ (bytes : List ℕ) where
  number_none : length bytes ≡ 0 → None ≡ number_in bytes
  unfolding number_in is_number within
  number_none none = rw none refl

  number_long : 7 < length bytes → None ≡ number_in bytes
  unfolding number_in is_number within
  number_long many = rw (lt-leb (length bytes) 7 many, and-false (leb 1 (length bytes))) refl

  pub some_bytes : {empty : Bool} → empty ≡ eqb (length bytes) 0 → empty ≡ false → 1 ≤ length bytes
  some_bytes is some = let none = eqb-false (length bytes) 0 (sym is ∙ some) in omega (arith, none)

  pub number_lengths : {empty : Bool} → empty ≡ eqb (length bytes) 0 → (empty ≡ true) ⊎ ((empty ≡ false) × (7 < length bytes)) → None ≡ number_in bytes
  number_lengths is (inl none) = number_none (eqb-true (length bytes) 0 (sym is ∙ none))
  number_lengths is (inr many) = number_long many.1

-- one more than the greatest number of so many digits
unfoldable pub below : ℕ → ℕ
below zero = 1
below (suc i) = below i * 10

pub below_turn : (i n d : ℕ) → n < below i → d < 10 → n * 10 + d < below (i + 1)
unfolding below
below_turn i n d low digit = rw (add-one i) (omega arith)

below_up : (k i : ℕ) → i + k ≡ 7 → below i ≤ 10000000
unfolding below
below_up zero i e = let seven : i ≡ 7 = omega arith in rw seven (omega arith)
below_up (suc k) i e = omega (arith, below_up k (suc i) (omega arith))

pub below_most : (i : ℕ) → i ≤ 7 → below i ≤ 10000000
below_most i few = below_up (7 - i) i (omega arith)

module _ (bytes : List ℕ) (i : ℕ) (n : ℕ) where
  pub record Counted : Type 0 where
    pub low : n < below i
    pub value : value_from n (drop i bytes) ≡ value_from 0 bytes
    pub digits : all_digits (drop i bytes) ≡ all_digits bytes

  module _ (more : i < length bytes) (before : Counted) where
    pub counted_low : get_or bytes i 0 < 48 → None ≡ number_in bytes
    unfolding number_in is_number all_digits within
    counted_low low =
        let none : false ≡ all_digits bytes =
        sym (rw (drop-cons bytes i 0 more, lt-leb 48 (get_or bytes i 0) low) refl) ∙ before.digits in
        rw (← none, and-false (leb 1 (length bytes) && leb (length bytes) 7)) refl

    pub counted_high : 57 < get_or bytes i 0 → None ≡ number_in bytes
    unfolding number_in is_number all_digits within
    counted_high high =
        let none : false ≡ all_digits bytes =
        sym (rw (drop-cons bytes i 0 more, lt-leb (get_or bytes i 0) 57 high, and-false (leb 48 (get_or bytes i 0))) refl) ∙ before.digits in
        rw (← none, and-false (leb 1 (length bytes) && leb (length bytes) 7)) refl

  pub counted_all : 1 ≤ length bytes → length bytes ≤ 7 → length bytes ≤ i → Counted → Some n ≡ number_in bytes
  unfolding number_in is_number all_digits within value_from
  counted_all some few done before =
      let digits : true ≡ all_digits bytes = sym (rw (drop_of_length-le bytes done) refl) ∙ before.digits in
      let value : n ≡ value_from 0 bytes = sym (rw (drop_of_length-le bytes done) refl) ∙ before.value in
      rw (← digits, ← value, le-leb 1 (length bytes) some, le-leb (length bytes) 7 few) refl

pub counted_turn : (bytes : List ℕ) (i n : ℕ) → i < length bytes → Counted bytes i n → 48 ≤ get_or bytes i 0 → get_or bytes i 0 ≤ 57
    → Counted bytes (i + 1) (n * 10 + (get_or bytes i 0 - 48))
unfolding all_digits within value_from
counted_turn bytes i n more before low high =
    record {
      low = below_turn i n (get_or bytes i 0 - 48) before.low (omega arith);
      value = sym (rw (drop-cons bytes i 0 more, add-one i) refl) ∙ before.value;
      digits = sym (rw (drop-cons bytes i 0 more, le-leb 48 (get_or bytes i 0) low, le-leb (get_or bytes i 0) 57 high, add-one i) refl) ∙ before.digits;
    }

-- what stands behind some of a list, as the code lends it
pub behind_is : {A : Type 0} (n : ℕ) (l : List A) → take (length l - n) (drop n l) ≡ drop n l
behind_is n l = take_all (length l - n) (drop n l) (rw (length-drop n l) (omega arith))

-- a beta: the numbers before and behind the slash
pub beta_both : (bytes : List ℕ) (at num den : ℕ) → slash_at bytes ≡ Some at → number_in (take at bytes) ≡ Some num → number_in (drop (at + 1) bytes) ≡ Some den
    → Some (record { num = num; den = den }) ≡ beta_in bytes
unfolding beta_in
beta_both bytes at num den is one two = rw (is, one, two) refl
