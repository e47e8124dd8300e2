-- Lengths and entries that several crates ask for: a list with one place taken out is one shorter, a list of zeros has a zero at every place and behind its
-- end, and a trace has as many packets as slots. Each by recursion on the list.
use Prim.Native.Nat.{ℕ, zero, suc, ◌<◌}
use native.Mathlib.Omega.{arith}
use mathlib.Core.Path.{◌≡◌, refl}
use mathlib.Core.List.{List, [], ◌∷◌, ◌++◌}
use lib.ListN.{length, get_or, take, drop, replicate}
use Rattle.model.specs.Packets.{arrivals_from}

pub length_without {ℓ} : {A : Type ℓ} (place : ℕ) (xs : List A) → place < length xs → suc (length (take place xs ++ drop (suc place) xs)) ≡ length xs
length_without place [] h = absurd (omega arith)
length_without zero (x ∷ xs) h = refl
length_without (suc place) (x ∷ xs) h = omega (arith, length_without place xs (omega arith))

pub zeros : (n place : ℕ) → ◌≡◌ {A = ℕ} (get_or (replicate n 0) place 0) 0
zeros zero place = refl
zeros (suc n) zero = refl
zeros (suc n) (suc place) = zeros n place

pub arrivals_length : (n : ℕ) (slots values : List ℕ) → length values ≡ length slots → length (arrivals_from n slots values) ≡ length slots
unfolding arrivals_from
arrivals_length n [] values same = refl
arrivals_length n (s ∷ slots) [] same = absurd (omega arith)
arrivals_length n (s ∷ slots) (v ∷ values) same = omega (arith, arrivals_length (suc n) slots values (omega arith))
