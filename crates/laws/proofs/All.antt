-- What holds of all entries of a list holds of the entry of each packet that is entered there.
use Prim.Native.Nat.{ℕ, ◌<◌}
use native.Mathlib.Omega.{arith}
use mathlib.Core.Path.{◌≡◌, refl}
use mathlib.Core.List.{List, [], ◌∷◌, ◌++◌}
use Rattle.model.specs.Record.{Entry}
use Rattle.laws.specs.Times.{times, times_entered}
use Rattle.laws.proofs.Cases.{eqb_cases}
use Rattle.laws.proofs.Entered.{entry_of}

abbrev pub All : (Entry → Type 0) → List Entry → Type 0
All Q [] = Unit {0}
All Q (e ∷ entries) = Q e × All Q entries

module _ (Q : Entry → Type 0) where
  pub all_append : (xs ys : List Entry) → All Q xs → All Q ys → All Q (xs ++ ys)
  all_append [] ys h k = k
  all_append (e ∷ xs) ys h k = (h.0, all_append xs ys h.1 k)

  pub all_weaken : (R : Entry → Type 0) → ((e : Entry) → Q e → R e) → (entries : List Entry) → All Q entries → All R entries
  all_weaken R f [] h = tt
  all_weaken R f (e ∷ entries) h = (f e h.0, all_weaken R f entries h.1)

  pub all_entry_of : (n : ℕ) (entries : List Entry) → 0 < times_entered n entries → All Q entries → Q (entry_of n entries)
  unfolding times entry_of
  all_entry_of n [] b h = absurd (omega arith)
  all_entry_of n (e ∷ entries) b h =
      eqb_cases e.number.0 n _ (λ t q. rw t h.0) λ t q. rw t (all_entry_of n entries (omega (arith, rw t at b)) h.1)

pub entry_of_number : (n : ℕ) (entries : List Entry) → 0 < times_entered n entries → (entry_of n entries).number.0 ≡ n
unfolding times entry_of
entry_of_number n [] b = absurd (omega arith)
entry_of_number n (e ∷ entries) b =
    eqb_cases e.number.0 n _ (λ t q. rw t q) λ t q. rw t (entry_of_number n entries (omega (arith, rw t at b)))

-- the entry of a packet is in the one part of a list or in the other
pub entry_of_first : (n : ℕ) (xs ys : List Entry) → 0 < times_entered n xs → entry_of n (xs ++ ys) ≡ entry_of n xs
unfolding times entry_of
entry_of_first n [] ys b = absurd (omega arith)
entry_of_first n (e ∷ xs) ys b =
    eqb_cases e.number.0 n _ (λ t q. rw t) λ t q. rw t (entry_of_first n xs ys (omega (arith, rw t at b)))

pub entry_of_second : (n : ℕ) (xs ys : List Entry) → times_entered n xs ≡ 0 → entry_of n (xs ++ ys) ≡ entry_of n ys
unfolding times entry_of
entry_of_second n [] ys b = refl
entry_of_second n (e ∷ xs) ys b =
    eqb_cases e.number.0 n _ (λ t q. absurd (omega (arith, rw t at b))) λ t q. rw t (entry_of_second n xs ys (omega arith))
