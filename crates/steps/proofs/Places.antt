-- The trace by places: what is left of it from a place on begins with the packet at that place.
use Prim.Native.Nat.{ℕ, zero, suc, ◌+◌, ◌≤◌, ◌<◌}
use mathlib.Core.Path.{◌≡◌, refl, sym, ap, ap₂, ◌∙◌}
use mathlib.Core.List.{List, [], ◌∷◌}
use native.Mathlib.Numerals.{add-one}
use native.Mathlib.Omega.{arith}
use native.Mathlib.Nat.{add-zero, add-suc, suc-add}
use lib.ListN.{length, get_or, take, drop, replicate}
use Rattle.model.specs.Packets.{packet_of, Arrival, arrivals_from, arrivals}
use Rattle.steps.specs.Places.{packet_at}

numbered : ℕ → ℕ → ℕ → Arrival
numbered s n v = record { slot = record { 0 = s }; packet = packet_of n v }

arrivals_from_at : (n i : ℕ) (slots values : List ℕ) → length values ≡ length slots → i < length slots
    → drop i (arrivals_from n slots values) ≡ numbered (get_or slots i 0) (n + i) (get_or values i 0) ∷ drop (suc i) (arrivals_from n slots values)
unfolding arrivals_from numbered
arrivals_from_at n i [] values same inside = absurd (omega arith)
arrivals_from_at n i (s ∷ slots) [] same inside = absurd (omega arith)
arrivals_from_at n zero (s ∷ slots) (v ∷ values) same inside = rw add-zero refl
arrivals_from_at n (suc i) (s ∷ slots) (v ∷ values) same inside = rw (add-suc, ← (suc-add n i)) (arrivals_from_at (suc n) i slots values (omega arith) (omega arith))

pub arrivals_at : (slots values : List ℕ) (i : ℕ) → length values ≡ length slots → i < length slots
    → drop i (arrivals slots values) ≡ packet_at slots values i ∷ drop (i + 1) (arrivals slots values)
unfolding numbered
arrivals_at slots values i same inside =
    arrivals_from_at 1 i slots values same inside
    ∙ ap₂ (λ (n k : ℕ). numbered (get_or slots i 0) n (get_or values i 0) ∷ drop k (arrivals slots values)) (omega arith) (sym (add-one i))

-- the first entries of a list of noughts
pub first_zeros : (n many : ℕ) → n ≤ many → take {A = ℕ} n (replicate many 0) ≡ replicate n 0
first_zeros zero many h = refl
first_zeros (suc n) zero h = absurd (omega arith)
first_zeros (suc n) (suc many) h = ap (λ (zeros : List ℕ). 0 ∷ zeros) (first_zeros n many (omega arith))
