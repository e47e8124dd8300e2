-- The packets of a list of numbers and a list of values, taken apart and put together as the two lists are.
use Prim.Native.Nat.{ℕ, zero, suc, ◌<◌}
use mathlib.Core.Path.{◌≡◌, refl, ap, ap₂, ◌∙◌}
use mathlib.Core.List.{List, [], ◌∷◌, ◌++◌, map, map-append}
use native.Mathlib.Omega.{arith}
use lib.ListN.{length, get_or, take, drop}
use Rattle.model.specs.declared.Packet.{Packet}
use Rattle.model.specs.Packets.{packet_of, packet_in, nobody, values_of, numbers_of}
use Rattle.model.specs.Policies.Greedy.{without}
use Rattle.model.specs.Port.{packets_of}

pub packets_take : (n : ℕ) (numbers values : List ℕ) → packets_of (take n numbers) (take n values) ≡ take n (packets_of numbers values)
unfolding packets_of
packets_take zero numbers values = refl
packets_take (suc n) [] values = refl
packets_take (suc n) (k ∷ numbers) [] = refl
packets_take (suc n) (k ∷ numbers) (v ∷ values) = ap (λ (queue : List Packet). packet_of k v ∷ queue) (packets_take n numbers values)

pub packets_drop : (n : ℕ) (numbers values : List ℕ) → packets_of (drop n numbers) (drop n values) ≡ drop n (packets_of numbers values)
unfolding packets_of
packets_drop zero numbers values = refl
packets_drop (suc n) [] values = refl
packets_drop (suc n) (k ∷ numbers) [] = none (drop n numbers)
  where
    none : (numbers : List ℕ) → packets_of numbers [] ≡ []
    none [] = refl
    none (k ∷ numbers) = refl
packets_drop (suc n) (k ∷ numbers) (v ∷ values) = packets_drop n numbers values

pub packets_append : (numbers values more others : List ℕ) → length numbers ≡ length values
    → packets_of (numbers ++ more) (values ++ others) ≡ packets_of numbers values ++ packets_of more others
unfolding packets_of
packets_append [] [] more others same = refl
packets_append [] (v ∷ values) more others same = absurd (omega arith)
packets_append (k ∷ numbers) [] more others same = absurd (omega arith)
packets_append (k ∷ numbers) (v ∷ values) more others same =
    ap (λ (queue : List Packet). packet_of k v ∷ queue) (packets_append numbers values more others (omega arith))

pub packets_values : (numbers values : List ℕ) → length numbers ≡ length values → values_of (packets_of numbers values) ≡ values
unfolding packets_of
packets_values [] [] same = refl
packets_values [] (v ∷ values) same = absurd (omega arith)
packets_values (k ∷ numbers) [] same = absurd (omega arith)
packets_values (k ∷ numbers) (v ∷ values) same = ap (λ (vs : List ℕ). v ∷ vs) (packets_values numbers values (omega arith))

pub packets_length : (numbers values : List ℕ) → length numbers ≡ length values → length (packets_of numbers values) ≡ length values
unfolding packets_of
packets_length [] [] same = refl
packets_length [] (v ∷ values) same = absurd (omega arith)
packets_length (k ∷ numbers) [] same = absurd (omega arith)
packets_length (k ∷ numbers) (v ∷ values) same = ap suc (packets_length numbers values (omega arith))

pub packets_at_lem : (numbers values : List ℕ) (i : ℕ) → length numbers ≡ length values → i < length values
    → get_or (packets_of numbers values) i nobody ≡ packet_in numbers values i
unfolding packets_of
packets_at_lem [] [] i same inside = absurd (omega arith)
packets_at_lem [] (v ∷ values) i same inside = absurd (omega arith)
packets_at_lem (k ∷ numbers) [] i same inside = absurd (omega arith)
packets_at_lem (k ∷ numbers) (v ∷ values) zero same inside = refl
packets_at_lem (k ∷ numbers) (v ∷ values) (suc i) same inside = packets_at_lem numbers values i (omega arith) (omega arith)

-- a list of packets, read by one of their fields
module _ (f : Packet → ℕ) where
  map_take : (n : ℕ) (queue : List Packet) → map f (take n queue) ≡ take n (map f queue)
  map_take zero queue = refl
  map_take (suc n) [] = refl
  map_take (suc n) (p ∷ queue) = ap (λ (l : List ℕ). f p ∷ l) (map_take n queue)

  map_drop : (n : ℕ) (queue : List Packet) → map f (drop n queue) ≡ drop n (map f queue)
  map_drop zero queue = refl
  map_drop (suc n) [] = refl
  map_drop (suc n) (p ∷ queue) = map_drop n queue

  pub map_without : (place : ℕ) (queue : List Packet) → map f (without place queue) ≡ take place (map f queue) ++ drop (suc place) (map f queue)
  map_without place queue = map-append f (take place queue) (drop (suc place) queue) ∙ ap₂ ◌++◌ (map_take place queue) (map_drop (suc place) queue)

  pub map_behind : (queue : List Packet) (p : Packet) → map f (queue ++ p ∷ []) ≡ map f queue ++ f p ∷ []
  map_behind queue p = map-append f queue (p ∷ [])

pub packets_numbers : (numbers values : List ℕ) → length numbers ≡ length values → numbers_of (packets_of numbers values) ≡ numbers
unfolding packets_of
packets_numbers [] [] same = refl
packets_numbers [] (v ∷ values) same = absurd (omega arith)
packets_numbers (k ∷ numbers) [] same = absurd (omega arith)
packets_numbers (k ∷ numbers) (v ∷ values) same = ap (λ (ns : List ℕ). k ∷ ns) (packets_numbers numbers values (omega arith))

pub packets_both : (queue : List Packet) → packets_of (numbers_of queue) (values_of queue) ≡ queue
unfolding packets_of
packets_both [] = refl
packets_both (p ∷ queue) = ap (λ (q : List Packet). p ∷ q) (packets_both queue)
