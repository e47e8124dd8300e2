-- A rule's decision on a queue within the room leaves one within the room: an arrival is held where there is room or another packet is lost.
use Prim.Native.Nat.{ℕ, ◌≤◌, ◌<◌}
use native.Mathlib.Omega.{arith}
use mathlib.Core.List.{List, [], ◌∷◌, ◌++◌}
use lib.ListN.{length, length-append}
use Rattle.model.specs.declared.Packet.{Packet}
use Rattle.model.specs.Packets.{values_of}
use Rattle.model.specs.Course.{Decided}
use Rattle.model.specs.Policies.Greedy.{without, loser_at, greedy_rule}
use Rattle.laws.proofs.Lists.{length_without}
use Rattle.laws.proofs.Cases.{below_cases}

module _ (room : ℕ) (queue : List Packet) (p : Packet) (h : length queue ≤ room) where
  -- a packet lost makes room for the arrival
  pub loses_roomy : (place : ℕ) → place < length queue → length (without place queue ++ p ∷ []) ≤ room
  loses_roomy place b = omega (arith, length-append (without place queue) (p ∷ []), length_without place queue b)

  pub greedy_roomy : length (greedy_rule room queue p).queue ≤ room
  unfolding greedy_rule
  greedy_roomy =
      let loser = loser_at (values_of (queue ++ p ∷ [])) in
      below_cases (λ (d : Decided). length d.queue ≤ room) (length queue) room _ _ (λ b. omega (arith, length-append queue (p ∷ [])))
      λ full. below_cases (λ (d : Decided). length d.queue ≤ room) loser (length queue) _ _ (loses_roomy loser) (λ b. h)
