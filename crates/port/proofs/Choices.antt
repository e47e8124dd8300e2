-- An accepted arrival under each choice: the choice made on the held values is PG's decision on the queue, a packet is held only where there is room, and a
-- packet that is lost is one of those held.
use Prim.Native.Nat.{ℕ, ◌+◌, ◌≤◌, ◌<◌}
use mathlib.Core.Path.{◌≡◌, refl, sym, ap, ap₂, subst, ◌∙◌}
use mathlib.Core.Bool.{Bool, true, false, cond}
use mathlib.Core.List.{List, [], ◌∷◌, ◌++◌}
use native.Mathlib.Numerals.{add-one}
use native.Mathlib.Omega.{arith}
use lib.ListN.{length, take, length-take}
use lib.Dec.{ltb}
use borrow.Author.Tests.{ltb-true}
use Rattle.model.specs.declared.Packet.{Packet}
use Rattle.model.specs.Limits.{port_limits}
use Rattle.model.specs.Packets.{packet_of, values_of}
use Rattle.model.specs.Policies.Greedy.{without, loser_at}
use Rattle.model.specs.Refusals.{value_ok}
use Rattle.model.specs.Port.{PortState, queue_of, holding, sound, arrive_call}
use Rattle.model.specs.declared.Rule.{Rule}
use Rattle.model.specs.declared.Rule.TheVariants.{PG}
use Rattle.laws.proofs.Lists.{length_without}
use Rattle.queue.specs.declared.Choice.{Choice}
use Rattle.queue.specs.declared.Choice.TheVariants.{Hold, Reject, Lose}
use Rattle.queue.specs.Choose.{beta_place, overflow_choice, greedy_choice, choose}
use Rattle.queue.proofs.Packets.{packets_values}
use Rattle.port.specs.State.{Placed, Taking, state_of}
use Rattle.port.specs.declared.Taken.{Taken}
use Rattle.port.proofs.Holding.{held_length, held_again, holding_placed}
use Rattle.port.proofs.Calls.{chosen, arrival_done}

-- a choice that n held packets and this room allow
abbrev pub Allowed : ℕ → ℕ → Choice → Type 0
Allowed room n Hold = n < room
Allowed room n Reject = Unit {0}
Allowed room n (Lose place kind) = place < n

allowed_by : (room n : ℕ) (t : Bool) (a b : Choice) → (t ≡ true → Allowed room n a) → Allowed room n b → Allowed room n (cond t a b)
allowed_by room n true a b first second = first refl
allowed_by room n false a b first second = second

pub choice_allowed : (room : ℕ) (rule : Rule) (values : List ℕ) (value : ℕ) → Allowed room (length values) (choose room rule values value)
unfolding choose greedy_choice overflow_choice
choice_allowed room rule values value =
    let n = length values in
    allowed_by room n (ltb (beta_place rule value values) n) _ _ (λ t. ltb-true _ _ t)
    (allowed_by room n (ltb n room) _ _ (λ t. ltb-true _ _ t)
    (allowed_by room n (ltb (loser_at (values ++ value ∷ [])) n) _ _ (λ t. ltb-true _ _ t) tt))

module _ (port : PortState) (values_whole : length port.values ≡ port_limits.room) (numbers_whole : length port.numbers ≡ port_limits.room) where
  pub held_values : values_of (queue_of port) ≡ take port.held port.values
  held_values = packets_values (take port.held port.numbers) (take port.held port.values) (simp length-take (omega arith))

  module _ (value : ℕ) (choice : Choice) (e : choose port.room (PG port.beta) (take port.held port.values) value ≡ choice) where
    pub now_allowed : port.held ≤ port_limits.room → Allowed port.room port.held choice
    now_allowed fits =
        let n : length (take port.held port.values) ≡ port.held = simp length-take (omega arith) in
        subst (λ (k : ℕ). Allowed port.room k choice) n
        (subst (Allowed port.room (length (take port.held port.values))) e (choice_allowed port.room (PG port.beta) (take port.held port.values) value))

    -- the packet that arrives has the next number
    module _ (sounds : sound port ≡ true) (ok : value_ok value ≡ true) (left : port.last.0 < port_limits.number) where
      abbrev p : Packet
      p = packet_of (port.last.0 + 1) value

      pub by_choice : chosen port value p choice ≡ arrive_call port value
      by_choice =
          ap₂ (λ (n : ℕ) (c : Choice). chosen port value (packet_of n value) c) (add-one port.last.0)
          (sym e ∙ ap (λ (vs : List ℕ). choose port.room (PG port.beta) vs value) (sym held_values))
          ∙ sym (arrival_done port value sounds ok left)

-- what a loss leaves is in its places, with room for one more, which then stands behind it
module _ (port : PortState) (P : Placed port) (fits : port.held ≤ port_limits.room) (place : ℕ) (inside : place < port.held) (taken : Taken)
    (T : Taking port place taken) where
  short : length (without place (queue_of port)) < port_limits.room
  short = omega (arith, held_length port P, length_without place (queue_of port) (omega (arith, held_length port P)))

  pub rest_placed : Placed (state_of taken.port) × (taken.port.held < port_limits.room)
  unfolding holding
  rest_placed = (
    subst Placed (sym T.left) (holding_placed port port.last (without place (queue_of port)) (omega (arith, short))),
    omega (arith, short, ap (λ (s : PortState). s.held) T.left),
  )

  pub rest_holds : (p : Packet) (after : PortState)
      → after ≡ holding (state_of taken.port) p.number (queue_of (state_of taken.port) ++ p ∷ [])
      → after ≡ holding port p.number (without place (queue_of port) ++ p ∷ [])
  rest_holds p after held =
      held_again port port.last p.number (without place (queue_of port)) p (omega (arith, short)) (state_of taken.port) after T.left held
