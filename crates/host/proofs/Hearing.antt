-- What is heard of a making, of one event, and of each answer of a port. All that is heard is a remainder by 2 ^ 32.
use Prim.Native.Nat.{ℕ, ◌+◌, ◌<◌, ◌≤◌, ◌^◌}
use mathlib.Core.Path.{◌≡◌, refl, sym, ◌∙◌}
use mathlib.Core.List.{List, [], ◌∷◌}
use native.Mathlib.Numerals.{add-one}
use native.Mathlib.Omega.{arith}
use lib.ListN.{length, get_or, drop, drop_of_length-le}
use lib.Seq.{drop-cons}
use borrow.Author.Tests.{eq-eqb, ne_eqb}
use Rattle.std.specs.Prelude.{Result, ⊤}
use Rattle.model.specs.declared.Refusal.{Refusal}
use Rattle.model.specs.Answers.{PortReply, of_making}
use Rattle.model.specs.Port.{PortState, PortOutcome, arrive_call, end_of_slot_call}
use Rattle.host.specs.Live.{mixed, mixed_in, call_of, heard, heard_of, HeardBelow}
use Rattle.host.specs.Said.{code_of}

pub mixed_fits : (sum said place given number value : ℕ) → mixed sum said place given number value < 2 ^ 32
unfolding mixed
mixed_fits sum said place given number value = omega arith

below : (port : PortState) {sum : ℕ} (events : List ℕ) → sum < 2 ^ 32 → heard port sum events < 2 ^ 32
unfolding heard
below port [] fits = fits
below port (event ∷ events) fits = below (call_of port event).port events (mixed_fits _ _ _ _ _ _)

pub heard_below : HeardBelow
heard_below port events = below port events (omega arith)

-- a port that was made is fed, a refused making is coded
module _ (answer : Result ⊤ Refusal) {port : PortState} {outcome : PortOutcome} {reply : PortReply} (events : List ℕ) {r : ℕ}
    (is : record { reply = of_making answer; port = port } ≡ outcome) (says : reply ≡ of_making answer) where
  pub of_made : reply.number ≡ 0 → r ≡ heard port 0 events → r ≡ heard_of outcome events
  unfolding heard_of
  of_made none hears = rw (← is, ← says, none) hears

  pub of_not_made : (reply.number ≡ 0 → ⊥) → r ≡ code_of reply.number reply.place → r ≡ heard_of outcome events
  unfolding heard_of
  of_not_made some codes = rw (← is, ← says, ne_eqb reply.number 0 some) codes

pub heard_done : (port : PortState) (sum : ℕ) (events : List ℕ) (i : ℕ) → length events ≤ i → heard port sum (drop i events) ≡ sum
unfolding heard
heard_done port sum events i h = rw (drop_of_length-le events h) refl

heard_turn : (port : PortState) (sum : ℕ) (events : List ℕ) (i : ℕ) → i < length events
    → heard port sum (drop i events) ≡ heard (call_of port (get_or events i 0)).port (mixed_in sum (call_of port (get_or events i 0)).reply) (drop (i + 1) events)
unfolding heard
heard_turn port sum events i inside = rw (add-one, drop-cons events i 0) refl

-- an outcome of the event's call goes on
goes_on : (port : PortState) (sum : ℕ) {total : ℕ} (events : List ℕ) (i : ℕ) → i < length events → (outcome : PortOutcome)
    → outcome ≡ call_of port (get_or events i 0) → heard port sum (drop i events) ≡ total
    → heard outcome.port (mixed_in sum outcome.reply) (drop (i + 1) events) ≡ total
goes_on port sum events i inside outcome is so_far = rw is (sym (heard_turn port sum events i inside) ∙ so_far)

pub heard_end : (port : PortState) (sum : ℕ) {total next : ℕ} (events : List ℕ) (i : ℕ) → i < length events → (outcome : PortOutcome)
    → outcome ≡ end_of_slot_call port → get_or events i 0 ≡ 0 → next ≡ mixed_in sum outcome.reply → heard port sum (drop i events) ≡ total
    → heard outcome.port next (drop (i + 1) events) ≡ total
unfolding call_of
heard_end port sum events i inside outcome is zero-event mixes so_far =
    rw mixes (goes_on port sum events i inside outcome (is ∙ sym (rw (eq-eqb _ _ zero-event) refl)) so_far)

pub heard_arrival : (port : PortState) (sum : ℕ) {total next : ℕ} (events : List ℕ) (i : ℕ) → i < length events → (outcome : PortOutcome)
    → outcome ≡ arrive_call port (get_or events i 0) → (get_or events i 0 ≡ 0 → ⊥) → next ≡ mixed_in sum outcome.reply → heard port sum (drop i events) ≡ total
    → heard outcome.port next (drop (i + 1) events) ≡ total
unfolding call_of
heard_arrival port sum events i inside outcome is event mixes so_far =
    rw mixes (goes_on port sum events i inside outcome (is ∙ sym (rw (ne_eqb _ _ event) refl)) so_far)
