-- What is heard from a port that is fed events: everything that its answers say, mixed into one number in order.
use Rattle.std.specs.Prelude.{ℕ, ◌+◌, ◌*◌, ◌%◌, ◌^◌, ◌<◌, cond, List, [], ◌∷◌, eqb}
use Rattle.model.specs.Answers.{PortReply}
use Rattle.model.specs.Port.{PortState, PortOutcome, arrive_call, end_of_slot_call}
use Rattle.host.specs.Said.{code_of}

unfoldable pub mixed : ℕ → ℕ → ℕ → ℕ → ℕ → ℕ → ℕ
mixed sum said place given number value = (sum * 31 + said + place + given * 3 + number * 5 + value * 7) % 2 ^ 32

abbrev pub mixed_in : ℕ → PortReply → ℕ
mixed_in sum reply =
    mixed sum reply.number reply.place reply.given.0 reply.packet.number.0 reply.packet.value

-- 0 is an end of slot, any other number an arrival of that value
unfoldable pub call_of : PortState → ℕ → PortOutcome
call_of port event = cond (eqb event 0) (end_of_slot_call port) (arrive_call port event)

unfoldable pub heard : PortState → ℕ → List ℕ → ℕ
heard port sum [] = sum
heard port sum (event ∷ events) =
    heard (call_of port event).port (mixed_in sum (call_of port event).reply) events

-- what a making and the events after it say: a making that is refused says its number and its place as every refusal does, and nothing is fed
unfoldable pub heard_of : PortOutcome → List ℕ → ℕ
heard_of made events =
    cond (eqb made.reply.number 0) (heard made.port 0 events) (code_of made.reply.number made.reply.place)

-- the two are told apart: what is heard is below 2 ^ 32
abbrev pub HeardBelow : Type 0
HeardBelow = (port : PortState) (events : List ℕ) → heard port 0 events < 2 ^ 32
