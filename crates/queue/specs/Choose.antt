-- A rule's decision on an arrival, from the values alone, and what it makes of the queue.
use Rattle.std.specs.Prelude.{ℕ, suc, min, ◌*◌, Bool, cond, Option, None, Some, option_map, List, [], ◌∷◌, ◌++◌, length, get_or, leb, ltb, eqb}
use Rattle.std.specs.Option.{option_or}
use Rattle.model.specs.declared.Packet.{Packet}
use Rattle.model.specs.declared.Beta.{Beta}
use Rattle.model.specs.declared.LossKind.TheVariants.{PushedOut, Preempted}
use Rattle.model.specs.declared.Fate.TheVariants.{Rejected}
use Rattle.model.specs.Numbers.{fate_number}
use Rattle.model.specs.Record.{loss_fate}
use Rattle.model.specs.Packets.{nobody}
use Rattle.model.specs.Course.{Decided, held, rejected, losing}
use Rattle.model.specs.Policies.Greedy.{loser_at, without}
use Rattle.model.specs.Policies.PG.{preempted_at}
use Rattle.model.specs.declared.Rule.{Rule}
use Rattle.model.specs.declared.Rule.TheVariants.{Greedy, PG}
use Rattle.queue.specs.declared.Choice.{Choice}
use Rattle.queue.specs.declared.Choice.TheVariants.{Hold, Reject, Lose}

-- the lowest of a number and some values
unfoldable pub lowest_with : ℕ → List ℕ → ℕ
lowest_with low [] = low
lowest_with low (v ∷ values) = min v (lowest_with low values)

-- the lowest of some values, if there are any
unfoldable pub lowest_of : List ℕ → Option ℕ
lowest_of [] = None
lowest_of (v ∷ values) = Some (lowest_with v values)

-- the newest place with this value, if there is one
unfoldable pub newest_of : ℕ → List ℕ → Option ℕ
newest_of value [] = None
newest_of value (v ∷ values) = option_or (option_map suc (newest_of value values)) (cond (eqb v value) (Some 0) None)

-- an arrival preempts a packet of this value
abbrev pub preempts : Beta → ℕ → ℕ → Bool
preempts beta arrival v = leb (v * beta.num) (arrival * beta.den)

-- the place that the beta step finds; plain greedy has no beta step
abbrev pub beta_place : Rule → ℕ → List ℕ → ℕ
beta_place Greedy arrival values = length values
beta_place (PG beta) arrival values = preempted_at beta arrival values

-- there is no room: the loser of the held packets and the arrival goes
unfoldable pub overflow_choice : List ℕ → ℕ → Choice
overflow_choice values arrival =
    let loser = loser_at (values ++ arrival ∷ []) in
    cond (ltb loser (length values)) (Lose loser PushedOut) Reject

unfoldable pub greedy_choice : ℕ → List ℕ → ℕ → Choice
greedy_choice room values arrival = cond (ltb (length values) room) Hold (overflow_choice values arrival)

-- the beta step, then as plain greedy
unfoldable pub choose : ℕ → Rule → List ℕ → ℕ → Choice
choose room rule values arrival =
    let place = beta_place rule arrival values in
    cond (ltb place (length values)) (Lose place Preempted) (greedy_choice room values arrival)

-- a choice in 01's numbers: 0 for an arrival that is held at no cost, else the number of a fate; and the place of the packet that is lost, 0 where none is
pub record Chosen : Type 0 where
  pub number : ℕ
  pub place : ℕ

-- 2 rejected is the arrival's own fate; 3 pushed out and 4 preempted are that of the packet at the place, and the arrival is held
abbrev pub of_choice : Choice → Chosen
of_choice Hold = record { number = 0; place = 0 }
of_choice Reject = record { number = fate_number Rejected; place = 0 }
of_choice (Lose place kind) = record { number = fate_number (loss_fate kind); place = place }

-- what a choice makes of the queue
abbrev pub applied : Choice → List Packet → Packet → Decided
applied Hold queue p = record { decision = held; queue = queue ++ p ∷ [] }
applied Reject queue p = record { decision = rejected; queue = queue }
applied (Lose place kind) queue p =
    record {
      decision = losing (record { packet = get_or queue place nobody; kind = kind });
      queue = without place queue ++ p ∷ [];
    }
