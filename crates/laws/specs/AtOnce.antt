-- The rules as the code decides them.
use Rattle.std.specs.Prelude.{ℕ, cond, List, [], ◌∷◌, ◌++◌, length, get_or, ltb}
use Rattle.model.specs.declared.Beta.{Beta}
use Rattle.model.specs.declared.Packet.{Packet}
use Rattle.model.specs.declared.Rule.{Rule}
use Rattle.model.specs.declared.Rule.TheVariants.{Greedy, PG}
use Rattle.model.specs.declared.LossKind.TheVariants.{Preempted}
use Rattle.model.specs.Packets.{nobody, values_of}
use Rattle.model.specs.Course.{Decided, losing}
use Rattle.model.specs.Policies.Greedy.{without, greedy_rule}
use Rattle.model.specs.Policies.PG.{preempted_at}

-- PG, with the arrival held at once where a packet was preempted
unfoldable pub pg_at_once : ℕ → Beta → List Packet → Packet → Decided
pg_at_once room beta queue p =
    let place = preempted_at beta p.value (values_of queue) in
    cond (ltb place (length queue))
    (record {
      decision = losing (record { packet = get_or queue place nobody; kind = Preempted });
      queue = without place queue ++ p ∷ [];
    })
    (greedy_rule room queue p)

-- a rule, PG's in this form: on every queue within the room that is the rule itself
abbrev pub at_once : ℕ → Rule → List Packet → Packet → Decided
at_once room Greedy = greedy_rule room
at_once room (PG beta) = pg_at_once room beta
