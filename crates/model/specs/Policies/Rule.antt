-- The rule that a value names.
use Rattle.std.specs.Prelude.{ℕ, List}
use Rattle.model.specs.declared.Packet.{Packet}
use Rattle.model.specs.declared.Rule.{Rule}
use Rattle.model.specs.declared.Rule.TheVariants.{Greedy, PG}
use Rattle.model.specs.Course.{Decided}
use Rattle.model.specs.Policies.Greedy.{greedy_rule}
use Rattle.model.specs.Policies.PG.{pg_rule}

abbrev pub rule_of : ℕ → Rule → List Packet → Packet → Decided
rule_of room Greedy = greedy_rule room
rule_of room (PG beta) = pg_rule room beta
