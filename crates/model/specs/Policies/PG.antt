-- PG (document 001). First, going from the oldest held packet, the first p with value(p) x num <= value(arrival) x den is preempted, at most one.
-- Then as plain greedy.
use Rattle.std.specs.Prelude.{ℕ, suc, ◌*◌, cond, List, [], ◌∷◌, length, get_or, ltb, leb}
use Rattle.model.specs.declared.Packet.{Packet}
use Rattle.model.specs.declared.Beta.{Beta}
use Rattle.model.specs.declared.LossKind.TheVariants.{Preempted}
use Rattle.model.specs.Packets.{Arrival, nobody, values_of}
use Rattle.model.specs.Record.{Entry}
use Rattle.model.specs.Course.{Decided, losing, run_by}
use Rattle.model.specs.Policies.Greedy.{without, greedy_rule}

-- the place of the first value that an arrival of this value preempts; past the end where there is none
unfoldable pub preempted_at : Beta → ℕ → List ℕ → ℕ
preempted_at beta arrival [] = 0
preempted_at beta arrival (v ∷ values) =
    cond (leb (v * beta.num) (arrival * beta.den)) 0 (suc (preempted_at beta arrival values))

-- at most one is preempted, then plain greedy goes on with what is left; where one was preempted the decision is that loss
unfoldable pub pg_rule : ℕ → Beta → List Packet → Packet → Decided
pg_rule room beta queue p =
    let place = preempted_at beta p.value (values_of queue) in
    let preempts = ltb place (length queue) in
    let greedy = greedy_rule room (cond preempts (without place queue) queue) p in
    record {
      decision = cond preempts (losing (record { packet = get_or queue place nobody; kind = Preempted })) greedy.decision;
      queue = greedy.queue;
    }

-- PG's run
abbrev pub pg_run : ℕ → Beta → List Arrival → List Entry
pg_run room beta trace = run_by (pg_rule room beta) trace
