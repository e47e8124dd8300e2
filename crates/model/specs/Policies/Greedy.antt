-- Plain greedy. If there is room, hold the arrival. If not, of the held packets and the arrival the one of lowest value is lost; among equals the
-- newest. The arrival itself is then rejected, another is pushed out and the arrival held.
use Rattle.std.specs.Prelude.{ℕ, suc, Bool, true, cond, ◌&&◌, List, [], ◌∷◌, ◌++◌, length, get_or, take, drop, ltb}
use Rattle.model.specs.declared.Packet.{Packet}
use Rattle.model.specs.declared.LossKind.TheVariants.{PushedOut}
use Rattle.model.specs.Packets.{Arrival, nobody, values_of}
use Rattle.model.specs.Record.{Entry}
use Rattle.model.specs.Course.{Decided, held, rejected, losing, run_by}

-- v is below each of the values
unfoldable pub below_all : ℕ → List ℕ → Bool
below_all v [] = true
below_all v (w ∷ values) = ltb v w && below_all v values

-- the place of the lowest value, among equals the newest: the first that is below all that follow it
unfoldable pub loser_at : List ℕ → ℕ
loser_at [] = 0
loser_at (v ∷ values) = cond (below_all v values) 0 (suc (loser_at values))

-- the queue without the packet at a place
abbrev pub without : ℕ → List Packet → List Packet
without place queue = take place queue ++ drop (suc place) queue

-- there is no room: the loser of the held packets and the arrival goes
abbrev pub overflow : List Packet → Packet → Decided
overflow queue p =
    let loser = loser_at (values_of (queue ++ p ∷ [])) in
    cond (ltb loser (length queue))
    (record {
      decision = losing (record { packet = get_or queue loser nobody; kind = PushedOut });
      queue = without loser queue ++ p ∷ [];
    })
    (record { decision = rejected; queue = queue })

unfoldable pub greedy_rule : ℕ → List Packet → Packet → Decided
greedy_rule room queue p =
    cond (ltb (length queue) room) (record { decision = held; queue = queue ++ p ∷ [] }) (overflow queue p)

-- plain greedy's run
abbrev pub greedy_run : ℕ → List Arrival → List Entry
greedy_run room trace = run_by (greedy_rule room) trace
