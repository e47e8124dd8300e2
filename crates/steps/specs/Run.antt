-- What a policy's run over a trace needs and gives, from the state s.
use Rattle.std.specs.Prelude.{ℕ, ◌≤◌, ◌<◌, ◌≡◌, List, length, get_or}
use Rattle.model.specs.Limits.{record_limits, port_limits}
use Rattle.model.specs.Packets.{arrivals}
use Rattle.model.specs.Record.{Lists, entered}
use Rattle.model.specs.Course.{Policy, course, first}
use Rattle.laws.specs.MostQueue.{most_queue}

-- as many values as slots and not too many, slots in range, and a queue that is never longer than the greatest room
pub record Runnable {S : Type 0} (P : Policy S) (s : S) (slots values : List ℕ) : Type 0 where
  pub same : length values ≡ length slots
  pub few : length slots ≤ record_limits.packets
  pub slots_fit : (k : ℕ) → k < length slots → get_or slots k 0 ≤ record_limits.slot
  pub short : most_queue P first s (arrivals slots values) ≤ port_limits.room

-- all entries of the course are written, and the answer is the greatest length of the queue just after an arrival
pub record Ran {S : Type 0} (P : Policy S) (s : S) (slots values : List ℕ) (before after : Lists) (most : ℕ) : Type 0 where
  pub written : after ≡ entered (course P first s (arrivals slots values)) before
  pub longest : most ≡ most_queue P first s (arrivals slots values)
