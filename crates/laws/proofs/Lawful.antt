-- The record of every run on an accepted trace obeys the rules, and its most held is the longest queue just after an arrival: what fault 15 counts is what
-- the queue holds, and no policy holds more than room.
use Prim.Native.Nat.{ℕ, ◌≤◌}
use native.Mathlib.Omega.{arith}
use mathlib.Core.Path.{◌≡◌, refl}
use mathlib.Core.Bool.{Bool}
use mathlib.Core.List.{List, []}
use Rattle.model.specs.declared.Beta.{Beta}
use Rattle.model.specs.declared.Packet.{Packet}
use Rattle.model.specs.Packets.{arrivals}
use Rattle.model.specs.Record.{Lists}
use Rattle.model.specs.Rules.{Obeys, buffer_of}
use Rattle.model.specs.Totals.{most_held_from}
use Rattle.model.specs.Course.{Policy, Decided, by_rule, course, first}
use Rattle.model.specs.Refusals.{plain_refusal, pg_refusal}
use Rattle.model.specs.Policies.Greedy.{greedy_rule}
use Rattle.model.specs.Policies.PG.{pg_rule, pg_run}
use Rattle.model.specs.Policies.Plan.{plan_kept, kept_rule}
use Rattle.laws.specs.Recorded.{recorded}
use Rattle.laws.specs.MostQueue.{most_queue}
use Rattle.laws.specs.AtOnce.{pg_at_once}
use Rattle.laws.specs.Accepted.{Accepted}
use Rattle.laws.proofs.Fifo.{Fair, Fifo, fifo_by_rule, greedy_fair, pg_fair, kept_fair}
use Rattle.laws.proofs.Conserving.{conserving, conserving_greedy, conserving_pg}
use Rattle.laws.proofs.Entered.{rows_by, rows_said}
use Rattle.laws.proofs.WellFormed.{course_once}
use Rattle.laws.proofs.All.{all_weaken}
use Rattle.laws.proofs.Moments.{Since, since_earlier}
use Rattle.laws.proofs.Standing.{Marks, Stands, course_since}
use Rattle.laws.proofs.Held.{HeldAgrees, held_agrees, most_held_most_queue}
use Rattle.laws.proofs.Sends.{course_sends}
use Rattle.laws.proofs.Obeys.{obeys_from}
use Rattle.laws.proofs.PG.{pg_at_once_lem, at_once_roomy, pg_run_lem}
use Rattle.laws.proofs.AgreeHeld.{most_same, held_same}
use Rattle.laws.proofs.Room.{most_queue_roomy, roomy_greedy, roomy_at_once, most_queue_plan}
use Rattle.laws.proofs.Accepted.{plain_accepted, pg_accepted}

-- a policy's run on a trace, from the state s
pub record Lawful {S : Type 0} (P : Policy S) (s : S) (slots values : List ℕ) (room : ℕ) : Type 0 where
  pub held : HeldAgrees P first s [] (recorded slots values (course P first s (arrivals slots values))) (arrivals slots values)
  pub most : most_held_from [] (recorded slots values (course P first s (arrivals slots values))) ≡ most_queue P first s (arrivals slots values)
  pub within_room : most_queue P first s (arrivals slots values) ≤ room
  pub obeys : Obeys (buffer_of slots room) (recorded slots values (course P first s (arrivals slots values)))

pub lawful : {S : Type 0} {P : Policy S} {F : Fifo P} {Fit : ℕ → S → Type 0} → Marks F Fit → (s : S) → P.held s ≡ [] → Fit 0 s →
    {ok : ℕ → Bool} (slots values : List ℕ) (room : ℕ) (lists : Lists) → Accepted ok slots values room lists →
    most_queue P first s (arrivals slots values) ≤ room → Lawful P s slots values room
lawful {P} {F} {Fit} M s empty fit slots values room lists A fits =
    let trace = arrivals slots values in
    let entries = course P first s trace in
    let once = course_once (conserving F) slots values A.lengths first s empty in
    let said = rows_said slots values entries A.lengths once in
    let stands : Stands slots P Fit 1 0 s =
    record { arrived = record { by_now = λ k h. absurd (omega arith); counted = omega arith }; rising = rw empty (omega arith); fit = fit }
    in
    let right = all_weaken (Since slots 1 0) (Since slots 0 0) (since_earlier slots 0 0 1 0 (omega arith) (omega arith)) entries
    (course_since M slots 0 first s trace A.comes stands)
    in
    let in_order = course_sends F slots 0 first s trace A.comes 0 0 (rw empty (omega arith)) (omega arith) in
    let agrees = held_agrees M slots entries once [] [] 0 first s trace refl tt tt A.comes stands in
    let most = most_held_most_queue P first s [] (rows_by entries trace) trace agrees in
    record {
      held = rw said agrees;
      most = rw said most;
      within_room = fits;
      obeys = rw said (obeys_from slots room entries once right in_order 1 0 trace [] A.comes tt (rw most fits));
    }

-- a policy by a rule flushes nothing
by_rule_marks : (rule : List Packet → Packet → Decided) (fair : (queue : List Packet) (p : Packet) → Fair queue p (rule queue p)) →
    Marks (fifo_by_rule rule fair) (λ last queue. Unit {0})
by_rule_marks rule fair = record { arrival = λ last a s h. tt; finish = λ last now s r h. tt; flush = λ last now s r h. tt }

module _ (slots values : List ℕ) (room : ℕ) (lists : Lists) where
  -- a run by a fair rule that keeps within the room, whatever test the values passed
  pub by_rule_lem : {ok : ℕ → Bool} (rule : List Packet → Packet → Decided) → ((queue : List Packet) (p : Packet) → Fair queue p (rule queue p)) →
      Accepted ok slots values room lists → most_queue (by_rule rule) first [] (arrivals slots values) ≤ room → Lawful (by_rule rule) [] slots values room
  by_rule_lem rule fair A fits = lawful (by_rule_marks rule fair) [] refl tt slots values room lists A fits

  pub lawful_greedy : (plain_refusal slots values room lists).number ≡ 0 → Lawful (by_rule (greedy_rule room)) [] slots values room
  lawful_greedy z =
      by_rule_lem (greedy_rule room) (λ queue p. greedy_fair queue p room) (plain_accepted slots values room lists z)
      (most_queue_roomy (conserving_greedy room) room (roomy_greedy room) first [] (arrivals slots values) (omega arith))

  pub lawful_at_once : (beta : Beta) → (pg_refusal beta slots values room lists).number ≡ 0 → Lawful (by_rule (pg_at_once room beta)) [] slots values room
  lawful_at_once beta z =
      by_rule_lem (pg_at_once room beta) (λ queue p. pg_fair queue p room beta) (pg_accepted slots values room lists beta z)
      (most_queue_roomy (conserving_pg room beta) room (roomy_at_once room beta) first [] (arrivals slots values) (omega arith))

  -- PG decides as that on every queue that it has
  pub lawful_pg : (beta : Beta) → (pg_refusal beta slots values room lists).number ≡ 0 → Lawful (by_rule (pg_rule room beta)) [] slots values room
  lawful_pg beta z =
      let trace = arrivals slots values in
      let L = lawful_at_once beta z in
      let run = pg_run_lem room beta trace in
      let most = most_same room (pg_rule room beta) (pg_at_once room beta) (pg_at_once_lem room beta) (at_once_roomy room beta) first [] trace (omega arith) in
      record {
        held = held_same room (pg_rule room beta) (pg_at_once room beta) (pg_at_once_lem room beta) (at_once_roomy room beta) first [] []
            (recorded slots values (pg_run room beta trace)) trace (omega arith)
            (rw run L.held);
        most = rw (run, most) L.most;
        within_room = rw most L.within_room;
        obeys = rw run L.obeys;
      }

  pub lawful_plan : (plain_refusal slots values room lists).number ≡ 0 →
      Lawful (by_rule (kept_rule (plan_kept room (arrivals slots values)))) [] slots values room
  lawful_plan z =
      let kept = plan_kept room (arrivals slots values) in
      by_rule_lem (kept_rule kept) (λ queue p. kept_fair queue p kept) (plain_accepted slots values room lists z) (most_queue_plan room (arrivals slots values))
