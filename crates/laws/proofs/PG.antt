-- PG's 'then as plain greedy': where a packet was preempted there is room, so plain greedy, on the queue that the preemption left, holds the arrival. So a run
-- of PG, which never holds more than room, decides as `pg_at_once` does.
use Prim.Native.Nat.{ℕ, ◌≤◌, ◌<◌}
use native.Mathlib.Omega.{arith}
use mathlib.Core.Path.{◌≡◌, refl}
use mathlib.Core.Bool.{Bool, true, false, cond}
use mathlib.Core.List.{List, [], ◌∷◌, ◌++◌}
use lib.ListN.{length, get_or}
use lib.Dec.{ltb}
use borrow.Author.Tests.{lt-ltb, ltb-true}
use Rattle.model.specs.declared.Beta.{Beta}
use Rattle.model.specs.declared.Packet.{Packet}
use Rattle.model.specs.declared.Rule.{Rule}
use Rattle.model.specs.declared.Rule.TheVariants.{Greedy, PG}
use Rattle.model.specs.declared.LossKind.TheVariants.{Preempted}
use Rattle.model.specs.Packets.{Arrival, nobody, values_of}
use Rattle.model.specs.Course.{Decided, held, losing, run_by, first}
use Rattle.model.specs.Policies.Greedy.{without, greedy_rule}
use Rattle.model.specs.Policies.PG.{preempted_at, pg_rule, pg_run}
use Rattle.model.specs.Policies.Rule.{rule_of}
use Rattle.laws.specs.AtOnce.{pg_at_once, at_once}
use Rattle.laws.proofs.Lists.{length_without}
use Rattle.laws.proofs.Cases.{below_cases}
use Rattle.laws.proofs.Roomy.{loses_roomy, greedy_roomy}
use Rattle.laws.proofs.Agree.{course_same}

-- where there is room plain greedy holds the arrival
pub greedy_holds : (room : ℕ) (queue : List Packet) (p : Packet) → length queue < room →
    greedy_rule room queue p ≡ record { decision = held; queue = queue ++ p ∷ [] }
unfolding greedy_rule
greedy_holds room queue p h = rw (lt-ltb (length queue) room h)

-- on what the preemption left plain greedy holds the arrival
pub then_greedy : (room place : ℕ) (queue : List Packet) (p : Packet) → length queue ≤ room → place < length queue →
    greedy_rule room (without place queue) p ≡ record { decision = held; queue = without place queue ++ p ∷ [] }
then_greedy room place queue p fits h = greedy_holds room (without place queue) p (omega (arith, length_without place queue h))

module _ (room : ℕ) (beta : Beta) where
  -- on every queue within the room that is PG
  pub pg_at_once_lem : (queue : List Packet) (p : Packet) → length queue ≤ room → pg_rule room beta queue p ≡ pg_at_once room beta queue p
  unfolding pg_rule pg_at_once
  pg_at_once_lem queue p fits = go (ltb (preempted_at beta p.value (values_of queue)) (length queue)) refl
    where
      place : ℕ
      place = preempted_at beta p.value (values_of queue)

      go : (t : Bool) → ltb place (length queue) ≡ t →
          ◌≡◌ {A = Decided}
          (record {
            decision = cond t (losing (record { packet = get_or queue place nobody; kind = Preempted })) (greedy_rule room (cond t (without place queue) queue) p).decision;
            queue = (greedy_rule room (cond t (without place queue) queue) p).queue;
          })
          (cond t
          (record { decision = losing (record { packet = get_or queue place nobody; kind = Preempted }); queue = without place queue ++ p ∷ [] })
          (greedy_rule room queue p))
      go true e = rw (then_greedy room place queue p fits (ltb-true place (length queue) e))
      go false e = refl

  pub at_once_roomy : (queue : List Packet) (p : Packet) → length queue ≤ room → length (pg_at_once room beta queue p).queue ≤ room
  unfolding pg_at_once
  at_once_roomy queue p h =
      let place = preempted_at beta p.value (values_of queue) in
      below_cases (λ (d : Decided). length d.queue ≤ room) place (length queue) _ _ (loses_roomy room queue p h place) (λ b. greedy_roomy room queue p h)

  -- so the two make the same run of every trace
  pub pg_run_lem : (trace : List Arrival) → pg_run room beta trace ≡ run_by (pg_at_once room beta) trace
  pg_run_lem trace = course_same room (pg_rule room beta) (pg_at_once room beta) pg_at_once_lem at_once_roomy first [] trace (omega arith)

-- and so for either rule
pub rule_run : (room : ℕ) (rule : Rule) (trace : List Arrival) → run_by (rule_of room rule) trace ≡ run_by (at_once room rule) trace
rule_run room Greedy trace = refl
rule_run room (PG beta) trace = pg_run_lem room beta trace
