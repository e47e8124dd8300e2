-- A trace that the test of plain greedy or of PG accepts is one on which its rule can run.
use Prim.Native.Nat.{ℕ, ◌≤◌}
use mathlib.Core.Path.{◌≡◌}
use mathlib.Core.List.{List, []}
use Rattle.model.specs.declared.Beta.{Beta}
use Rattle.model.specs.Packets.{arrivals}
use Rattle.model.specs.Record.{Lists}
use Rattle.model.specs.Rules.{clear}
use Rattle.model.specs.Course.{by_rule}
use Rattle.model.specs.Policies.Greedy.{greedy_rule}
use Rattle.model.specs.Refusals.{value_ok, plain_refusal, pg_refusal, beta_refusal}
use Rattle.laws.specs.AtOnce.{pg_at_once}
use Rattle.laws.proofs.PG.{pg_run_lem}
use Rattle.laws.proofs.WellFormed.{well_formed_greedy, well_formed_pg}
use Rattle.laws.proofs.Lawful.{lawful_greedy, lawful_at_once}
use Rattle.laws.proofs.Accepted.{clear_number, accepted}
use Rattle.steps.specs.Calls.{Ready}
use Rattle.steps.proofs.Answering.{ready}

module _ (slots values : List ℕ) (room : ℕ) (lists : Lists) where
  pub greedy_ready : clear ≡ plain_refusal slots values room lists → Ready (by_rule (greedy_rule room)) [] slots values lists × (1 ≤ room)
  unfolding plain_refusal
  greedy_ready e =
      let none = clear_number _ e in
      let T = accepted clear value_ok slots values room lists none in (
        ready (by_rule (greedy_rule room)) [] value_ok (λ v h. h) slots values room lists T
            (well_formed_greedy slots values T.lengths room) (lawful_greedy slots values room lists none),
        T.room_from,
      )

  pub pg_ready : (beta : Beta) → clear ≡ pg_refusal beta slots values room lists → Ready (by_rule (pg_at_once room beta)) [] slots values lists × (1 ≤ room)
  unfolding pg_refusal
  pg_ready beta e =
      let none = clear_number _ e in
      let T = accepted (beta_refusal beta) value_ok slots values room lists none in
      let formed = rw (pg_run_lem room beta (arrivals slots values)) at (well_formed_pg slots values T.lengths room beta) in
      (ready (by_rule (pg_at_once room beta)) [] value_ok (λ v h. h) slots values room lists T formed (lawful_at_once slots values room lists beta none), T.room_from)
