-- Our own records. Whenever a policy's call or the plan's is accepted, the audit of the lists that it left answers 0 with the very totals that the call
-- answered; and every entry is written exactly once, whatever stood in the lists before. The proofs are in proofs/OwnRecords.antt.
use Rattle.std.specs.Prelude.{ℕ, ◌≡◌, cond, List, length}
use Rattle.model.specs.declared.Beta.{Beta}
use Rattle.model.specs.Limits.{within}
use Rattle.model.specs.Packets.{arrivals}
use Rattle.model.specs.Record.{Entry, Lists, entered}
use Rattle.model.specs.Policies.Greedy.{greedy_run}
use Rattle.model.specs.Policies.PG.{pg_run}
use Rattle.model.specs.declared.Marking.{Marking}
use Rattle.model.specs.Policies.MF.{mf_run}
use Rattle.model.specs.Policies.Plan.{plan_run}
use Rattle.model.specs.Calls.{Outcome, greedy_call, pg_call, mf_call, plan_call, audit_call}
use Rattle.laws.specs.Times.{times_entered}
use Rattle.laws.specs.Recorded.{Sized}

-- a policy with its own parameters, or the plan
pub data Planner : Type 0 where
  greedy : Planner
  pg : Beta → Planner
  mf : Marking → Planner
  plan : Planner

-- the entries of its run
abbrev pub entries_by : Planner → List ℕ → List ℕ → ℕ → List Entry
entries_by greedy slots values room = greedy_run room (arrivals slots values)
entries_by (pg beta) slots values room = pg_run room beta (arrivals slots values)
entries_by (mf M) slots values room = mf_run room M slots values
entries_by plan slots values room = plan_run room (arrivals slots values)

-- what its call answers and leaves in the lists that were lent to it
abbrev pub call_by : Planner → List ℕ → List ℕ → ℕ → Lists → Outcome
call_by greedy slots values room lent = greedy_call slots values room lent
call_by (pg beta) slots values room lent = pg_call slots values room beta lent
call_by (mf M) slots values room lent = mf_call slots values room M lent
call_by plan slots values room lent = plan_call slots values room lent

-- each packet of the trace has exactly one entry and there are no others; and the lists that are left are these entries written over whatever stood there
pub record WrittenOnce (packets : ℕ) (entries : List Entry) (left : Lists) : Type 0 where
  pub one_each : (n : ℕ) → times_entered n entries ≡ cond (within 1 packets n) 1 0
  pub as_long : Sized packets left
  pub over_any : (before : Lists) → Sized packets before → left ≡ entered entries before

-- what holds of the outcome of each accepted call of ours
abbrev pub OfEachRun : (Planner → List ℕ → List ℕ → ℕ → Outcome → Type 0) → Type 0
OfEachRun P =
    (by : Planner) (slots values : List ℕ) (room : ℕ) (lent : Lists)
    → (call_by by slots values room lent).reply.number ≡ 0
    → P by slots values room (call_by by slots values room lent)

-- the audit of the lists left answers what the call answered: 0 and its totals
abbrev pub OwnRecordsPass : Type 0
OwnRecordsPass = OfEachRun λ by slots values room call. audit_call slots values room call.lists ≡ call.reply

-- the lists left are well formed
abbrev pub OwnRecordsWritten : Type 0
OwnRecordsWritten =
    OfEachRun λ by slots values room call. WrittenOnce (length slots) (entries_by by slots values room) call.lists

-- what a call answers and leaves doesn't depend on what the lent lists held, only on their length
abbrev pub LentForgotten : Type 0
LentForgotten = OfEachRun λ by slots values room call. (other : Lists) → Sized (length slots) other → call ≡ call_by by slots values room other
