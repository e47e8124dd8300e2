-- The call of the policy that a value names, and what it answers.
use Rattle.std.specs.Prelude.{ℕ, cond, List, length, eqb}
use Rattle.model.specs.declared.Cause.TheVariants.{Lengths, Packets}
use Rattle.model.specs.Numbers.{cause_number}
use Rattle.model.specs.Totals.{no_totals}
use Rattle.model.specs.Record.{Lists, blank}
use Rattle.model.specs.Answers.{Reply}
use Rattle.model.specs.Calls.{Outcome, greedy_call, pg_call, mf_call, plan_call}
use Rattle.runs.specs.declared.Policy.{Policy}
use Rattle.runs.specs.declared.Policy.TheVariants.{Greedy, PG, MF, Plan}

-- the call of a policy, with its parameters
abbrev pub call_of : Policy → ℕ → List ℕ → List ℕ → Lists → Outcome
call_of Greedy room slots values lists = greedy_call slots values room lists
call_of (PG beta) room slots values lists = pg_call slots values room beta lists
call_of (MF m) room slots values lists = mf_call slots values room m lists
call_of Plan room slots values lists = plan_call slots values room lists

-- its outcome, the record's lists blank before
abbrev pub outcome_of : Policy → ℕ → List ℕ → List ℕ → Outcome
outcome_of policy room slots values = call_of policy room slots values (blank (length slots))

abbrev pub reply_of : Policy → ℕ → List ℕ → List ℕ → Reply
reply_of policy room slots values = (outcome_of policy room slots values).reply

-- a trace of more packets than a record has places, whatever the policy: 1 where it has not as many values, else 2
abbrev pub too_many : (packets values : ℕ) → Reply
too_many packets values =
    record { number = cause_number (cond (eqb values packets) Packets Lengths); place = 0; totals = no_totals }
