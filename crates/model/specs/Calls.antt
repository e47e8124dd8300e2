-- 01, 'Statements nobody can dodge': the full answer of each call on a trace and the final contents of all lists lent to it, for all inputs. After a
-- refusal every list is as before.
use Rattle.std.specs.Prelude.{ℕ, cond, List, length, eqb}
use Rattle.model.specs.declared.Beta.{Beta}
use Rattle.model.specs.Packets.{arrivals}
use Rattle.model.specs.Record.{Entry, Lists, record_of, rows}
use Rattle.model.specs.Rules.{Verdict, Buffer, first_fault, or_else, buffer_of}
use Rattle.model.specs.Totals.{totals_of, no_totals}
use Rattle.model.specs.Policies.Greedy.{greedy_run}
use Rattle.model.specs.Policies.PG.{pg_run}
use Rattle.model.specs.declared.Marking.{Marking}
use Rattle.model.specs.Policies.MF.{mf_run}
use Rattle.model.specs.Policies.Plan.{plan_run}
use Rattle.model.specs.Refusals.{plain_refusal, pg_refusal, mf_refusal}
use Rattle.model.specs.Answers.{Reply}

-- what a call answers and what the three record lists hold when it returns
pub record Outcome : Type 0 where
  pub reply : Reply
  pub lists : Lists

-- a refusal, or a fault, with no totals
abbrev pub reply_to : Verdict → Reply
reply_to v = record { number = v.number; place = v.place; totals = no_totals }

-- the totals of a record
abbrev pub reply_with : List ℕ → List ℕ → Lists → Reply
reply_with slots values lists = record { number = 0; place = 0; totals = totals_of (rows (arrivals slots values) lists) }

-- a run that is not refused writes the record of its entries and answers that record's totals
abbrev pub ran : List ℕ → List ℕ → List Entry → Outcome
ran slots values entries =
    let lists = record_of (length slots) entries in
    record { reply = reply_with slots values lists; lists = lists }

unfoldable pub run_unless : Verdict → Lists → Outcome → Outcome
run_unless v lists outcome = cond (eqb v.number 0) outcome (record { reply = reply_to v; lists = lists })

unfoldable pub greedy_call : List ℕ → List ℕ → ℕ → Lists → Outcome
greedy_call slots values room lists =
    run_unless (plain_refusal slots values room lists) lists
    (ran slots values (greedy_run room (arrivals slots values)))

unfoldable pub pg_call : List ℕ → List ℕ → ℕ → Beta → Lists → Outcome
pg_call slots values room beta lists =
    run_unless (pg_refusal beta slots values room lists) lists
    (ran slots values (pg_run room beta (arrivals slots values)))

unfoldable pub mf_call : List ℕ → List ℕ → ℕ → Marking → Lists → Outcome
mf_call slots values room M lists =
    run_unless (mf_refusal M slots values room lists) lists (ran slots values (mf_run room M slots values))

unfoldable pub plan_call : List ℕ → List ℕ → ℕ → Lists → Outcome
plan_call slots values room lists =
    run_unless (plain_refusal slots values room lists) lists
    (ran slots values (plan_run room (arrivals slots values)))

-- the audit only reads the record's lists: faults come only after 1 to 6 are clear, and an audit that names a fault answers all totals as 0
unfoldable pub audit_call : List ℕ → List ℕ → ℕ → Lists → Reply
audit_call slots values room lists =
    let buffer : Buffer = buffer_of slots room in
    let v = or_else (plain_refusal slots values room lists) (first_fault buffer (rows (arrivals slots values) lists)) in
    cond (eqb v.number 0) (reply_with slots values lists) (reply_to v)
