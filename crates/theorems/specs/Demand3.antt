-- Demand 3. Whatever record obeys the buffer's rules on an accepted trace, the offline plan's record sends at least its value, and twice the value that
-- plain greedy's record sends is at least it. So too of the number of packets sent at or above any value w. The proofs are in proofs/Demand3.antt and
-- proofs/Answered.antt.
use Rattle.std.specs.Prelude.{ℕ, ◌*◌, ◌≤◌, ◌≡◌, ◌&&◌, List, length, leb}
use Rattle.model.specs.declared.Fate.TheVariants.{Sent}
use Rattle.model.specs.Packets.{arrivals}
use Rattle.model.specs.Record.{Row, Entry, Lists, record_of, rows}
use Rattle.model.specs.Rules.{Obeys, has_fate, count_of, buffer_of}
use Rattle.model.specs.Totals.{totals_of}
use Rattle.model.specs.Refusals.{plain_refusal}
use Rattle.model.specs.Policies.Greedy.{greedy_run}
use Rattle.model.specs.Policies.Plan.{plan_run}
use Rattle.model.specs.Calls.{greedy_call, plan_call, audit_call}

-- how many packets of value at least w are sent
unfoldable pub sent_at_least : ℕ → List Row → ℕ
sent_at_least w rows = count_of (λ r. has_fate Sent r && leb w r.value) rows

-- the value that is sent
abbrev pub sent_value : List Row → ℕ
sent_value rows = (totals_of rows).sent.value

-- the rows of the record that a run makes
abbrev pub rows_run : List ℕ → List ℕ → List Entry → List Row
rows_run slots values entries = rows (arrivals slots values) (record_of (length slots) entries)

abbrev pub plan_rows : List ℕ → List ℕ → ℕ → List Row
plan_rows slots values room = rows_run slots values (plan_run room (arrivals slots values))

abbrev pub greedy_rows : List ℕ → List ℕ → ℕ → List Row
greedy_rows slots values room = rows_run slots values (greedy_run room (arrivals slots values))

-- what holds of the rows of each accepted record that obeys the rules
abbrev pub OfEachLawful : (List ℕ → List ℕ → ℕ → List Row → Type 0) → Type 0
OfEachLawful P =
    (slots values : List ℕ) (room : ℕ) (lists : Lists)
    → (plain_refusal slots values room lists).number ≡ 0
    → Obeys (buffer_of slots room) (rows (arrivals slots values) lists)
    → P slots values room (rows (arrivals slots values) lists)

abbrev pub LinesPlan : Type 0
LinesPlan =
    OfEachLawful λ slots values room lawful.
    (w : ℕ) → sent_at_least w lawful ≤ sent_at_least w (plan_rows slots values room)

abbrev pub LinesGreedy : Type 0
LinesGreedy =
    OfEachLawful λ slots values room lawful.
    (w : ℕ) → sent_at_least w lawful ≤ 2 * sent_at_least w (greedy_rows slots values room)

abbrev pub Demand3Plan : Type 0
Demand3Plan =
    OfEachLawful λ slots values room lawful. sent_value lawful ≤ sent_value (plan_rows slots values room)

abbrev pub Demand3Greedy : Type 0
Demand3Greedy =
    OfEachLawful λ slots values room lawful. sent_value lawful ≤ 2 * sent_value (greedy_rows slots values room)

-- the plan's record is itself one that obeys the rules, so its counts and its value are the greatest
abbrev pub PlanObeys : Type 0
PlanObeys =
    (slots values : List ℕ) (room : ℕ) (lists : Lists)
    → (plain_refusal slots values room lists).number ≡ 0
    → Obeys (buffer_of slots room) (plan_rows slots values room)

-- demand 3 of what the calls answer: a passing audit's totals against those of a run that is not refused, whatever lists are lent to it
abbrev pub TotalsPlan : Type 0
TotalsPlan =
    (slots values : List ℕ) (room : ℕ) (audited lent : Lists)
    → (audit_call slots values room audited).number ≡ 0
    → (plan_call slots values room lent).reply.number ≡ 0
    → (audit_call slots values room audited).totals.sent.value
    ≤ (plan_call slots values room lent).reply.totals.sent.value

abbrev pub TotalsGreedy : Type 0
TotalsGreedy =
    (slots values : List ℕ) (room : ℕ) (audited lent : Lists)
    → (audit_call slots values room audited).number ≡ 0
    → (greedy_call slots values room lent).reply.number ≡ 0
    → (audit_call slots values room audited).totals.sent.value
    ≤ 2 * (greedy_call slots values room lent).reply.totals.sent.value
