-- Demand 3, put together: the walk beside the trace bounds what a lawful record sends by what the run sends, and the run sends what its record says.
use Prim.Native.Nat.{ℕ, ◌*◌, ◌≤◌}
use mathlib.Core.Path.{◌≡◌, subst}
use mathlib.Core.List.{List, []}
use native.Mathlib.Omega.{arith}
use Rattle.model.specs.declared.Packet.{Packet}
use Rattle.model.specs.Packets.{Arrival, arrivals}
use Rattle.model.specs.Record.{Row, Lists, rows}
use Rattle.model.specs.Rules.{Obeys, buffer_of}
use Rattle.model.specs.Course.{Decided, first, run_by}
use Rattle.model.specs.Refusals.{plain_refusal}
use Rattle.model.specs.Policies.Greedy.{greedy_rule}
use Rattle.model.specs.Policies.Plan.{plan_kept, kept_rule}
use Rattle.laws.specs.Accepted.{Comes}
use Rattle.laws.proofs.Accepted.{plain_accepted}
use Rattle.laws.proofs.Fifo.{Fair, greedy_fair, kept_fair}
use Rattle.laws.proofs.Lawful.{lawful_plan}
use Rattle.theorems.specs.Demand3.{sent_at_least, rows_run, PlanObeys, LinesPlan, LinesGreedy, Demand3Plan, Demand3Greedy}
use Rattle.theorems.proofs.Trace.{trace_of, over_trace}
use Rattle.theorems.proofs.FromLines.{value_run, once, of_once}
use Rattle.theorems.proofs.Each.{Each}
use Rattle.theorems.proofs.Queue.{hi_in}
use Rattle.theorems.proofs.Lowest.{PushesOut, greedy_pushes_out}
use Rattle.theorems.proofs.SentBy.{sent_by}
use Rattle.theorems.proofs.Twice.{sent_twice}
use Rattle.theorems.proofs.Bridge.{rows_sent}
use Rattle.theorems.proofs.Fits.{Fits, set_of}
use Rattle.theorems.proofs.Most.{set_in, Blocks, sent_most}
use Rattle.theorems.proofs.PlanSends.{all_placed, kept_high, high_fits, high_blocks, high_sent}

-- the two walks, of rows that lie over a trace
twice_over : (w room : ℕ) (rule : List Packet → Packet → Decided) → PushesOut room rule → (slots : List ℕ) (trace : List Arrival) (rows : List Row)
    → trace_of rows ≡ trace → Comes slots 1 0 trace → Obeys (buffer_of slots room) rows
    → sent_at_least w rows ≤ 2 * hi_in w (sent_by rule first [] trace)
twice_over w room rule pushes slots trace rows over =
    subst
    (λ (t : List Arrival). Comes slots 1 0 t → Obeys (buffer_of slots room) rows
    → sent_at_least w rows ≤ 2 * hi_in w (sent_by rule first [] t))
    over (sent_twice w room rule pushes slots rows)

most_over : (w room : ℕ) (set : ℕ → ℕ) (slots : List ℕ) (trace : List Arrival) (rows : List Row)
    → trace_of rows ≡ trace → Comes slots 1 0 trace → Obeys (buffer_of slots room) rows
    → Fits room set first 0 trace → Each (Blocks w room set first 0 trace) trace
    → sent_at_least w rows ≤ set_in set trace
most_over w room set slots trace rows over =
    subst
    (λ (t : List Arrival). Comes slots 1 0 t → Obeys (buffer_of slots room) rows
    → Fits room set first 0 t → Each (Blocks w room set first 0 t) t → sent_at_least w rows ≤ set_in set t)
    over (sent_most w room set slots rows)

-- whatever rule pushes out the lowest, and whichever of equals it loses
pub lines_pushing_out : (room : ℕ) (rule : List Packet → Packet → Decided) → PushesOut room rule
    → ((queue : List Packet) (p : Packet) → Fair queue p (rule queue p))
    → (slots values : List ℕ) (lists : Lists)
    → (plain_refusal slots values room lists).number ≡ 0
    → Obeys (buffer_of slots room) (rows (arrivals slots values) lists)
    → (w : ℕ) → sent_at_least w (rows (arrivals slots values) lists) ≤ 2 * sent_at_least w (rows_run slots values (run_by rule (arrivals slots values)))
lines_pushing_out room rule pushes fair slots values lists e o w =
    let c = plain_accepted slots values room lists e in
    let trace = arrivals slots values in
    omega (
      arith,
      twice_over w room rule pushes slots trace (rows trace lists) (over_trace slots values lists c.lengths c.sized) c.comes o,
      rows_sent w rule fair slots values c.lengths c.comes,
    )

pub lines_greedy : LinesGreedy
lines_greedy slots values room =
    lines_pushing_out room (greedy_rule room) (greedy_pushes_out room) (λ queue p. greedy_fair queue p room) slots values

pub lines_plan : LinesPlan
lines_plan slots values room lists e o w =
    let c = plain_accepted slots values room lists e in
    let trace = arrivals slots values in
    let places = all_placed slots values c.lengths in
    let kept = plan_kept room trace in
    omega (
      arith,
      most_over w room (set_of (kept_high w room trace)) slots trace (rows trace lists)
          (over_trace slots values lists c.lengths c.sized) c.comes o
          (high_fits w room trace values places) (high_blocks w room trace values places),
      high_sent w room trace values places,
      rows_sent w (kept_rule kept) (λ queue p. kept_fair queue p kept) slots values c.lengths c.comes,
    )

pub demand3_plan : Demand3Plan
demand3_plan slots values room lists e o =
    of_once (value_run 1 slots values room lists _ e (λ w. once (lines_plan slots values room lists e o w)))

pub demand3_greedy : Demand3Greedy
demand3_greedy slots values room lists e o = value_run 2 slots values room lists _ e (lines_greedy slots values room lists e o)

pub plan_obeys : PlanObeys
plan_obeys slots values room lists e = (lawful_plan slots values room lists e).obeys
