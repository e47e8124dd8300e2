-- 01, 'MF': r = 0 is plain greedy. With r = 0 MF makes plain greedy's entries, so its call answers and writes what plain greedy's does wherever MF refuses
-- nothing. The proof is in proofs/PlainMF.antt.
use Rattle.std.specs.Prelude.{ℕ, ◌≡◌, List}
use Rattle.model.specs.Packets.{arrivals}
use Rattle.model.specs.Record.{Lists}
use Rattle.model.specs.Refusals.{mf_refusal}
use Rattle.model.specs.Policies.Greedy.{greedy_run}
use Rattle.model.specs.declared.Marking.{Marking}
use Rattle.model.specs.Policies.MF.{mf_run}
use Rattle.model.specs.Calls.{greedy_call, mf_call}

-- MF that marks nothing
abbrev pub marks_none : ℕ → ℕ → Marking
marks_none lo hi = record { lo = lo; hi = hi; r = 0 }

abbrev pub PlainRun : Type 0
PlainRun =
    (room lo hi : ℕ) (slots values : List ℕ)
    → mf_run room (marks_none lo hi) slots values ≡ greedy_run room (arrivals slots values)

abbrev pub PlainCall : Type 0
PlainCall =
    (room lo hi : ℕ) (slots values : List ℕ) (lists : Lists)
    → (mf_refusal (marks_none lo hi) slots values room lists).number ≡ 0
    → mf_call slots values room (marks_none lo hi) lists ≡ greedy_call slots values room lists
