-- What a call on a trace answers and leaves in the record's lists, as model's definitions have it; and what the test of a trace leaves to a run.
use Rattle.std.specs.Prelude.{ℕ, ◌≡◌, Result, List, [], length}
use Rattle.model.specs.declared.Totals.{Totals}
use Rattle.model.specs.declared.Refusal.{Refusal}
use Rattle.model.specs.Packets.{arrivals}
use Rattle.model.specs.Record.{Lists}
use Rattle.model.specs.Totals.{most_held_from}
use Rattle.model.specs.Course.{Policy, course, first}
use Rattle.model.specs.Answers.{of_run}
use Rattle.model.specs.Calls.{Outcome}
use Rattle.totals.specs.Totals.{ValuesFit}
use Rattle.laws.specs.Recorded.{Sized, recorded}
use Rattle.laws.specs.WellFormed.{WellFormed}
use Rattle.laws.specs.MostQueue.{most_queue}
use Rattle.steps.specs.Run.{Runnable}

abbrev pub outcome : Result Totals Refusal → Lists → Outcome
outcome answer lists = record { reply = of_run answer; lists = lists }

-- an accepted trace on which a policy can run, from the state s; the run's record is well formed, and its most held is the greatest length of its queue
pub record Ready {S : Type 0} (P : Policy S) (s : S) (slots values : List ℕ) (lists : Lists) : Type 0 where
  pub runnable : Runnable P s slots values
  pub values_fit : ValuesFit values
  pub sized : Sized (length slots) lists
  pub formed : WellFormed slots values (course P first s (arrivals slots values))
  pub most : most_held_from [] (recorded slots values (course P first s (arrivals slots values))) ≡ most_queue P first s (arrivals slots values)
