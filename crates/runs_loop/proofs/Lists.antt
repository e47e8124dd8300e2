-- What holds of a run into three lists holds of it into any three as long as the trace; and two proofs that two outcomes are the same are equal.
use Rattle.std.proofs.Common.{ℕ, List, length}
use Rattle.std.proofs.Math.Nat.{ℕ_set}
use mathlib.Core.List.{is_set as List-set}
use Rattle.model.specs.Calls.{Outcome}
use Rattle.model.specs.Course.{Policy}
use Rattle.model.specs.Record.{Lists}
use Rattle.laws.specs.Recorded.{Sized}
use Rattle.steps.specs.Calls.{Ready}

pub into_any : {S : Type 0} {P : Policy S} {s : S} {slots values : List ℕ} {lists : Lists} → Ready P s slots values lists
    → (others : Lists) → Sized (length slots) others → Ready P s slots values others
into_any R others sized = record { runnable = R.runnable; values_fit = R.values_fit; sized = sized; formed = R.formed; most = R.most }

pub outcome_set : IsSet Outcome
outcome_set = hlevel (ℕ_set, List-set ℕ_set)
