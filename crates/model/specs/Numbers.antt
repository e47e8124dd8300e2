-- 01's numbers of the fates, the refusals and the faults, each written once. All definitions cite them by name.
use Rattle.std.specs.Prelude.{ℕ, ◌≡◌, false, Result, Ok, Err}
use Rattle.model.specs.Limits.{within}
use Rattle.model.specs.declared.Fate.{Fate}
use Rattle.model.specs.declared.Fate.TheVariants as fates
use Rattle.model.specs.declared.Cause.{Cause}
use Rattle.model.specs.declared.Cause.TheVariants as causes
use Rattle.model.specs.declared.Fault.{Fault}
use Rattle.model.specs.declared.Fault.TheVariants as faults

-- the number of each fate
abbrev pub fate_number : Fate → ℕ
fate_number fates.Sent = 1
fate_number fates.Rejected = 2
fate_number fates.PushedOut = 3
fate_number fates.Preempted = 4
fate_number fates.Flushed = 5

-- the number of each refusal
abbrev pub cause_number : Cause → ℕ
cause_number causes.Lengths = 1
cause_number causes.Packets = 2
cause_number causes.Room = 3
cause_number causes.Parameters = 4
cause_number causes.Slot = 5
cause_number causes.Value = 6
cause_number causes.Spent = 7
cause_number causes.Unsound = 8
cause_number causes.Text = 21

-- the number of each fault
abbrev pub fault_number : Fault → ℕ
fault_number faults.FateOutside = 11
fault_number faults.ByWrong = 12
fault_number faults.WhenWrong = 13
fault_number faults.NotLater = 14
fault_number faults.OverRoom = 15

-- what a number in a record names: the fate whose number it is, or none, which is fault 11
abbrev pub Names : ℕ → Result Fate Fault → Type 0
Names n (Ok fate) = n ≡ fate_number fate
Names n (Err fault) = (within (fate_number fates.Sent) (fate_number fates.Flushed) n ≡ false) × (fault ≡ faults.FateOutside)
