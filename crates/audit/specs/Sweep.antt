-- What the sweep keeps of the packets so far, in place of their rows: the when of the last one sent, and for each the arrival at which it is held no more.
use Rattle.std.specs.Prelude.{ℕ, suc, ◌-◌, ◌≡◌, cond, Result, Ok, Err, List, [], ◌∷◌, leb}
use Rattle.model.specs.declared.Fate.{Fate}
use Rattle.model.specs.declared.Fate.TheVariants.{Sent, Rejected, PushedOut, Preempted, Flushed}
use Rattle.model.specs.Record.{Row}
use Rattle.model.specs.Totals.{most_held_from}
use Rattle.model.specs.Rules.{Buffer, clear, first_fault, at_fate}
use Rattle.model.specs.Numbers.{fault_number}
use Rattle.model.specs.declared.FirstFault.{FirstFault}

-- how many slots at the front of the list are not after `when`
unfoldable pub up_to : List ℕ → ℕ → ℕ
up_to [] when = 0
up_to (s ∷ slots) when = cond (leb s when) (suc (up_to slots when)) 0

-- the place of the first arrival at which a packet is held no more: for one sent or flushed the first after its when, for one lost that named by `by`.
-- A rejected packet is never held
abbrev pub leave_for : List ℕ → Row → Fate → ℕ
leave_for slots r Sent = up_to slots r.when.0
leave_for slots r Rejected = 0
leave_for slots r PushedOut = r.by.0 - 1
leave_for slots r Preempted = r.by.0 - 1
leave_for slots r Flushed = up_to slots r.when.0

unfoldable pub leave_of : List ℕ → Row → ℕ
leave_of slots r = at_fate 0 r (leave_for slots r)

-- what the sweep says of the rows: no fault and the most held, or the first fault
abbrev pub SweptAs : Buffer → List Row → Result ℕ FirstFault → Type 0
SweptAs buffer rows (Ok most) = (first_fault buffer rows ≡ clear) × (most_held_from [] rows ≡ most)
SweptAs buffer rows (Err f) = first_fault buffer rows ≡ record { number = fault_number f.fault; place = f.packet.0 }
