-- The totals of a record, from its fates and the trace's values alone.
use Rattle.std.specs.Prelude.{ℕ, ◌+◌, ◌≤◌, ◌<◌, ◌≡◌, true, cond, List, [], ◌∷◌, length, get_or, eqb}
use Rattle.model.specs.declared.Fate.{Fate}
use Rattle.model.specs.declared.Fate.TheVariants.{Sent, Rejected, PushedOut, Preempted, Flushed}
use Rattle.model.specs.declared.Tally.{Tally}
use Rattle.model.specs.declared.Totals.{Totals}
use Rattle.model.specs.Limits.{record_limits}
use Rattle.model.specs.Record.{fate_number}
use Rattle.model.specs.Totals.{no_totals}
use Rattle.model.specs.Refusals.{value_ok}
use Rattle.laws.specs.WellFormed.{sum}

-- how often a number stands in a list
unfoldable pub count_in : ℕ → List ℕ → ℕ
count_in f [] = 0
count_in f (g ∷ fates) = cond (eqb g f) 1 0 + count_in f fates

-- the sum of the values of the packets with a fate
unfoldable pub sum_in : ℕ → List ℕ → List ℕ → ℕ
sum_in f values [] = 0
sum_in f [] (g ∷ fates) = 0
sum_in f (v ∷ values) (g ∷ fates) = cond (eqb g f) v 0 + sum_in f values fates

-- each value is in range
abbrev pub ValuesFit : List ℕ → Type 0
ValuesFit values = (k : ℕ) → k < length values → value_ok (get_or values k 0) ≡ true

-- a record that can be counted: as many fates as values and not too many, each value in range
pub record Countable (values fates : List ℕ) : Type 0 where
  pub same : length values ≡ length fates
  pub few : length fates ≤ record_limits.packets
  pub values_fit : ValuesFit values

abbrev pub tally_by : List ℕ → List ℕ → Fate → Tally
tally_by values fates f = record { count = count_in (fate_number f) fates; value = sum_in (fate_number f) values fates }

abbrev pub totals_by : List ℕ → List ℕ → ℕ → Totals
totals_by values fates most =
    let t = tally_by values fates in
    record {
      arrived = record { count = length fates; value = sum values };
      sent = t Sent;
      rejected = t Rejected;
      pushed_out = t PushedOut;
      preempted = t Preempted;
      flushed = t Flushed;
      most_held = most;
    }

-- the totals of a record that can be counted, and none of any other
pub record CountedOrNone (values fates : List ℕ) (most : ℕ) (t : Totals) : Type 0 where
  pub counted : Countable values fates → t ≡ totals_by values fates most
  pub uncounted : (Countable values fates → ⊥) → t ≡ no_totals
