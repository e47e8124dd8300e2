-- 01, 'The record': the totals. Packets arrived and their value; count and value for each of the five fates; the most held just after any arrival (0 for
-- an empty trace), held being as fault 15 counts it.
use Rattle.std.specs.Prelude.{ℕ, ◌+◌, max, Bool, true, cond, List, [], ◌∷◌}
use Rattle.model.specs.declared.Tally.{Tally}
use Rattle.model.specs.declared.Totals.{Totals}
use Rattle.model.specs.declared.Fate.TheVariants.{Sent, Rejected, PushedOut, Preempted, Flushed}
use Rattle.model.specs.Record.{Row}
use Rattle.model.specs.Rules.{has_fate, count_of, held_after}

-- the sum of the values of the rows that pass a test
unfoldable pub value_of : (Row → Bool) → List Row → ℕ
value_of test [] = 0
value_of test (r ∷ rows) = cond (test r) r.value 0 + value_of test rows

abbrev pub tally : (Row → Bool) → List Row → Tally
tally test rows = record { count = count_of test rows; value = value_of test rows }

-- the greatest of fault 15's counts
unfoldable pub most_held_from : List Row → List Row → ℕ
most_held_from older [] = 0
most_held_from older (r ∷ rows) = max (held_after older r) (most_held_from (r ∷ older) rows)

abbrev pub totals_of : List Row → Totals
totals_of rows =
    record {
      arrived = tally (λ r. true) rows;
      sent = tally (has_fate Sent) rows;
      rejected = tally (has_fate Rejected) rows;
      pushed_out = tally (has_fate PushedOut) rows;
      preempted = tally (has_fate Preempted) rows;
      flushed = tally (has_fate Flushed) rows;
      most_held = most_held_from [] rows;
    }

abbrev pub nothing : Tally
nothing = record { count = 0; value = 0 }

-- totals that are zero throughout
abbrev pub no_totals : Totals
no_totals =
    record {
      arrived = nothing;
      sent = nothing;
      rejected = nothing;
      pushed_out = nothing;
      preempted = nothing;
      flushed = nothing;
      most_held = 0;
    }
