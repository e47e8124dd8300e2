-- The totals counted from the values and the fates are the totals of the record's rows: a row's test looks at its fate alone.
use Prim.Native.Nat.{ℕ, suc, ◌+◌}
use mathlib.Core.Path.{◌≡◌, refl, ap, ap₂}
use mathlib.Core.Bool.{true, cond}
use mathlib.Core.List.{List, [], ◌∷◌}
use native.Mathlib.Omega.{arith}
use lib.ListN.{length}
use lib.Dec.{eqb}
use Rattle.model.specs.declared.Fate.{Fate}
use Rattle.model.specs.declared.Fate.TheVariants.{Sent, Rejected, PushedOut, Preempted, Flushed}
use Rattle.model.specs.Packets.{arrivals_from, arrivals}
use Rattle.model.specs.Record.{Lists, rows_of, rows, fate_number}
use Rattle.model.specs.Rules.{has_fate, count_of}
use Rattle.model.specs.Totals.{value_of, tally, totals_of, most_held_from}
use Rattle.laws.specs.Recorded.{Sized}
use Rattle.laws.specs.WellFormed.{sum}
use Rattle.totals.specs.Totals.{count_in, sum_in, tally_by, totals_by}

-- three lists as long as the trace
abbrev Long : List ℕ → List ℕ → List ℕ → List ℕ → Type 0
Long slots fates whens bys = (length fates ≡ length slots) × (length whens ≡ length slots) × (length bys ≡ length slots)

count_rows : (f : Fate) (n : ℕ) (slots values fates whens bys : List ℕ) → length values ≡ length slots → Long slots fates whens bys
    → count_of (has_fate f) (rows_of (arrivals_from n slots values) fates whens bys) ≡ count_in (fate_number f) fates
unfolding count_of has_fate rows_of arrivals_from count_in
count_rows f n [] values [] whens bys same long = refl
count_rows f n [] values (g ∷ fates) whens bys same long = absurd (omega arith)
count_rows f n (s ∷ slots) [] fates whens bys same long = absurd (omega arith)
count_rows f n (s ∷ slots) (v ∷ values) [] whens bys same long = absurd (omega arith)
count_rows f n (s ∷ slots) (v ∷ values) (g ∷ fates) [] bys same long = absurd (omega arith)
count_rows f n (s ∷ slots) (v ∷ values) (g ∷ fates) (w ∷ whens) [] same long = absurd (omega arith)
count_rows f n (s ∷ slots) (v ∷ values) (g ∷ fates) (w ∷ whens) (b ∷ bys) same long =
    ap (λ (k : ℕ). cond (eqb g (fate_number f)) 1 0 + k) (count_rows f (suc n) slots values fates whens bys (omega arith) (omega arith))

value_rows : (f : Fate) (n : ℕ) (slots values fates whens bys : List ℕ) → length values ≡ length slots → Long slots fates whens bys
    → value_of (has_fate f) (rows_of (arrivals_from n slots values) fates whens bys) ≡ sum_in (fate_number f) values fates
unfolding value_of has_fate rows_of arrivals_from sum_in
value_rows f n [] values [] whens bys same long = refl
value_rows f n [] values (g ∷ fates) whens bys same long = absurd (omega arith)
value_rows f n (s ∷ slots) [] fates whens bys same long = absurd (omega arith)
value_rows f n (s ∷ slots) (v ∷ values) [] whens bys same long = absurd (omega arith)
value_rows f n (s ∷ slots) (v ∷ values) (g ∷ fates) [] bys same long = absurd (omega arith)
value_rows f n (s ∷ slots) (v ∷ values) (g ∷ fates) (w ∷ whens) [] same long = absurd (omega arith)
value_rows f n (s ∷ slots) (v ∷ values) (g ∷ fates) (w ∷ whens) (b ∷ bys) same long =
    ap (λ (k : ℕ). cond (eqb g (fate_number f)) v 0 + k) (value_rows f (suc n) slots values fates whens bys (omega arith) (omega arith))

count_all : (n : ℕ) (slots values fates whens bys : List ℕ) → length values ≡ length slots → Long slots fates whens bys
    → count_of (λ r. true) (rows_of (arrivals_from n slots values) fates whens bys) ≡ length fates
unfolding count_of rows_of arrivals_from
count_all n [] values [] whens bys same long = refl
count_all n [] values (g ∷ fates) whens bys same long = absurd (omega arith)
count_all n (s ∷ slots) [] fates whens bys same long = absurd (omega arith)
count_all n (s ∷ slots) (v ∷ values) [] whens bys same long = absurd (omega arith)
count_all n (s ∷ slots) (v ∷ values) (g ∷ fates) [] bys same long = absurd (omega arith)
count_all n (s ∷ slots) (v ∷ values) (g ∷ fates) (w ∷ whens) [] same long = absurd (omega arith)
count_all n (s ∷ slots) (v ∷ values) (g ∷ fates) (w ∷ whens) (b ∷ bys) same long =
    let rest = count_all (suc n) slots values fates whens bys (omega arith) (omega arith) in
    omega arith

value_all : (n : ℕ) (slots values fates whens bys : List ℕ) → length values ≡ length slots → Long slots fates whens bys
    → value_of (λ r. true) (rows_of (arrivals_from n slots values) fates whens bys) ≡ sum values
unfolding value_of rows_of arrivals_from sum
value_all n [] [] [] whens bys same long = refl
value_all n [] (v ∷ values) [] whens bys same long = absurd (omega arith)
value_all n [] values (g ∷ fates) whens bys same long = absurd (omega arith)
value_all n (s ∷ slots) [] fates whens bys same long = absurd (omega arith)
value_all n (s ∷ slots) (v ∷ values) [] whens bys same long = absurd (omega arith)
value_all n (s ∷ slots) (v ∷ values) (g ∷ fates) [] bys same long = absurd (omega arith)
value_all n (s ∷ slots) (v ∷ values) (g ∷ fates) (w ∷ whens) [] same long = absurd (omega arith)
value_all n (s ∷ slots) (v ∷ values) (g ∷ fates) (w ∷ whens) (b ∷ bys) same long =
    ap (λ (k : ℕ). v + k) (value_all (suc n) slots values fates whens bys (omega arith) (omega arith))

module _ (slots values : List ℕ) (lists : Lists) (same : length values ≡ length slots) (sized : Sized (length slots) lists) where
  long : Long slots lists.fates lists.whens lists.bys
  long = (sized.fates, sized.whens, sized.bys)

  tally_rows : (f : Fate) → tally (has_fate f) (rows (arrivals slots values) lists) ≡ tally_by values lists.fates f
  tally_rows f =
      ap₂ (λ (c v : ℕ). record { count = c; value = v })
      (count_rows f 1 slots values lists.fates lists.whens lists.bys same long)
      (value_rows f 1 slots values lists.fates lists.whens lists.bys same long)

  pub rows_totals : totals_of (rows (arrivals slots values) lists) ≡ totals_by values lists.fates (most_held_from [] (rows (arrivals slots values) lists))
  rows_totals =
      let count = count_all 1 slots values lists.fates lists.whens lists.bys same long in
      let value = value_all 1 slots values lists.fates lists.whens lists.bys same long in
      let sent = tally_rows Sent in
      let rejected = tally_rows Rejected in
      let out = tally_rows PushedOut in
      let preempted = tally_rows Preempted in
      let flushed = tally_rows Flushed in
      λ k.
      record {
        arrived = record { count = count k; value = value k };
        sent = sent k;
        rejected = rejected k;
        pushed_out = out k;
        preempted = preempted k;
        flushed = flushed k;
        most_held = most_held_from [] (rows (arrivals slots values) lists);
      }
