-- A call's answer: the totals are those of the record that was written, and a refusal or a run is what model's call says of the verdict.
use Prim.Native.Nat.{ℕ}
use mathlib.Core.Path.{◌≡◌, refl, sym, ap, ap₂, subst, ◌∙◌}
use mathlib.Core.Bool.{Bool, true}
use mathlib.Core.List.{List}
use native.Mathlib.Omega.{arith}
use lib.ListN.{length, get_or}
use Rattle.model.specs.declared.Totals.{Totals}
use Rattle.model.specs.declared.Refusal.{Refusal}
use Rattle.std.specs.Prelude.{Ok, Err}
use Rattle.model.specs.Packets.{arrivals}
use Rattle.model.specs.Record.{Entry, Lists, entered, record_of, rows}
use Rattle.model.specs.Rules.{Verdict, clear}
use Rattle.model.specs.Totals.{totals_of}
use Rattle.model.specs.Course.{Policy, course, first}
use Rattle.model.specs.Refusals.{value_ok}
use Rattle.model.specs.Answers.{cause_number}
use Rattle.model.specs.Calls.{Outcome, ran, run_unless}
use Rattle.laws.specs.WellFormed.{WellFormed}
use Rattle.laws.specs.MostQueue.{most_queue}
use Rattle.laws.specs.Accepted.{Accepted}
use Rattle.laws.proofs.Lawful.{Lawful}
use Rattle.trace.proofs.Laws.{cause_refuses}
use Rattle.totals.specs.Totals.{Countable, CountedOrNone, totals_by}
use Rattle.steps.specs.Run as run
use Rattle.steps.specs.Calls.{outcome, Ready}
use Rattle.totals.proofs.Totalling.{rows_totals}

module _ {S : Type 0} (P : Policy S) (s : S) (slots values : List ℕ) (lists : Lists) (R : Ready P s slots values lists) where
  abbrev entries : List Entry
  entries = course P first s (arrivals slots values)

  abbrev written : Lists
  written = record_of (length slots) entries

  all_written : (after : Lists) → after ≡ entered entries lists → after ≡ written
  all_written after e = e ∙ R.formed.all_written lists R.sized

  countable : (after : Lists) → after ≡ written → Countable values after.fates
  countable after e =
      subst (λ (l : Lists). Countable values l.fates) (sym e)
      (record {
        same = R.runnable.same ∙ sym R.formed.sized.fates;
        few = rw R.formed.sized.fates R.runnable.few;
        values_fit = R.values_fit;
      })

  totals_rows : totals_of (rows (arrivals slots values) written) ≡ totals_by values written.fates (most_queue P first s (arrivals slots values))
  totals_rows = rows_totals slots values written R.runnable.same R.formed.sized ∙ ap (totals_by values written.fates) R.most

  answered : (after : Lists) → after ≡ written → (most : ℕ) → most ≡ most_queue P first s (arrivals slots values)
      → (t : Totals) → t ≡ totals_by values after.fates most → outcome (Ok t) after ≡ ran slots values entries
  answered after e most m t k =
      let same : t ≡ totals_of (rows (arrivals slots values) written) =
      k ∙ ap₂ (λ (l : Lists) (n : ℕ). totals_by values l.fates n) e m ∙ sym totals_rows in
      ap₂ (λ (u : Totals) (l : Lists). outcome (Ok u) l) same e

  -- a run that wrote the record and answers its greatest length, with the totals counted from it, is the call's outcome
  pub finished : (after : Lists) (most : ℕ) → run.Ran P s slots values lists after most → (t : Totals) → CountedOrNone values after.fates most t
      → outcome (Ok t) after ≡ ran slots values entries
  finished after most done t told =
      let e = all_written after done.written in
      answered after e most done.longest t (told.counted (countable after e))

pub refused : (v : Verdict) (lists : Lists) (done : Outcome) (f : Refusal) → record { number = cause_number f.cause; place = f.place } ≡ v
    → outcome (Err f) lists ≡ run_unless v lists done
unfolding run_unless
refused v lists done f e = rw (← e, cause_refuses f.cause) refl

pub not_refused : (v : Verdict) (lists : Lists) (done : Outcome) → clear ≡ v → done ≡ run_unless v lists done
unfolding run_unless
not_refused v lists done e = rw (← e) refl

pub ready : {S : Type 0} (P : Policy S) (s : S) (ok : ℕ → Bool) → ((v : ℕ) → ok v ≡ true → value_ok v ≡ true)
    → (slots values : List ℕ) (room : ℕ) (lists : Lists) → Accepted ok slots values room lists
    → WellFormed slots values (course P first s (arrivals slots values)) → Lawful P s slots values room → Ready P s slots values lists
ready P s ok in_range slots values room lists T W L =
    record {
      runnable = record { same = T.lengths; few = T.few; slots_fit = T.packets.slot_to; short = omega (arith, L.within_room, T.room_to) };
      values_fit = λ k h. in_range (get_or values k 0) (T.packets.taken k (rw T.lengths at h));
      sized = T.sized;
      formed = W;
      most = L.most;
    }
