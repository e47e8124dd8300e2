-- Every run's record is well formed: a list is as long as the trace, each packet has one of the five fates, nothing that stood in the lists before is
-- left, and the five tallies add up to what arrived. All of it follows from each packet being entered once.
use Prim.Native.Nat.{ℕ, suc, ◌+◌, ◌≤◌, ◌<◌}
use native.Mathlib.Omega.{arith}
use mathlib.Core.Path.{◌≡◌, refl, ◌∙◌}
use mathlib.Core.Bool.{true, cond}
use mathlib.Core.List.{List, [], ◌∷◌}
use lib.ListN.{length}
use Rattle.model.specs.declared.Beta.{Beta}
use Rattle.model.specs.declared.Fate.{Fate}
use Rattle.model.specs.declared.Fate.TheVariants.{Sent, Rejected, PushedOut, Preempted, Flushed}
use Rattle.model.specs.declared.Slot.{Slot}
use Rattle.model.specs.Limits.{within}
use Rattle.model.specs.Packets.{Arrival, arrivals_from, arrivals}
use Rattle.model.specs.Record.{fate_number, Entry, blank, Row}
use Rattle.model.specs.Rules.{has_fate, count_of}
use Rattle.model.specs.Totals.{value_of}
use Rattle.model.specs.Course.{Policy, course, first}
use Rattle.model.specs.Policies.Greedy.{greedy_run}
use Rattle.model.specs.Policies.PG.{pg_run}
use Rattle.model.specs.declared.Marking.{Marking}
use Rattle.model.specs.Policies.MF.{unmarked, mf_run}
use Rattle.model.specs.Policies.Plan.{plan_kept, plan_run}
use Rattle.laws.specs.Times.{times, times_arriving}
use Rattle.laws.specs.WellFormed.{sum, AddUp, WellFormed}
use Rattle.laws.proofs.Conserving.{Conserving, course_conserves, conserving_greedy, conserving_pg, conserving_kept, conserving_mf}
use Rattle.laws.proofs.Cases.{eqb_cases}
use Rattle.laws.proofs.PG.{pg_run_lem}
use Rattle.laws.proofs.Entered.{EnteredOnce, blank_sized, entered_sized, entered_says, entered_all, entry_of, row_of, rows_by, rows_said}

pub fate_number_within : (f : Fate) → within 1 5 (fate_number f) ≡ true
unfolding within
fate_number_within Sent = refl
fate_number_within Rejected = refl
fate_number_within PushedOut = refl
fate_number_within Preempted = refl
fate_number_within Flushed = refl

-- whatever a packet counts for, it counts for under exactly one fate
one_fate : (r : Row) (f : Fate) (n : ℕ) → r.fate ≡ fate_number f →
    cond (has_fate Sent r) n 0 + cond (has_fate Rejected r) n 0 + cond (has_fate PushedOut r) n 0 + cond (has_fate Preempted r) n 0 + cond (has_fate Flushed r) n 0 ≡ n
unfolding has_fate
one_fate r Sent n e = rw e (omega arith)
one_fate r Rejected n e = rw e (omega arith)
one_fate r PushedOut n e = rw e (omega arith)
one_fate r Preempted n e = rw e (omega arith)
one_fate r Flushed n e = rw e (omega arith)

module _ (entries : List Entry) where
  counts_add_up : (trace : List Arrival) → AddUp (λ t. t.count) (rows_by entries trace)
  unfolding count_of
  counts_add_up [] = record { all = refl }
  counts_add_up (a ∷ trace) =
      let e = entry_of a.packet.number.0 entries in
      record { all = omega (arith, one_fate (row_of a e) e.fate 1 refl, (counts_add_up trace).all) }

  values_add_up : (trace : List Arrival) → AddUp (λ t. t.value) (rows_by entries trace)
  unfolding value_of
  values_add_up [] = record { all = refl }
  values_add_up (a ∷ trace) =
      let e = entry_of a.packet.number.0 entries in
      record { all = omega (arith, one_fate (row_of a e) e.fate a.packet.value refl, (values_add_up trace).all) }

  all_count : (n : ℕ) (slots values : List ℕ) → length values ≡ length slots →
      count_of (λ r. true) (rows_by entries (arrivals_from n slots values)) ≡ length slots
  unfolding count_of arrivals_from
  all_count n [] values l = refl
  all_count n (s ∷ slots) [] l = absurd (omega arith)
  all_count n (s ∷ slots) (v ∷ values) l = omega (arith, all_count (suc n) slots values (omega arith))

  all_value : (n : ℕ) (slots values : List ℕ) → length values ≡ length slots →
      value_of (λ r. true) (rows_by entries (arrivals_from n slots values)) ≡ sum values
  unfolding value_of arrivals_from sum
  all_value n [] [] l = refl
  all_value n [] (v ∷ values) l = absurd (omega arith)
  all_value n (s ∷ slots) [] l = absurd (omega arith)
  all_value n (s ∷ slots) (v ∷ values) l = omega (arith, all_value (suc n) slots values (omega arith))

pub well_formed : (slots values : List ℕ) (entries : List Entry) → length values ≡ length slots → EnteredOnce (length slots) entries →
    WellFormed slots values entries
well_formed slots values entries l O =
    let packets = length slots in
    let said = rows_said slots values entries l O in
    let says = entered_says packets entries O (blank packets) (blank_sized packets) in
    record {
      sized = entered_sized packets entries (blank packets) (blank_sized packets);
      fate = λ k h. ((entry_of (suc k) entries).fate, (says k h).fate);
      fate_within = λ k h. rw (says k h).fate (fate_number_within (entry_of (suc k) entries).fate);
      all_written = entered_all packets entries O;
      counts = rw said (counts_add_up entries (arrivals slots values));
      values_counted = rw said (values_add_up entries (arrivals slots values));
      arrived_count = rw said (all_count entries 1 slots values l);
      arrived_value = rw said (all_value entries 1 slots values l);
    }

-- the numbers of a trace: none below the first, and each from there on once
arrivals_none : (m n : ℕ) (slots values : List ℕ) → m < n → times_arriving m (arrivals_from n slots values) ≡ 0
unfolding arrivals_from times
arrivals_none m n [] values h = refl
arrivals_none m n (s ∷ slots) [] h = refl
arrivals_none m n (s ∷ slots) (v ∷ values) h =
    eqb_cases n m _ (λ t q. absurd (omega arith)) λ t q. rw t (omega (arith, arrivals_none m (suc n) slots values (omega arith)))

arrivals_once : (m n : ℕ) (slots values : List ℕ) → length values ≡ length slots → n ≤ m → m < n + length slots →
    times_arriving m (arrivals_from n slots values) ≡ 1
unfolding arrivals_from times
arrivals_once m n [] values l h k = absurd (omega arith)
arrivals_once m n (s ∷ slots) [] l h k = absurd (omega arith)
arrivals_once m n (s ∷ slots) (v ∷ values) l h k =
    eqb_cases n m _
    (λ t q. rw t (omega (arith, arrivals_none m (suc n) slots values (omega arith))))
    λ t q. rw t (omega (arith, arrivals_once m (suc n) slots values (omega arith) (omega arith) (omega arith)))

-- a course that begins with nothing held enters each packet of its trace once
pub course_once : {S : Type 0} {P : Policy S} → Conserving P → (slots values : List ℕ) → length values ≡ length slots →
    (now : Slot) (s : S) → P.held s ≡ [] → EnteredOnce (length slots) (course P now s (arrivals slots values))
unfolding times
course_once C slots values l now s empty =
    record {
      nobody = course_conserves C 0 now s (arrivals slots values) ∙ rw empty (omega (arith, arrivals_none 0 1 slots values (omega arith)));
      once = λ k h. course_conserves C (suc k) now s (arrivals slots values)
          ∙ rw empty (omega (arith, arrivals_once (suc k) 1 slots values l (omega arith) (omega arith)));
    }

module _ (slots values : List ℕ) (l : length values ≡ length slots) where
  pub once_greedy : (room : ℕ) → EnteredOnce (length slots) (greedy_run room (arrivals slots values))
  once_greedy room = course_once (conserving_greedy room) slots values l first [] refl

  pub once_pg : (room : ℕ) (beta : Beta) → EnteredOnce (length slots) (pg_run room beta (arrivals slots values))
  once_pg room beta = rw (pg_run_lem room beta (arrivals slots values)) (course_once (conserving_pg room beta) slots values l first [] refl)

  pub once_plan : (room : ℕ) → EnteredOnce (length slots) (plan_run room (arrivals slots values))
  once_plan room = course_once (conserving_kept (plan_kept room (arrivals slots values))) slots values l first [] refl

  pub once_mf : (room : ℕ) (M : Marking) → EnteredOnce (length slots) (mf_run room M slots values)
  once_mf room M = course_once (conserving_mf room M slots) slots values l first (unmarked (length slots)) refl

  pub well_formed_greedy : (room : ℕ) → WellFormed slots values (greedy_run room (arrivals slots values))
  well_formed_greedy room = well_formed slots values _ l (once_greedy room)

  pub well_formed_pg : (room : ℕ) (beta : Beta) → WellFormed slots values (pg_run room beta (arrivals slots values))
  well_formed_pg room beta = well_formed slots values _ l (once_pg room beta)

  pub well_formed_plan : (room : ℕ) → WellFormed slots values (plan_run room (arrivals slots values))
  well_formed_plan room = well_formed slots values _ l (once_plan room)

  pub well_formed_mf : (room : ℕ) (M : Marking) → WellFormed slots values (mf_run room M slots values)
  well_formed_mf room M = well_formed slots values _ l (once_mf room M)
