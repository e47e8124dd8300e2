-- A call goes by its policy, and lists of zeros are blank. Whatever the policy, a call on lists that differ in length is refused with 1, and then one on
-- more packets than a record has places with 2: these two tests come first in all of them. So a call that is not refused has lists of one length.
use Prim.Native.Nat.{ℕ, ◌≤◌, ◌<◌}
use mathlib.Core.Path.{◌≡◌, refl, ap, ◌∙◌}
use mathlib.Core.Bool.{Bool, true, false, cond}
use mathlib.Core.List.{List}
use lib.ListN.{length, take, replicate, length-replicate}
use lib.Dec.{eqb}
use borrow.Author.Tests.{eq-eqb, ne_eqb, eqb-true, lt-leb}
use Rattle.model.specs.declared.Cause.{Cause}
use Rattle.model.specs.declared.Cause.TheVariants.{Lengths, Packets}
use Rattle.model.specs.declared.Totals.{Totals}
use Rattle.model.specs.declared.Refusal.{Refusal}
use Rattle.std.specs.Prelude.{Result}
use Rattle.model.specs.Limits.{record_limits}
use Rattle.model.specs.Numbers.{cause_number}
use Rattle.model.specs.Packets.{arrivals}
use Rattle.model.specs.Record.{Lists, lists_of, blank}
use Rattle.model.specs.Rules.{Verdict, clear, or_else}
use Rattle.model.specs.Refusals.{value_ok, lo_or_hi, beta_refusal, marking_refusal, trace_refusal, plain_refusal, pg_refusal, mf_refusal}
use Rattle.model.specs.Totals.{no_totals}
use Rattle.model.specs.Answers.{Reply, of_run}
use Rattle.model.specs.Calls.{Outcome, reply_to, ran, run_unless, greedy_call, pg_call, mf_call, plan_call}
use Rattle.model.specs.Policies.Greedy.{greedy_run}
use Rattle.model.specs.Policies.PG.{pg_run}
use Rattle.model.specs.Policies.MF.{mf_run}
use Rattle.model.specs.Policies.Plan.{plan_run}
use Rattle.laws.specs.Recorded.{Sized}
use Rattle.laws.proofs.Accepted.{accepted}
use Rattle.trace.specs.Checked.{lengths_equal}
use Rattle.steps.specs.Calls.{outcome}
use Rattle.steps.proofs.Places.{first_zeros}
use Rattle.runs.specs.declared.Policy.{Policy}
use Rattle.runs.specs.declared.Policy.TheVariants.{Greedy, PG, MF, Plan}
use Rattle.runs.specs.Policy.{call_of, outcome_of, reply_of, too_many}

pub called : {policy p : Policy} (room : ℕ) (slots values : List ℕ) (before : Lists) {o : Outcome} → policy ≡ p → o ≡ call_of p room slots values before
    → o ≡ call_of policy room slots values before
called room slots values before is e = rw is e

-- the lists that a run is lent
pub zeros_length : (n m : ℕ) → n ≤ m → length (take n (replicate {A = ℕ} m 0)) ≡ n
zeros_length n m h = ap length (first_zeros n m h) ∙ length-replicate n 0

-- the first n of m zeros, n being the length of the trace
abbrev pub zeroed : ℕ → ℕ → Lists
zeroed n m = lists_of (take n (replicate m 0)) (take n (replicate m 0)) (take n (replicate m 0))

module _ (policy : Policy) (room : ℕ) (slots values : List ℕ) (m : ℕ) (few : length slots ≤ m) where
  pub blank_called : call_of policy room slots values (zeroed (length slots) m) ≡ outcome_of policy room slots values
  blank_called = ap (λ (l : List ℕ). call_of policy room slots values (lists_of l l l)) (first_zeros (length slots) m few)

  pub replied : (answer : Result Totals Refusal) {after : Lists} → outcome answer after ≡ call_of policy room slots values (zeroed (length slots) m)
      → of_run answer ≡ reply_of policy room slots values
  replied answer e = ap (λ (o : Outcome). o.reply) (e ∙ blank_called)

-- a refusal with no place
abbrev pub refused_with : Cause → Reply
refused_with cause = record { number = cause_number cause; place = 0; totals = no_totals }

-- a run that answers 0 was not refused
unless_zero : (v : Verdict) (lists : Lists) (o : Outcome) → (run_unless v lists o).reply.number ≡ 0 → v.number ≡ 0
unfolding run_unless
unless_zero v lists o zero = go (eqb v.number 0) refl zero
  where
    go : (t : Bool) → eqb v.number 0 ≡ t → (cond t o (record { reply = reply_to v; lists = lists })).reply.number ≡ 0 → v.number ≡ 0
    go true e z = eqb-true v.number 0 e
    go false e z = z

module _ (room : ℕ) (slots values : List ℕ) (lists : Lists) where
  -- every call makes the tests of a trace first
  by_trace : (policy : Policy) (G : Outcome → Type 0)
      → ((own : Verdict) (ok : ℕ → Bool) (o : Outcome) → G (run_unless (trace_refusal own ok slots values room lists) lists o))
      → G (call_of policy room slots values lists)
  unfolding greedy_call pg_call mf_call plan_call plain_refusal pg_refusal mf_refusal
  by_trace Greedy G k = k clear value_ok (ran slots values (greedy_run room (arrivals slots values)))
  by_trace (PG beta) G k = k (beta_refusal beta) value_ok (ran slots values (pg_run room beta (arrivals slots values)))
  by_trace (MF m) G k = k (marking_refusal m) (lo_or_hi m) (ran slots values (mf_run room m slots values))
  by_trace Plan G k = k clear value_ok (ran slots values (plan_run room (arrivals slots values)))

  lengths_first : lengths_equal slots values lists ≡ false → (policy : Policy) → (call_of policy room slots values lists).reply ≡ refused_with Lengths
  unfolding run_unless or_else
  lengths_first differ policy = by_trace policy (λ o. o.reply ≡ refused_with Lengths) first
    where
      first : (own : Verdict) (ok : ℕ → Bool) (o : Outcome) → (run_unless (trace_refusal own ok slots values room lists) lists o).reply ≡ refused_with Lengths
      first own ok o = rw differ refl

  packets_next : lengths_equal slots values lists ≡ true → record_limits.packets < length slots → (policy : Policy)
      → (call_of policy room slots values lists).reply ≡ refused_with Packets
  unfolding run_unless or_else
  packets_next same many policy = by_trace policy (λ o. o.reply ≡ refused_with Packets) next
    where
      next : (own : Verdict) (ok : ℕ → Bool) (o : Outcome) → (run_unless (trace_refusal own ok slots values room lists) lists o).reply ≡ refused_with Packets
      next own ok o = rw (same, lt-leb (length slots) 2048 many) refl

  -- a run has lists of one length
  pub ran_same : (policy : Policy) → (call_of policy room slots values lists).reply.number ≡ 0 → (length values ≡ length slots) × Sized (length slots) lists
  ran_same policy =
      by_trace policy (λ o. o.reply.number ≡ 0 → (length values ≡ length slots) × Sized (length slots) lists)
      (λ own ok o zero.
      let A = accepted own ok slots values room lists (unless_zero (trace_refusal own ok slots values room lists) lists o zero) in
      (A.lengths, A.sized))

module _ (policy : Policy) (room : ℕ) (slots values : List ℕ) (many : record_limits.packets < length slots) where
  pub over : reply_of policy room slots values ≡ too_many (length slots) (length values)
  over = go (eqb (length values) (length slots)) refl
    where
      go : (t : Bool) → eqb (length values) (length slots) ≡ t → reply_of policy room slots values ≡ refused_with (cond t Packets Lengths)
      go true e =
          packets_next room slots values (blank (length slots))
          (rw (e, length-replicate {A = ℕ} (length slots) 0, eq-eqb (length slots) (length slots) refl) refl) many policy
      go false e = lengths_first room slots values (blank (length slots)) (rw e refl) policy
