-- What is said of a call: its refusal, or its record, by its number; and in a list that is too short for the longest answer nothing.
use Prim.Native.Nat.{ℕ, ◌≤◌, ◌<◌}
use mathlib.Core.Path.{◌≡◌, refl, sym, ap, ◌∙◌}
use mathlib.Core.List.{List, ◌∷◌, ◌++◌}
use native.Mathlib.Omega.{arith}
use lib.ListN.{length}
use borrow.Author.Tests.{eqb-false, lt-ltb, le-ltb}
use Rattle.std.specs.Prelude.{Result, Ok, Err}
use Rattle.model.specs.declared.Totals.{Totals}
use Rattle.model.specs.declared.Refusal.{Refusal}
use Rattle.model.specs.Limits.{record_limits}
use Rattle.model.specs.Numbers.{cause_number}
use Rattle.model.specs.Packets.{arrivals}
use Rattle.model.specs.Record.{Lists, rows}
use Rattle.model.specs.Answers.{Reply, of_run}
use Rattle.model.specs.Calls.{Outcome}
use Rattle.trace.proofs.Laws.{cause_refuses}
use Rattle.steps.specs.Calls.{outcome}
use Rattle.signs.specs.Signs.{cr, lf, record_header}
use Rattle.output.specs.Output.{output_limit, row_lines, refusal_text}
use Rattle.output.specs.Said.{said_of}
use Rattle.output.specs.Writing.{Wrote, SameLengths}
use Rattle.output.proofs.Said.{refused_said, ran_said}
use Rattle.runs.specs.declared.Policy.{Policy}
use Rattle.runs.specs.Policy.{call_of, outcome_of, too_many}
use Rattle.runs.proofs.Calls.{zeroed, blank_called, ran_same, over}
use Rattle.text.specs.Run.{called_text, run_text, run_spoken}

module _ (policy : Policy) (room : ℕ) (slots values : List ℕ) (m : ℕ) (few : length slots ≤ m) where
  pub blank_said : said_of slots values (call_of policy room slots values (zeroed (length slots) m)) ≡ run_text policy room slots values
  blank_said = ap (said_of slots values) (blank_called policy room slots values m few)

-- what a call says: a refusal, or a record
module _ (policy : Policy) (room : ℕ) (slots values : List ℕ) (lists : Lists) (answer : Result Totals Refusal) {after : Lists}
    (is : outcome answer after ≡ call_of policy room slots values lists) where
  reply_is : (call_of policy room slots values lists).reply ≡ of_run answer
  reply_is = ap (λ (o : Outcome). o.reply) (sym is)

  pub call_refused : (f : Refusal) → answer ≡ Err f → refusal_text (cause_number f.cause) f.place ≡ called_text policy room slots values lists
  call_refused f e =
      let same = reply_is ∙ ap of_run e in
      refused_said slots values (call_of policy room slots values lists) (ap (λ (r : Reply). r.number) same) (ap (λ (r : Reply). r.place) same)
      (λ zero. eqb-false (cause_number f.cause) 0 (cause_refuses f.cause) zero)

  module _ (t : Totals) (e : answer ≡ Ok t) where
    zero : (call_of policy room slots values lists).reply.number ≡ 0
    zero = ap (λ (r : Reply). r.number) (reply_is ∙ ap of_run e)

    pub call_ran : record_header ++ cr ∷ lf ∷ row_lines (rows (arrivals slots values) after) ≡ called_text policy room slots values lists
    call_ran = ran_said slots values (call_of policy room slots values lists) after zero (ap (λ (o : Outcome). o.lists) (sym is))

    pub call_same : SameLengths slots values lists.fates lists.whens lists.bys
    call_same =
        let same = ran_same room slots values lists policy zero in
        record { of_values = same.0; of_fates = same.1.fates; of_whens = same.1.whens; of_bys = same.1.bys }

module _ (policy : Policy) (room : ℕ) (slots values : List ℕ) (many : record_limits.packets < length slots) where
  pub over_said : (f : Refusal) → of_run (Err f) ≡ too_many (length slots) (length values)
      → refusal_text (cause_number f.cause) f.place ≡ run_text policy room slots values
  over_said f is =
      let same = over policy room slots values many ∙ sym is in
      refused_said slots values (outcome_of policy room slots values) (ap (λ (r : Reply). r.number) same) (ap (λ (r : Reply). r.place) same)
      (λ zero. eqb-false (cause_number f.cause) 0 (cause_refuses f.cause) zero)

-- in a list that is long enough, or not
module _ (policy : Policy) (room : ℕ) (slots values out : List ℕ) where
  pub spoken_none : length out < output_limit → Wrote 0 (run_spoken policy room slots values out) out 0 out
  unfolding run_spoken
  spoken_none short = rw (lt-ltb (length out) output_limit short) (record { inside = omega arith; written = refl; behind = refl })

  pub spoken_all : output_limit ≤ length out → run_text policy room slots values ≡ run_spoken policy room slots values out
  unfolding run_spoken
  spoken_all long = rw (le-ltb (length out) output_limit long) refl
