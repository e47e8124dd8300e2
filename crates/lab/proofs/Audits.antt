-- What the audit says, by its number; and the numbers of the rows: those that are left tell what all do.
use Prim.Native.Nat.{ℕ, suc, ◌+◌, ◌≤◌, ◌<◌}
use mathlib.Core.Path.{◌≡◌, refl, sym, ap, ◌∙◌}
use mathlib.Core.List.{List, ◌++◌}
use native.Mathlib.Numerals.{add-one}
use native.Mathlib.Omega.{arith}
use lib.ListN.{length, get_or, drop, drop_of_length-le}
use lib.Seq.{drop-cons}
use borrow.Author.Tests.{eq-eqb, ne_eqb}
use Rattle.std.proofs.Common.{Some, None, Result}
use Rattle.model.specs.declared.Cause.TheVariants.{Text}
use Rattle.model.specs.declared.Totals.{Totals}
use Rattle.model.specs.declared.AuditError.{AuditError}
use Rattle.model.specs.Record.{Lists}
use Rattle.model.specs.Numbers.{cause_number}
use Rattle.model.specs.Answers.{Reply, of_audit}
use Rattle.model.specs.Calls.{audit_call}
use Rattle.output.specs.Output.{line_with, refusal_text}
use Rattle.lab_table.specs.Line.{counts_of}
use Rattle.lab.specs.Audit.{misnumbered_from, audit_header, verdict_text, audit_text}

module _ (answer : Result Totals AuditError) {verdict reply : Reply} (is : of_audit answer ≡ verdict) (replies : reply ≡ of_audit answer) where
  pub verdict_some : (reply.number ≡ 0 → ⊥) → refusal_text reply.number reply.place ≡ verdict_text verdict
  verdict_some some = rw (← is, ← replies, ne_eqb reply.number 0 some) refl

  pub verdict_passed : reply.number ≡ 0 → audit_header ++ line_with (counts_of reply.totals) ≡ verdict_text verdict
  verdict_passed none = rw (← is, ← replies, none) refl

module _ (numbers : List ℕ) (i : ℕ) where
  abbrev pub Numbered : Type 0
  Numbered = misnumbered_from (i + 1) (drop i numbers) ≡ misnumbered_from 1 numbers

  module _ (more : i < length numbers) (before : Numbered) where
    pub numbered_turn : get_or numbers i 0 ≡ i + 1 → misnumbered_from (i + 1 + 1) (drop (i + 1) numbers) ≡ misnumbered_from 1 numbers
    unfolding misnumbered_from
    numbered_turn same =
        sym (rw (drop-cons numbers i 0 more, eq-eqb (get_or numbers i 0) (i + 1) same, add-one (i + 1), add-one i) refl) ∙ before

    pub numbered_wrong : (get_or numbers i 0 ≡ i + 1 → ⊥) → Some (i + 2) ≡ misnumbered_from 1 numbers
    unfolding misnumbered_from
    numbered_wrong other =
        let two : i + 2 ≡ suc (i + 1) = omega arith in
        ap Some two ∙ sym (rw (drop-cons numbers i 0 more, ne_eqb (get_or numbers i 0) (i + 1) other) refl) ∙ before

  pub numbered_all : length numbers ≤ i → Numbered → None ≡ misnumbered_from 1 numbers
  unfolding misnumbered_from
  numbered_all done before = sym (rw (drop_of_length-le numbers done) refl) ∙ before

module _ (room : ℕ) (numbers slots values : List ℕ) (lists : Lists) where
  pub audit_malformed : (line : ℕ) → Some line ≡ misnumbered_from 1 numbers
      → refusal_text (cause_number Text) line ≡ audit_text room numbers slots values lists
  unfolding audit_text
  audit_malformed line is = rw (← is) refl

  pub audit_formed : None ≡ misnumbered_from 1 numbers → verdict_text (audit_call slots values room lists) ≡ audit_text room numbers slots values lists
  unfolding audit_text
  audit_formed is = rw (← is) refl
