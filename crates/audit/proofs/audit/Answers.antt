-- `audit::audit` meets its contract: a refused trace is refused as `plain_refusal` says; of an accepted one the sweep says the first fault, or that there is
-- none, and then the totals are counted.
use mathlib.Core.Path.{sym, ap, ◌∙◌, ◌≡◌}
use Rattle.std.proofs.Common.{rules}
use Rattle.std.specs.Prelude.{Err}
use Rattle.model.specs.declared.AuditError.TheVariants.{Refused, Faulty}
use Rattle.model.specs.Refusals.{plain_refusal, value_ok}
use Rattle.model.specs.Rules.{Verdict, clear}
use Rattle.model.specs.Answers.{of_audit}
use Rattle.model.specs.Record.{lists_of}
use Rattle.audit.proofs.Answer.{countable, totals_are, on_refused, on_faulty, on_passed}
use Rattle.laws.specs.Accepted.{Accepted}
use Rattle.laws.proofs.Accepted.{accepted}
use Rattle.audit.proofs.audit.Goals as goal

pub returns-in_err-check_plain : goal.returns-in_err-check_plain
returns-in_err-check_plain c =
    let a = c.args in
    let refusal = c.in_err-check_plain.field-0.0 in
    let is : c.from_residual.result ≡ Err (Refused refusal) = search rules in
    ap of_audit is ∙ on_refused a.slots.now a.values.now a.room (lists_of a.fates.now a.whens.now a.bys.now) refusal (c.in_err-check_plain.ensures)

-- the trace was accepted
pub sweep-requires : goal.sweep-requires
unfolding plain_refusal
sweep-requires c =
    let a = c.args in
    accepted clear value_ok a.slots.now a.values.now a.room (lists_of a.fates.now a.whens.now a.bys.now)
    (ap (λ (v : Verdict). v.number) (sym (c.in_ok-check_plain.ensures)))

pub returns-in_err-most : goal.returns-in_err-most
returns-in_err-most c =
    let a = c.args in
    let fault = c.in_err-most.field-0.0 in
    let is : c.from_residual-in_err-most.result ≡ Err (Faulty fault) = search rules in
    ap of_audit is
    ∙ on_faulty a.slots.now a.values.now a.room (lists_of a.fates.now a.whens.now a.bys.now) fault (c.in_ok-check_plain.ensures) (c.in_err-most.ensures)

pub returns : goal.returns
unfolding plain_refusal
returns c =
    let a = c.args in
    let lists = lists_of a.fates.now a.whens.now a.bys.now in
    let passed = c.in_ok-check_plain.ensures in
    let clean = c.in_ok-most.ensures in
    let tested : Accepted value_ok a.slots.now a.values.now a.room lists =
    accepted clear value_ok a.slots.now a.values.now a.room lists (ap (λ (v : Verdict). v.number) (sym passed)) in
    on_passed a.slots.now a.values.now a.room lists c.totals.result passed clean.0
    (totals_are a.slots.now a.values.now a.room lists c.in_ok-most.most tested clean.1 ∙ sym (c.totals.ensures.counted (countable a.slots.now a.values.now a.room lists tested)))
