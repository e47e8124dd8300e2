-- The answer is that of the test; what becomes of `kept` is decided by it and by the test of the length.
use mathlib.Core.Path.{◌≡◌, sym, ap, ◌∙◌}
use Rattle.std.proofs.Common.{rules}
use Rattle.std.specs.Prelude.{Err}
use Rattle.model.specs.Record.{lists_of}
use Rattle.trace.specs.Checked.{verdict_of}
use Rattle.plan_kept.proofs.Planned.{clear_accepted, short_same, accepted_kept, refused_same}
use Rattle.plan_kept.proofs.keep.Goals as goal

pub returns-in_err-check_plain : goal.returns-in_err-check_plain
returns-in_err-check_plain c =
    let a = c.args in
    let refusal = c.in_err-check_plain.field-0.0 in
    let is : c.from_residual.result ≡ Err refusal = search rules in
    (ap verdict_of is ∙ c.in_err-check_plain.ensures, refused_same a.slots.now a.values.now a.room a.kept.now refusal c.in_err-check_plain.ensures)

pub keep_all-requires : goal.keep_all-requires
keep_all-requires c = let a = c.args in
    record { accepted = clear_accepted a.slots.now a.values.now a.room (lists_of a.fates.now a.whens.now a.bys.now) c.in_ok-check_plain.ensures; kept_len = c.if-kept-slots.true }

pub returns-then-kept-slots : goal.returns-then-kept-slots
returns-then-kept-slots c = let a = c.args in
    (c.in_ok-check_plain.ensures, c.keep_all.ensures ∙ sym (accepted_kept a.slots.now a.values.now a.room a.kept.now _ c.in_ok-check_plain.ensures c.if-kept-slots.true))

pub returns-else-kept-slots : goal.returns-else-kept-slots
returns-else-kept-slots c = let a = c.args in
    (c.in_ok-check_plain.ensures, short_same a.slots.now a.values.now a.room a.kept.now _ c.if-kept-slots.false)
