-- `text::say` meets its contract: a refusal, or the header, its line's end and the rows behind them. A call that is not refused has
-- lists of one length.
use mathlib.Core.Path.{refl}
use native.Mathlib.Omega.{arith}
use Rattle.output.proofs.Putting.{same_kept, put_rows_behind}
use Rattle.output.proofs.Writing.{wrote_same}
use Rattle.text.proofs.Policies.{call_refused, call_ran, call_same}
use Rattle.text.proofs.say.Goals as goal

pub returns-in-Err : goal.returns-in-Err
returns-in-Err c =
    let a = c.args in
    let said = call_refused a.policy a.room a.slots.now a.values.now _ c.call.result c.call.ensures c.in-Err.refusal c.in-Err.is in
    wrote_same said refl (c.refuse.ensures.fits (omega (arith, c.requires.output_limit_in_bounds)))

pub returns : goal.returns
returns c =
    let a = c.args in
    let call = c.call in
    let ran = c.in_default in
    let same = same_kept (call_same a.policy a.room a.slots.now a.values.now _ call.result call.ensures ran.field-0 ran.is) call.auto.fates call.auto.whens call.auto.bys in
    let said = call_ran a.policy a.room a.slots.now a.values.now _ call.result call.ensures ran.field-0 ran.is in
    wrote_same said refl (put_rows_behind refl refl (omega (arith, c.requires.slots_len_bound, c.requires.output_limit_in_bounds)) refl c.put-header.ensures c.put-at.ensures c.put_rows.ensures same)
