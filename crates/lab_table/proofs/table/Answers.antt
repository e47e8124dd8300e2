-- `lab_table::table` meets its contract: nothing where a list is not as long as it has to be; else the draft begins with the table, and that part of it is
-- written.
use mathlib.Core.Path.{sym}
use native.Mathlib.Omega.{arith}
use lib.Seq.{length-take-le}
use Rattle.lab_table.proofs.Spoken.{short_list, many_betas, table_spoken_lem}
use Rattle.lab_table.proofs.table.Goals as goal

pub returns-then-out-lt-BYTES : goal.returns-then-out-lt-BYTES
returns-then-out-lt-BYTES c = let a = c.args in
    short_list a.room a.betas.now a.slots.now a.values.now a.out.now c.if-out-lt-BYTES.true

pub returns-then-many : goal.returns-then-many
returns-then-many c = let a = c.args in
    many_betas a.room a.betas.now a.slots.now a.values.now a.out.now c.if-out-lt-BYTES.false c.if-many.true

pub slice_bounds-put-end : goal.slice_bounds-put-end
slice_bounds-put-end c = sym (length-take-le _ _ c.draft-end.ensures.inside)

pub returns : goal.returns
returns c = let a = c.args in
    let long = c.if-out-lt-BYTES.false in
    table_spoken_lem a.room a.betas.now a.slots.now a.values.now a.out.now long c.if-many.false c.draft-end.ensures (omega (arith, long)) c.put.ensures
