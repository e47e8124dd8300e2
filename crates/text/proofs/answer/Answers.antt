-- `text::answer` meets its contract: by the two lengths, and by what was read.
use Prim.Native.Nat.{ℕ}
use mathlib.Core.Path.{◌≡◌, refl, ap, ◌∙◌}
use native.Mathlib.Omega.{arith}
use Rattle.std.specs.Prelude.{Err}
use Rattle.rows.specs.declared.RowsError.TheVariants.{Malformed, TooMany}
use Rattle.output.specs.Output.{refusal_text}
use Rattle.output.proofs.Writing.{wrote_same}
use Rattle.text.proofs.Saying.{answered_none, answered, short_table, short_out, says_by, says_many, says_trace, trace_spoken}
use Rattle.text.proofs.answer.Goals as goal
use Rattle.text.proofs.answer.Goals.{then-table-ne-TABLE-via-then-table-ne-TABLE, then-table-ne-TABLE-via-else-table-ne-TABLE+then-out-lt-OUTPUT}

pub returns-then-table-ne-TABLE : goal.returns-then-table-ne-TABLE
returns-then-table-ne-TABLE c = let a = c.args in
    answered_none a.read a.table.now a.out.now
    (elim c.then-table-ne-TABLE.branch [
      | then-table-ne-TABLE-via-then-table-ne-TABLE w ↦ short_table a.read a.table.now a.out.now w.if-table-ne-TABLE.true
      | then-table-ne-TABLE-via-else-table-ne-TABLE+then-out-lt-OUTPUT w ↦ short_out a.read a.table.now a.out.now w.if-table-ne-TABLE.false w.if-out-lt-OUTPUT.true
    ])

pub returns-then-many : goal.returns-then-many
returns-then-many c = let a = c.args in
    let said = says_many a.read a.table.now a.out.now c.if-table-ne-TABLE.false c.if-out-lt-OUTPUT.false _ c.in-Ok.is c.if-many.true in
    answered a.read a.table.now a.out.now _ _ _ said
    (wrote_same (ap (λ (n : ℕ). refusal_text n 0) c.from-then-many.ensures) refl (c.put_refusal-then-many.ensures.fits (omega arith)))

pub returns-in-Err-Malformed : goal.returns-in-Err-Malformed
returns-in-Err-Malformed c = let a = c.args in
    let held = c.in-Err-Malformed in
    let why : held.field-0 ≡ Malformed c.in-Err-Malformed.line = rw held.is at held.field-0-is in
    let is : a.read ≡ Err (Malformed c.in-Err-Malformed.line) = held.is ∙ ap Err why in
    let said = says_by a.read a.table.now a.out.now c.if-table-ne-TABLE.false c.if-out-lt-OUTPUT.false _ is in
    answered a.read a.table.now a.out.now _ _ _ said
    (wrote_same (ap (λ (n : ℕ). refusal_text n c.in-Err-Malformed.line) c.from.ensures) refl (c.put_refusal.ensures.fits (omega arith)))

pub returns-in-Err-TooMany : goal.returns-in-Err-TooMany
returns-in-Err-TooMany c = let a = c.args in
    let held = c.in-Err-TooMany in
    let why : held.field-0 ≡ TooMany = rw held.is at held.field-0-is in
    let is : a.read ≡ Err TooMany = held.is ∙ ap Err why in
    let said = says_by a.read a.table.now a.out.now c.if-table-ne-TABLE.false c.if-out-lt-OUTPUT.false _ is in
    answered a.read a.table.now a.out.now _ _ _ said
    (wrote_same (ap (λ (n : ℕ). refusal_text n 0) c.from-in-Err-TooMany.ensures) refl (c.put_refusal-in-Err-TooMany.ensures.fits (omega arith)))

pub returns-else-many : goal.returns-else-many
returns-else-many c = let a = c.args in
    answered a.read a.table.now a.out.now _ _ _ (says_trace a.read a.table.now a.out.now c.if-table-ne-TABLE.false c.if-out-lt-OUTPUT.false _ c.in-Ok.is c.if-many.false c.split_at.ensures.front c.split_at.ensures.back)
    (wrote_same (trace_spoken _ _ a.out.now c.if-out-lt-OUTPUT.false) refl c.run.ensures)
