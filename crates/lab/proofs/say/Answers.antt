-- `lab::say` meets its contract: by what was read.
use Prim.Native.Nat.{ℕ}
use mathlib.Core.Path.{refl, ap}
use native.Mathlib.Omega.{arith}
use Rattle.output.specs.Output.{refusal_text}
use Rattle.output.proofs.Writing.{wrote_same}
use Rattle.lab_table.proofs.Tables.{begins}
use Rattle.lab.proofs.Telling.{said_by}
use mathlib.Core.Path.{◌≡◌, ◌∙◌}
use Rattle.std.specs.Prelude.{Err}
use Rattle.rows.specs.declared.RowsError.TheVariants.{Malformed, TooMany}
use Rattle.lab.proofs.say.Goals as goal

pub returns-in-Err-Malformed : goal.returns-in-Err-Malformed
returns-in-Err-Malformed c =
    let held = c.in-Err-Malformed in
    let why : held.field-0 ≡ Malformed held.line = rw held.is at held.field-0-is in
    said_by c.args.job c.args.betas.now _ c.args.rows.now (held.is ∙ ap Err why) (begins (wrote_same (ap (λ (n : ℕ). refusal_text n c.in-Err-Malformed.line) c.from.ensures) refl (c.put_refusal.ensures.fits (omega (arith, c.requires.output_limit_in_bounds)))))

pub returns-in-Err-TooMany : goal.returns-in-Err-TooMany
returns-in-Err-TooMany c =
    let held = c.in-Err-TooMany in
    let why : held.field-0 ≡ TooMany = rw held.is at held.field-0-is in
    said_by c.args.job c.args.betas.now _ c.args.rows.now (held.is ∙ ap Err why) (begins (wrote_same (ap (λ (n : ℕ). refusal_text n 0) c.from-in-Err-TooMany.ensures) refl (c.put_refusal-in-Err-TooMany.ensures.fits (omega (arith, c.requires.output_limit_in_bounds)))))
