-- `lab::auditing::check` meets its contract: the first row out of its place, or the audit.
use Prim.Native.Nat.{ℕ}
use mathlib.Core.Path.{refl, ap, ◌∙◌}
use native.Mathlib.Omega.{arith}
use Rattle.output.specs.Output.{refusal_text}
use Rattle.output.proofs.Writing.{wrote_same}
use Rattle.lab.proofs.Audits.{audit_malformed, audit_formed}
use Rattle.lab.proofs.auditing.check.Goals as goal

pub returns-in-Some : goal.returns-in-Some
returns-in-Some c = wrote_same (ap (λ (n : ℕ). refusal_text n c.in-Some.line) c.from.ensures ∙ audit_malformed c.args.room c.args.numbers.now c.args.slots.now c.args.values.now _ c.in-Some.line c.in-Some.ensures) refl (c.put_refusal.ensures.fits (omega (arith, c.requires.in_bounds)))

pub returns : goal.returns
returns c = wrote_same (audit_formed c.args.room c.args.numbers.now c.args.slots.now c.args.values.now _ c.in_default.ensures) refl c.say.ensures
