-- The oldest packet is what the window begins with; on idle the window is empty.
use mathlib.Core.Path.{refl, sym, ◌∙◌}
use Rattle.model.specs.Record.{lists_of}
use Rattle.mf_flush.proofs.Finishing.{sent_oldest, sent_none}
use Rattle.steps.proofs.Guarding.{within_lies}
use Rattle.mf_flush.proofs.ends.send.Goals as goal

pub returns-in_default : goal.returns-in_default
returns-in_default c = let a = c.args in
    let told = (c.oldest.ensures.passed (within_lies a.w a.numbers.now a.values.now c.requires)).is in (
      sent_none a.slot a.w.head a.w.tail a.numbers.now a.values.now c.requires (lists_of a.fates.now a.whens.now a.bys.now)
          (λ p e. c.in_default.not-Some p (told ∙ e)),
      refl,
    )

pub returns : goal.returns
returns c = let a = c.args in (
  (sent_oldest a.slot a.w.head a.w.tail a.numbers.now a.values.now c.requires (lists_of a.fates.now a.whens.now a.bys.now)
      c.in-Some.p (sym (c.oldest.ensures.passed (within_lies a.w a.numbers.now a.values.now c.requires)).is ∙ c.in-Some.is) _ c.enter.ensures).1,
  refl,
)
