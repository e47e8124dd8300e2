-- `text::run` meets its contract: nothing in a list that is too short; a trace that has too many packets is refused as every call does; else the lists that
-- it lends are blank.
use mathlib.Core.Path.{refl, ◌∙◌}
use native.Mathlib.Omega.{arith}
use Rattle.output.proofs.Writing.{wrote_same}
use Rattle.text.proofs.Policies.{blank_said, over_said, spoken_none, spoken_all}
use Rattle.text.proofs.run.Goals as goal

pub returns-then-out-lt-OUTPUT : goal.returns-then-out-lt-OUTPUT
returns-then-out-lt-OUTPUT c = let a = c.args in
    spoken_none a.policy a.room a.slots.now a.values.now a.out.now c.if-out-lt-OUTPUT.true

pub returns-then-n-gt-PACKETS : goal.returns-then-n-gt-PACKETS
returns-then-n-gt-PACKETS c = let a = c.args in
    let said = over_said a.policy a.room a.slots.now a.values.now c.if-n-gt-PACKETS.true c.too_many.result c.too_many.ensures in
    let spoken = spoken_all a.policy a.room a.slots.now a.values.now a.out.now c.if-out-lt-OUTPUT.false in
    wrote_same (said ∙ spoken) refl (c.refuse.ensures.fits (omega (arith, c.if-out-lt-OUTPUT.false)))

pub returns : goal.returns
returns c = let a = c.args in
    let said = blank_said a.policy a.room a.slots.now a.values.now 2048 c.if-n-gt-PACKETS.false in
    let spoken = spoken_all a.policy a.room a.slots.now a.values.now a.out.now c.if-out-lt-OUTPUT.false in
    wrote_same (said ∙ spoken) refl c.say.ensures
