-- The test of the window decides which promise is kept.
-- the answer, and what it says
use mathlib.Core.Path.{◌≡◌, refl, sym, ap, ◌∙◌}
use mathlib.Core.List.{List, [], ◌∷◌}
use Rattle.model.specs.declared.Packet.{Packet}
use Rattle.std.specs.Prelude.{Option, Ok}
use Rattle.model.specs.Answers.{of_slot}
use Rattle.steps.specs.Window.{oldest_of, oldest_says, Oldest}
use borrow.Author.Tests.{not-true, not-false}
use Rattle.steps.proofs.Guarding.{by_pass, by_fail, lies_within_lem}
use Rattle.steps.proofs.oldest.Goals as goal

told : {r : Option Packet} (queue : List Packet) → r ≡ oldest_of queue → Oldest queue r
told {r} queue e = record { says = ap (λ (x : Option Packet). of_slot (Ok x)) e ∙ says queue; is = e }
  where
    says : (queue : List Packet) → of_slot (Ok (oldest_of queue)) ≡ oldest_says queue
    says [] = refl
    says (p ∷ queue) = refl

pub returns-then-not-lies_within : goal.returns-then-not-lies_within
returns-then-not-lies_within c = let a = c.args in by_fail (sym c.lies_within.ensures ∙ not-true _ c.if-not-lies_within.true-raw) (told [] refl)

pub oldest-requires : goal.oldest-requires
oldest-requires c = let a = c.args in lies_within_lem a.w a.numbers.now a.values.now (sym c.lies_within.ensures ∙ not-false _ c.if-not-lies_within.false-raw)

pub returns : goal.returns
returns c = let a = c.args in by_pass (sym c.lies_within.ensures ∙ not-false _ c.if-not-lies_within.false-raw) (told _ c.oldest.ensures)
