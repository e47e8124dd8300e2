-- A choice is known by its numbers: they are read back. So a promise on the numbers leaves one choice only.
use mathlib.Core.Path.{◌≡◌, refl, sym, ap, ◌∙◌}
use mathlib.Core.Bool.{cond}
use lib.Dec.{eqb}
use Rattle.model.specs.declared.Fate.TheVariants.{Rejected}
use Rattle.model.specs.declared.LossKind.TheVariants.{PushedOut, Preempted}
use Rattle.model.specs.Numbers.{fate_number}
use Rattle.model.specs.Record.{loss_fate}
use Rattle.queue.specs.declared.Choice.{Choice}
use Rattle.queue.specs.declared.Choice.TheVariants.{Hold, Reject, Lose}
use Rattle.queue.specs.Choose.{Chosen, of_choice}

read_back : Chosen → Choice
read_back c =
    cond (eqb c.number 0) Hold
    (cond (eqb c.number (fate_number Rejected)) Reject
    (Lose c.place (cond (eqb c.number (fate_number (loss_fate PushedOut))) PushedOut Preempted)))

read_back_lem : (a : Choice) → read_back (of_choice a) ≡ a
unfolding read_back
read_back_lem Hold = refl
read_back_lem Reject = refl
read_back_lem (Lose place PushedOut) = refl
read_back_lem (Lose place Preempted) = refl

pub told : (a b : Choice) → of_choice a ≡ of_choice b → a ≡ b
told a b e = sym (read_back_lem a) ∙ ap read_back e ∙ read_back_lem b
