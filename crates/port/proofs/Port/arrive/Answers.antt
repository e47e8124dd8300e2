-- `port::Port::arrive` meets its contract: 8, then 6, then 7, and else the arrival is accepted.
use mathlib.Core.Path.{◌≡◌, sym, ◌∙◌}
use mathlib.Core.Bool.{true}
use Rattle.model.specs.Refusals.{value_ok}
use Rattle.model.specs.Port.{sound}
use Rattle.port.specs.State.{state_of}
use Rattle.port.proofs.Calls.{arrival_unsound, arrival_value, arrival_spent}
use Rattle.port.proofs.Port.arrive.Goals as goal

pub returns-then-not-sound : goal.returns-then-not-sound
returns-then-not-sound c =
    c.refuse.ensures ∙ arrival_unsound (state_of c.args.self) c.args.value (sym c.is_sound-sound.ensures ∙ c.if-not-sound.true)

pub returns-then-not-in_range : goal.returns-then-not-in_range
returns-then-not-in_range c =
    let sounds : sound (state_of c.args.self) ≡ true = sym c.is_sound-sound.ensures ∙ c.if-not-sound.false in
    c.refuse-then-not-in_range.ensures
    ∙ arrival_value (state_of c.args.self) c.args.value sounds (sym c.value_ok-in_range.ensures ∙ c.if-not-in_range.true)

pub returns-then-not-left : goal.returns-then-not-left
returns-then-not-left c =
    let sounds : sound (state_of c.args.self) ≡ true = sym c.is_sound-sound.ensures ∙ c.if-not-sound.false in
    let ranged : value_ok c.args.value ≡ true = cc in
    c.refuse-then-not-left.ensures
    ∙ arrival_spent (state_of c.args.self) c.args.value sounds ranged c.if-not-left.true

pub accept-requires : goal.accept-requires
accept-requires c =
    record {
      self_value = sym c.is_sound-sound.ensures ∙ c.if-not-sound.false;
      value_value = sym c.value_ok-in_range.ensures ∙ c.if-not-in_range.false;
      last_lt_number = c.if-not-left.false;
    }
