-- `port::Port::end_of_slot` meets its contract: 8, or idle where nothing is held, or the packet at place 0 is taken out.
use mathlib.Core.Path.{◌≡◌, ap₂, sym, ◌∙◌}
use mathlib.Core.Bool.{true}
use native.Mathlib.Omega.{arith}
use Rattle.model.specs.declared.Packet.{Packet}
use Rattle.std.specs.Prelude.{Ok, Some}
use Rattle.model.specs.Answers.{of_slot}
use Rattle.model.specs.Port.{PortState, sound}
use Rattle.port.specs.State.{state_of}
use Rattle.port.proofs.Holding.{held_length}
use Rattle.port.proofs.Whole.{whole_placed}
use Rattle.port.proofs.Calls.{slot_unsound, slot_idle, slot_sends}
use Rattle.port.proofs.Port.end_of_slot.Goals as goal

pub returns-then-not-is_sound : goal.returns-then-not-is_sound
returns-then-not-is_sound c = slot_unsound (state_of c.args.self) (sym c.is_sound.ensures ∙ c.if-not-is_sound.true)

pub returns-then-idle : goal.returns-then-idle
returns-then-idle c = slot_idle (state_of c.args.self) (sym c.is_sound.ensures ∙ c.if-not-is_sound.false) c.if-idle.true

pub take-requires : goal.take-requires
take-requires c =
    let P = whole_placed c.args.self c.well_formed.0 (sym c.is_sound.ensures ∙ c.if-not-is_sound.false) in
    record { placed = P.1; held_le_room = P.0; place_lt_held = omega (arith, c.if-idle.false) }

pub returns : goal.returns
returns c =
    let port = state_of c.args.self in
    let sounds : sound port ≡ true = sym c.is_sound.ensures ∙ c.if-not-is_sound.false in
    let P = whole_placed c.args.self c.well_formed.0 sounds in
    let take = c.take.ensures in
    ap₂ (λ (sent : Packet) (after : PortState). record { reply = of_slot (Ok (Some sent)); port = after }) take.packet take.left
    ∙ slot_sends port sounds (omega (arith, c.if-idle.false, held_length port P.1))
