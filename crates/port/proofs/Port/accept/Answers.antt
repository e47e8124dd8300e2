-- `port::Port::accept` meets its contract: in each arm the answer and the port are those of the choice, which is PG's decision.
use Prim.Native.Nat.{◌+◌}
use mathlib.Core.Path.{ap, ap₂, sym, ◌∙◌}
use native.Mathlib.Omega.{arith}
use lib.ListN.{length-take}
use Rattle.model.specs.declared.Packet.{Packet}
use Rattle.model.specs.declared.PacketNumber.{PacketNumber}
use Rattle.model.specs.declared.ArrivalAnswer.TheVariants.{Held, HeldLosing, Rejected}
use Rattle.std.specs.Prelude.{Ok}
use Rattle.model.specs.Answers.{of_arrival}
use Rattle.model.specs.Port.{PortState}
use Rattle.queue.specs.declared.Choice.TheVariants.{Hold, Reject, Lose}
use Rattle.port.specs.State.{state_of}
use Rattle.port.proofs.Whole.{values_whole, numbers_whole, whole_placed}
use Rattle.port.proofs.Holding.{holds_same}
use Rattle.port.proofs.Parts.{sound_parts, room_fits}
use Rattle.port.proofs.Choices.{now_allowed, by_choice, rest_placed, rest_holds}
use Rattle.queue.proofs.Told.{told}
use Rattle.port.proofs.Port.accept.Goals as goal

pub slice_bounds-values-end : goal.slice_bounds-values-end
slice_bounds-values-end c =
    let P = whole_placed c.args.self c.well_formed.0 c.requires.self_value in
    omega (arith, P.0, values_whole c.args.self c.well_formed.0)

pub slice_bounds-decide-end : goal.slice_bounds-decide-end
slice_bounds-decide-end c =
    let P = whole_placed c.args.self c.well_formed.0 c.requires.self_value in
    simp length-take (omega (arith, P.0, values_whole c.args.self c.well_formed.0))

pub hold-requires : goal.hold-requires
hold-requires c =
    let P = whole_placed c.args.self c.well_formed.0 c.requires.self_value in
    let allowed = now_allowed (state_of c.args.self) (values_whole c.args.self c.well_formed.0) (numbers_whole c.args.self c.well_formed.0) c.args.value Hold (sym (told _ _ c.decide.ensures) ∙ c.in-Hold.is) P.0 in
    let ok = (sound_parts (state_of c.args.self) c.requires.self_value).room_is_ok in
    record { placed = P.1; held_lt_room = omega (arith, allowed, room_fits c.args.self.room ok) }

pub take-taken-requires : goal.take-taken-requires
take-taken-requires c =
    let P = whole_placed c.args.self c.well_formed.0 c.requires.self_value in
    let allowed = now_allowed (state_of c.args.self) (values_whole c.args.self c.well_formed.0) (numbers_whole c.args.self c.well_formed.0) c.args.value (Lose c.in-Lose.place c.in-Lose.kind) (sym (told _ _ c.decide.ensures) ∙ c.in-Lose.is) P.0 in
    record { placed = P.1; held_le_room = P.0; place_lt_held = allowed }

pub hold-requires-in-Lose : goal.hold-requires-in-Lose
hold-requires-in-Lose c =
    let P = whole_placed c.args.self c.well_formed.0 c.requires.self_value in
    let allowed = now_allowed (state_of c.args.self) (values_whole c.args.self c.well_formed.0) (numbers_whole c.args.self c.well_formed.0) c.args.value (Lose c.in-Lose.place c.in-Lose.kind) (sym (told _ _ c.decide.ensures) ∙ c.in-Lose.is) P.0 in
    let rest = rest_placed (state_of c.args.self) P.1 P.0 c.in-Lose.place allowed c.take-taken.result c.take-taken.ensures in
    record { placed = rest.0; held_lt_room = rest.1 }

pub returns-in-Hold : goal.returns-in-Hold
returns-in-Hold c =
    let number : PacketNumber = record { 0 = c.args.self.last.0 + 1 } in
    ap (λ (after : PortState). record { reply = of_arrival (Ok (Held number)); port = after }) c.hold.ensures
    ∙ by_choice (state_of c.args.self) (values_whole c.args.self c.well_formed.0) (numbers_whole c.args.self c.well_formed.0) c.args.value Hold (sym (told _ _ c.decide.ensures) ∙ c.in-Hold.is) c.requires.self_value c.requires.value_value c.requires.last_lt_number

pub returns-in-Reject : goal.returns-in-Reject
returns-in-Reject c =
    let P = whole_placed c.args.self c.well_formed.0 c.requires.self_value in
    let number : PacketNumber = record { 0 = c.args.self.last.0 + 1 } in
    ap (λ (after : PortState). record { reply = of_arrival (Ok (Rejected number)); port = after }) (holds_same (state_of c.args.self) P.1 number)
    ∙ by_choice (state_of c.args.self) (values_whole c.args.self c.well_formed.0) (numbers_whole c.args.self c.well_formed.0) c.args.value Reject (sym (told _ _ c.decide.ensures) ∙ c.in-Reject.is) c.requires.self_value c.requires.value_value c.requires.last_lt_number

pub returns-in-Lose : goal.returns-in-Lose
returns-in-Lose c =
    let P = whole_placed c.args.self c.well_formed.0 c.requires.self_value in
    let number : PacketNumber = record { 0 = c.args.self.last.0 + 1 } in
    let p : Packet = record { number = number; value = c.args.value } in
    let allowed = now_allowed (state_of c.args.self) (values_whole c.args.self c.well_formed.0) (numbers_whole c.args.self c.well_formed.0) c.args.value (Lose c.in-Lose.place c.in-Lose.kind) (sym (told _ _ c.decide.ensures) ∙ c.in-Lose.is) P.0 in
    ap₂ (λ (lost : Packet) (after : PortState). record { reply = of_arrival (Ok (HeldLosing number (record { packet = lost; kind = c.in-Lose.kind }))); port = after })
    c.take-taken.ensures.packet
    (rest_holds (state_of c.args.self) P.1 P.0 c.in-Lose.place allowed c.take-taken.result c.take-taken.ensures p (state_of c.hold-in-Lose.result) c.hold-in-Lose.ensures)
    ∙ by_choice (state_of c.args.self) (values_whole c.args.self c.well_formed.0) (numbers_whole c.args.self c.well_formed.0) c.args.value (Lose c.in-Lose.place c.in-Lose.kind) (sym (told _ _ c.decide.ensures) ∙ c.in-Lose.is) c.requires.self_value c.requires.value_value c.requires.last_lt_number
