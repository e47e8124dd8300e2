-- `port::Port::take` meets its contract: the same place is taken out of the values and of the numbers.
use Rattle.port.specs.State.{state_of}
use Rattle.port.proofs.Holding.{values_fit, numbers_fit, holds_less, packet_at_lem}
use Rattle.port.proofs.Port.take.Goals as goal

pub take_out-value-requires : goal.take_out-value-requires
take_out-value-requires c =
    record {
      place_lt_held = c.requires.place_lt_held;
      held_in_bounds = values_fit (state_of c.args.self) c.requires.placed c.requires.held_le_room;
    }

pub take_out-number-requires : goal.take_out-number-requires
take_out-number-requires c =
    record {
      place_lt_held = c.requires.place_lt_held;
      held_in_bounds = numbers_fit (state_of c.args.self) c.requires.placed c.requires.held_le_room;
    }

pub returns : goal.returns
returns c =
    let R = c.requires in
    let value = c.take_out-value.ensures in
    let number = c.take_out-number.ensures in
    let port = state_of c.args.self in
    record {
      packet = packet_at_lem port R.placed R.held_le_room c.args.place R.place_lt_held value.entry_was number.entry_was;
      left = holds_less port R.placed c.args.place R.held_le_room R.place_lt_held _ _ _ _ value number;
    }
