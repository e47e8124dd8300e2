-- A value of type `Port` has 256 places in each of its arrays: what its type says of it.
use Prim.Native.Nat.{◌≤◌}
use mathlib.Core.Path.{◌≡◌}
use mathlib.Core.Bool.{true}
use mathlib.Core.List.{List}
use lib.ListN.{length}
use mir.Val.{Val}
use denote.Laws.{Is}
use denote.Struct.Declared.{row}
use Rattle.model.specs.Limits.{port_limits}
use Rattle.model.specs.Port.{sound}
use Rattle.port.specs.State.{state_of, Placed}
use Rattle.port.specs.declared.Port.{Port}
use Rattle.port.specs.contracts.Port.{the_type}
use Rattle.port.proofs.Parts.{sound_placed}

module _ (port : Port) {values : List Val} (is : Is (row the_type) port values) where
  pub values_whole : length port.values ≡ port_limits.room
  values_whole = is.1.1.1.1.1.1.0.1.0.1

  pub numbers_whole : length port.numbers ≡ port_limits.room
  numbers_whole = is.1.1.1.1.1.1.1.0.1.0.1

  -- a sound port's places hold its queue
  pub whole_placed : sound (state_of port) ≡ true → (port.held ≤ port_limits.room) × Placed (state_of port)
  whole_placed s = sound_placed (state_of port) s values_whole numbers_whole
