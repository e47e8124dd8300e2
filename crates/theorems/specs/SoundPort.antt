-- Soundness is kept by every live call, so a port that was made and is in use never gives 8; and an empty port never refuses a packet for want of room.
use Rattle.std.specs.Prelude.{ℕ, ◌<◌, ◌≡◌, true}
use Rattle.model.specs.declared.Beta.{Beta}
use Rattle.model.specs.declared.Cause.TheVariants.{Unsound}
use Rattle.model.specs.Numbers.{cause_number}
use Rattle.model.specs.Limits.{port_limits}
use Rattle.model.specs.Packets.{nobody}
use Rattle.model.specs.Refusals.{value_ok}
use Rattle.model.specs.Answers.{port_says}
use Rattle.model.specs.Port.{PortState, sound, next_packet, make_call, arrive_call, end_of_slot_call}

-- a port that was made is sound
abbrev pub MadeSound : Type 0
MadeSound = (room : ℕ) (beta : Beta) → (make_call room beta).reply.number ≡ 0 → sound (make_call room beta).port ≡ true

-- an arrival leaves a sound port sound, whatever the value
abbrev pub ArrivalKeeps : Type 0
ArrivalKeeps = (port : PortState) (value : ℕ) → sound port ≡ true → sound (arrive_call port value).port ≡ true

-- an end of slot leaves a sound port sound
abbrev pub SlotKeeps : Type 0
SlotKeeps = (port : PortState) → sound port ≡ true → sound (end_of_slot_call port).port ≡ true

-- neither call on a sound port gives 8, not sound
abbrev pub NeverUnsound : Type 0
NeverUnsound =
    (port : PortState) (value : ℕ) → sound port ≡ true
    → ((arrive_call port value).reply.number ≡ cause_number Unsound → ⊥) × ((end_of_slot_call port).reply.number ≡ cause_number Unsound → ⊥)

-- a sound port that holds nothing holds every accepted arrival
abbrev pub EmptyHolds : Type 0
EmptyHolds =
    (port : PortState) (value : ℕ) → sound port ≡ true → port.held ≡ 0 → value_ok value ≡ true → port.last.0 < port_limits.number
    → (arrive_call port value).reply ≡ port_says 0 (next_packet port value).number nobody
