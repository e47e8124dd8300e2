-- 01, 'The buffer's rules, and the audit'. Where nothing is refused the audit passes exactly when the record obeys the rules; and where it names a fault,
-- that packet has that fault, none of the faults tested before it, and no packet of lower number has any. The proofs are in proofs/Audited.antt.
use Rattle.std.specs.Prelude.{ℕ, suc, ◌<◌, ◌≡◌, ◌↔◌, Bool, true, false, List, ◌∷◌, ◌++◌, reverse, length}
use Rattle.model.specs.declared.Fault.{Fault}
use Rattle.model.specs.declared.Fault.TheVariants.{FateOutside, ByWrong, WhenWrong, NotLater, OverRoom}
use Rattle.model.specs.Packets.{arrivals}
use Rattle.model.specs.Record.{Row, Lists, rows}
use Rattle.model.specs.Rules.{Buffer, Obeys, fate_outside, by_wrong, when_wrong, not_later, over_room, buffer_of}
use Rattle.model.specs.Refusals.{plain_refusal}
use Rattle.model.specs.Answers.{Reply, fault_number}
use Rattle.model.specs.Calls.{audit_call}

-- the packet of row r has this fault; of the rows before r, `older`, the newest stands first
abbrev pub has_fault : Buffer → List Row → Row → Fault → Bool
has_fault B older r FateOutside = fate_outside r
has_fault B older r ByWrong = by_wrong (length B.slots) r
has_fault B older r WhenWrong = when_wrong B.slots r
has_fault B older r NotLater = not_later older r
has_fault B older r OverRoom = over_room B.room older r

-- an answer names a fault of these rows: the number is a fault's and the place a packet's; that packet has that fault and none of lower number (they are
-- tested in the order of their numbers); and the packets of lower number, which are those before it, obey the rules
pub record Names (B : Buffer) (rows : List Row) (reply : Reply) : Type 0 where
  pub lower : List Row
  pub packet : Row
  pub higher : List Row
  pub in_order : rows ≡ lower ++ packet ∷ higher
  pub own_number : packet.number.0 ≡ suc (length lower)
  pub fault : Fault
  pub number_named : reply.number ≡ fault_number fault
  pub place_named : reply.place ≡ packet.number.0
  pub has_it : has_fault B (reverse lower) packet fault ≡ true
  pub none_before : (other : Fault) → fault_number other < fault_number fault → has_fault B (reverse lower) packet other ≡ false
  pub lower_obey : Obeys B lower

-- what holds of each audit that is not refused: of its buffer, its rows and its answer
abbrev pub OfEachAudit : (Buffer → List Row → Reply → Type 0) → Type 0
OfEachAudit P =
    (slots values : List ℕ) (room : ℕ) (lists : Lists)
    → (plain_refusal slots values room lists).number ≡ 0
    → P (buffer_of slots room) (rows (arrivals slots values) lists) (audit_call slots values room lists)

-- the audit answers 0 if and only if the record obeys the rules
abbrev pub AuditPasses : Type 0
AuditPasses = OfEachAudit λ B rows reply. (reply.number ≡ 0) ↔ Obeys B rows

-- where it doesn't answer 0 it names the first fault
abbrev pub AuditNames : Type 0
AuditNames = OfEachAudit λ B rows reply. (reply.number ≡ 0 → ⊥) → Names B rows reply
