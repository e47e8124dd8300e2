-- 01, 'A sender that idles is within the rules': records with slots in which something is held and nothing is sent. Each row is an audit that passes, with
-- all its totals. One computed test over the table proves all rows.
use Rattle.std.specs.Prelude.{ℕ, refl, List, [], ◌∷◌}
use Rattle.model.specs.Limits.{within}
use Rattle.model.specs.Packets.{arrivals_from}
use Rattle.model.specs.Record.{rows_of}
use Rattle.model.specs.Rules.{has_fate, at_fate, count_of, fate_outside, by_wrong, when_wrong, not_after_last, not_later, is_held_at, over_room, or_else, fault_at, first_fault_from}
use Rattle.model.specs.Totals.{value_of, most_held_from, nothing}
use Rattle.model.specs.Refusals.{packet_refusal_from, plain_refusal}
use Rattle.model.specs.Calls.{audit_call}
use Rattle.model.specs.ByHand.{audit, Example, Said, ◌/◌/◌, said_lists, ◌#◌, answer, accepted, ◌gives◌, AllHold}

-- room 2: two packets in slot 1 and one in slot 4
slots : List ℕ
slots = 1 ∷ 1 ∷ 4 ∷ []

values : List ℕ
values = 3 ∷ 5 ∷ 9 ∷ []

-- the audit of a record passes: all three are sent
all_sent : List Said → Example
all_sent said =
    audit slots values 2 (said_lists said) gives accepted said (3 # 17) (3 # 17) nothing nothing nothing nothing 2

table : List Example
table =
    -- a gap before the first sending: nothing is sent in slot 1 and in slot 2
    all_sent (1 / 3 / 0 ∷ 1 / 4 / 0 ∷ 1 / 5 / 0 ∷ [])
    -- a gap between two sendings: nothing in slots 2 to 5
    ∷ all_sent (1 / 1 / 0 ∷ 1 / 6 / 0 ∷ 1 / 7 / 0 ∷ [])
    -- a gap before each of the three, the last as long as a slot's number can make it
    ∷ all_sent (1 / 2 / 0 ∷ 1 / 4 / 0 ∷ 1 / 4294967295 / 0 ∷ [])
    -- a gap after the last sending: packet 2 is still held in slots 5 to 8, in which nothing is sent, and flushed in slot 9
    ∷ (audit slots values 2 (said_lists (1 / 1 / 0 ∷ 5 / 9 / 3 ∷ 1 / 4 / 0 ∷ [])) gives
    accepted (1 / 1 / 0 ∷ 5 / 9 / 3 ∷ 1 / 4 / 0 ∷ []) (3 # 17) (2 # 12) nothing nothing nothing (1 # 5) 2)
    ∷ []

idle : AllHold table
unfolding table all_sent slots values answer ◌/◌/◌ said_lists ◌#◌ accepted ◌gives◌ within arrivals_from rows_of has_fate at_fate count_of fate_outside by_wrong when_wrong
    not_after_last not_later is_held_at over_room or_else fault_at first_fault_from value_of most_held_from packet_refusal_from plain_refusal audit_call
idle = refl
