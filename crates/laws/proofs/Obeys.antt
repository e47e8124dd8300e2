-- A record obeys the rules if its entries are right, its sendings are in order and the most held is within the room.
use Prim.Native.Nat.{ℕ, suc, ◌-◌, ◌≤◌}
use native.Mathlib.Omega.{arith}
use mathlib.Core.Path.{◌≡◌}
use mathlib.Core.Bool.{false}
use mathlib.Core.List.{List, [], ◌∷◌}
use lib.ListN.{length}
use borrow.Author.Tests.{le-ltb}
use Rattle.model.specs.Packets.{Arrival}
use Rattle.model.specs.Record.{fate_number, Entry, Row}
use Rattle.model.specs.Rules.{Faultless, ObeysFrom, has_fate, at_fate, fate_outside, by_wrong, when_wrong, not_later, over_room, held_after, buffer_of}
use Rattle.model.specs.Totals.{most_held_from}
use Rattle.laws.specs.Accepted.{Next, Comes}
use Rattle.laws.proofs.Cases.{eqb_cases}
use Rattle.laws.proofs.Entered.{entry_of, EnteredOnce, rows_by}
use Rattle.laws.proofs.WellFormed.{fate_number_within}
use Rattle.laws.proofs.All.{All, all_entry_of, entry_of_number}
use Rattle.laws.proofs.Moments.{Since}
use Rattle.laws.proofs.Held.{Older, next_row, next_tells}
use Rattle.laws.proofs.Sends.{SendsFrom, number_sent, sends_not_after_last}

module _ (slots : List ℕ) (room : ℕ) (entries : List Entry) (O : EnteredOnce (length slots) entries)
    (right : All (Since slots 0 0) entries) (in_order : SendsFrom 0 0 entries) where
  module _ (now last : ℕ) (a : Arrival) (N : Next slots now last a) where
    its_entry : Since slots 0 0 (entry_of (suc last) entries)
    its_entry = all_entry_of (Since slots 0 0) (suc last) entries (omega (arith, O.once last N.counted)) right

    its_number : (entry_of (suc last) entries).number.0 ≡ suc last
    its_number = entry_of_number (suc last) entries (omega (arith, O.once last N.counted))

    by_is_right : by_wrong (length slots) (next_row entries a) ≡ false
    unfolding by_wrong at_fate has_fate
    by_is_right = rw N.number (rw its_number at its_entry.by_right)

    when_is_right : when_wrong slots (next_row entries a) ≡ false
    unfolding when_wrong at_fate has_fate
    when_is_right =
        let place : suc last - 1 ≡ last = omega arith in
        rw (N.number, N.slot) (rw (its_number, place) at its_entry.when_right)

    faultless : (older : List Row) → Older entries last older → held_after older (next_row entries a) ≤ room →
        Faultless (buffer_of slots room) older (next_row entries a)
    unfolding fate_outside not_later over_room has_fate
    faultless older told fits =
        let e = entry_of a.packet.number.0 entries in
        let later : not_later older (next_row entries a) ≡ false =
        eqb_cases (fate_number e.fate) 1 _
        (λ t q. rw t
        (sends_not_after_last entries (length slots) O in_order last N.counted (rw N.number at (number_sent e.fate q)) last (omega arith) older told
        e.when (rw N.number)))
        λ t q. rw t
        in
        record {
          fate = rw (fate_number_within e.fate);
          by = by_is_right;
          when = when_is_right;
          later = later;
          within_room = le-ltb room (held_after older (next_row entries a)) fits;
        }

  pub obeys_from : (now last : ℕ) (trace : List Arrival) (older : List Row) → Comes slots now last trace → Older entries last older →
      most_held_from older (rows_by entries trace) ≤ room → ObeysFrom (buffer_of slots room) older (rows_by entries trace)
  unfolding most_held_from
  obeys_from now last [] older C told fits = tt
  obeys_from now last (a ∷ trace) older C told fits = (
    faultless now last a C.0 older told (omega arith),
    obeys_from a.slot.0 (suc last) trace (next_row entries a ∷ older) C.1 (next_tells entries last a C.0.number, told) (omega arith),
  )
