-- No policy holds more than room just after an arrival. Plain greedy takes a packet in only where there is room or another is lost, PG and MF likewise, and
-- the plan keeps a packet only if all that it has kept fits.
use Prim.Native.Nat.{ℕ, ◌+◌, ◌-◌, ◌≤◌}
use native.Mathlib.Omega.{arith}
use mathlib.Core.Path.{◌≡◌, refl}
use mathlib.Core.Bool.{cond, true, and-eq-true_iff}
use mathlib.Core.List.{List, [], ◌∷◌}
use lib.ListN.{length, replicate, length-append}
use lib.Dec.{leb}
use borrow.Author.Tests.{leb-true, le-leb}
use Rattle.model.specs.declared.Beta.{Beta}
use Rattle.model.specs.declared.Packet.{Packet}
use Rattle.model.specs.declared.Slot.{Slot}
use Rattle.model.specs.Packets.{Arrival, slots_until, place_of}
use Rattle.model.specs.Course.{Policy, by_rule, slot_ends, first}
use Rattle.model.specs.Policies.Greedy.{greedy_rule}
use Rattle.model.specs.Policies.PG.{pg_rule}
use Rattle.model.specs.declared.Marking.{Marking}
use Rattle.model.specs.Policies.MF.{mf_policy}
use Rattle.model.specs.Policies.Plan.{kept_of, keep, fits_from, fits, keep_in_turn, by_falling_value, plan_kept, kept_rule}
use Rattle.laws.specs.MostQueue.{turn, most_queue}
use Rattle.laws.specs.AtOnce.{pg_at_once}
use Rattle.laws.proofs.Roomy.{greedy_roomy}
use Rattle.laws.proofs.PG.{pg_at_once_lem, at_once_roomy}
use Rattle.laws.proofs.Conserving.{Conserving, slot_ends_shorter, conserving_kept}
use Rattle.laws.proofs.Cases.{eqb_cases, cond_cases}
use Rattle.laws.proofs.Lists.{zeros}

-- an arrival leaves no more than room held
abbrev pub Roomy : {S : Type 0} → ℕ → Policy S → Type 0
Roomy {S} room P = (a : Arrival) (s : S) → length (P.held s) ≤ room → length (P.held (P.arrive a s).next) ≤ room

pub most_queue_roomy : {S : Type 0} {P : Policy S} → Conserving P → (room : ℕ) → Roomy room P → (now : Slot) (s : S) (trace : List Arrival) →
    length (P.held s) ≤ room → most_queue P now s trace ≤ room
unfolding most_queue
most_queue_roomy C room R now s [] h = omega arith
most_queue_roomy {P} C room R now s (a ∷ trace) h =
    let before = slot_ends P (slots_until now a.slot) now s in
    let here = R a before.next (omega (arith, slot_ends_shorter C (slots_until now a.slot) now s)) in
    omega (arith, most_queue_roomy C room R a.slot (turn P now s a).next trace here)

pub roomy_greedy : (room : ℕ) → Roomy room (by_rule (greedy_rule room))
roomy_greedy room a queue h = greedy_roomy room queue a.packet h

pub roomy_at_once : (room : ℕ) (beta : Beta) → Roomy room (by_rule (pg_at_once room beta))
roomy_at_once room beta a queue h = at_once_roomy room beta queue a.packet h

pub roomy_pg : (room : ℕ) (beta : Beta) → Roomy room (by_rule (pg_rule room beta))
roomy_pg room beta a queue h = rw (pg_at_once_lem room beta queue a.packet h) (at_once_roomy room beta queue a.packet h)

pub roomy_mf : (room : ℕ) (M : Marking) (slots : List ℕ) → Roomy room (mf_policy room M slots)
roomy_mf room M slots a s h = greedy_roomy room s.queue a.packet h

kept_adds : (kept : List ℕ) (queue : List Packet) (p : Packet) → length (kept_rule kept queue p).queue ≤ length queue + kept_of kept p.number
unfolding kept_rule
kept_adds kept queue p =
    eqb_cases (kept_of kept p.number) 1 _ (λ t q. rw t (omega (arith, length-append queue (p ∷ []), q))) λ t q. rw t (omega arith)

-- what the plan counts when it tests whether its packets fit is no less than what its queue holds
kept_room : (room : ℕ) (kept : List ℕ) (now : Slot) (queue : List Packet) (counted : ℕ) (trace : List Arrival) → length queue ≤ counted →
    fits_from room kept now counted trace ≡ true → most_queue (by_rule (kept_rule kept)) now queue trace ≤ room
unfolding most_queue fits_from
kept_room room kept now queue counted [] h fit = omega arith
kept_room room kept now queue counted (a ∷ trace) h fit =
    let P = by_rule (kept_rule kept) in
    let k = slots_until now a.slot in
    let before = (slot_ends P k now queue).next in
    let after = (counted - k) + kept_of kept a.packet.number in
    let both = (and-eq-true_iff (leb after room) (fits_from room kept a.slot after trace)).0 fit in
    let here : length (turn P now queue a).next ≤ after =
    omega (arith, slot_ends_shorter (conserving_kept kept) k now queue, kept_adds kept before a.packet)
    in
    omega (arith, leb-true after room both.0, kept_room room kept a.slot (turn P now queue a).next after trace here both.1)

none_fits : (room n : ℕ) (now : Slot) (before : ℕ) (trace : List Arrival) → before ≡ 0 → fits_from room (replicate n 0) now before trace ≡ true
unfolding fits_from
none_fits room n now before [] h = refl
none_fits room n now before (a ∷ trace) h =
    let after = (before - slots_until now a.slot) + kept_of (replicate n 0) a.packet.number in
    let none : after ≡ 0 = omega (arith, zeros n (place_of a.packet.number)) in
    (and-eq-true_iff (leb after room) (fits_from room (replicate n 0) a.slot after trace)).1
    (le-leb after room (omega arith), none_fits room n a.slot after trace none)

keep_in_turn_fits : (room : ℕ) (trace : List Arrival) (kept : List ℕ) (turn : List Arrival) → fits room trace kept ≡ true →
    fits room trace (keep_in_turn room trace kept turn) ≡ true
unfolding keep_in_turn
keep_in_turn_fits room trace kept [] h = h
keep_in_turn_fits room trace kept (a ∷ turn) h =
    let more = keep a.packet.number kept in
    keep_in_turn_fits room trace (cond (fits room trace more) more kept) turn
    (cond_cases (λ kept. fits room trace kept ≡ true) (fits room trace more) more kept (λ e. e) (λ e. h))

pub plan_kept_fits : (room : ℕ) (trace : List Arrival) → fits room trace (plan_kept room trace) ≡ true
plan_kept_fits room trace = keep_in_turn_fits room trace (replicate (length trace) 0) (by_falling_value trace) (none_fits room (length trace) first 0 trace refl)

pub most_queue_plan : (room : ℕ) (trace : List Arrival) → most_queue (by_rule (kept_rule (plan_kept room trace))) first [] trace ≤ room
most_queue_plan room trace = kept_room room (plan_kept room trace) first [] 0 trace (omega arith) (plan_kept_fits room trace)
