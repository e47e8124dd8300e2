-- The plan counts what is held before an arrival, less the slots passed, and one more if the arrival is kept: that is the length of the run's queue just after
-- it, since one packet leaves at each slot's end while any is held. And what fault 15 counts after an arrival is what the queue then holds.
use Prim.Native.Nat.{ℕ, ◌+◌, ◌-◌, ◌≤◌, max}
use native.Mathlib.Omega.{arith}
use mathlib.Core.Path.{◌≡◌, refl, sym, ap, ◌∙◌}
use mathlib.Core.Logic.{◌↔◌}
use mathlib.Core.Bool.{true, and-eq-true_iff}
use mathlib.Core.List.{List, [], ◌∷◌}
use lib.ListN.{length, length-append, length-drop}
use lib.Dec.{leb}
use borrow.Author.Tests.{leb-true, le-leb}
use Rattle.model.specs.declared.Packet.{Packet}
use Rattle.model.specs.declared.Slot.{Slot}
use Rattle.model.specs.Packets.{Arrival, arrivals, place_of, slots_until}
use Rattle.model.specs.Record.{Lists}
use Rattle.model.specs.Refusals.{plain_refusal}
use Rattle.model.specs.Course.{Policy, by_rule, slot_ends, run_by, first}
use Rattle.model.specs.Policies.Plan.{kept_of, fits_from, kept_rule}
use Rattle.model.specs.Totals.{most_held_from}
use Rattle.laws.specs.Recorded.{recorded}
use Rattle.laws.specs.MostQueue.{turn, most_queue}
use Rattle.laws.proofs.Cases.{eqb_cases}
use Rattle.laws.proofs.Fifo.{fifo_kept}
use Rattle.laws.proofs.Conserving.{conserving_kept}
use Rattle.laws.proofs.Entered.{rows_by, rows_said}
use Rattle.laws.proofs.WellFormed.{course_once}
use Rattle.laws.proofs.Standing.{Marks, Stands}
use Rattle.laws.proofs.Held.{held_agrees, most_held_most_queue}
use Rattle.laws.proofs.Accepted.{plain_accepted}
use Rattle.theorems.specs.PlanFits.{most_after_arrivals, ZeroOrOne, FitsIsRun, FitsIsRecord}
use Rattle.theorems.proofs.SentBy.{ends_next}

module _ (room : ℕ) (kept : List ℕ) (small : ZeroOrOne kept) where
  abbrev P : Policy (List Packet)
  P = by_rule (kept_rule kept)

  -- a kept packet is one more in the queue
  kept_adds : (queue : List Packet) (p : Packet) → length (kept_rule kept queue p).queue ≡ length queue + kept_of kept p.number
  unfolding kept_rule
  kept_adds queue p =
      eqb_cases (kept_of kept p.number) 1 _ (λ t q. rw t (omega (arith, length-append queue (p ∷ []), q)))
      λ t q. rw t (omega (arith, small (place_of p.number), q))

  most_fits : (now : Slot) (queue : List Packet) (counted : ℕ) (trace : List Arrival) → length queue ≡ counted →
      (fits_from room kept now counted trace ≡ true) ↔ (most_after_arrivals P now queue trace ≤ room)
  unfolding most_after_arrivals fits_from
  most_fits now queue counted [] h = (λ fit. omega arith, λ most. refl)
  most_fits now queue counted (a ∷ trace) h =
      let k = slots_until now a.slot in
      let before = (slot_ends P k now queue).next in
      let after = (counted - k) + kept_of kept a.packet.number in
      let next = (kept_rule kept before a.packet).queue in
      let left : length before ≡ counted - k = ap length (ends_next (kept_rule kept) k now queue) ∙ rw length-drop (omega arith) in
      let here : length next ≡ after = omega (arith, kept_adds before a.packet) in
      let IH = most_fits a.slot next after trace here in
      let both = and-eq-true_iff (leb after room) (fits_from room kept a.slot after trace) in (
        λ fit. omega (arith, leb-true after room (both.0 fit).0, IH.0 (both.0 fit).1),
        λ most. both.1 (le-leb after room (omega arith), IH.1 (omega arith)),
      )

pub fits_is_run : FitsIsRun
fits_is_run room trace kept small = most_fits room kept small first [] 0 trace refl

most_same : {S : Type 0} (P : Policy S) (now : Slot) (s : S) (trace : List Arrival) → most_after_arrivals P now s trace ≡ most_queue P now s trace
unfolding most_after_arrivals most_queue
most_same P now s [] = refl
most_same P now s (a ∷ trace) =
    let after = (turn P now s a).next in
    ap (max (length (P.held after))) (most_same P a.slot after trace)

-- the most held of the record of the run that holds the kept packets
kept_most : (slots values : List ℕ) (room : ℕ) (lists : Lists) (kept : List ℕ) → (plain_refusal slots values room lists).number ≡ 0 →
    most_held_from [] (recorded slots values (run_by (kept_rule kept) (arrivals slots values))) ≡ most_queue (by_rule (kept_rule kept)) first [] (arrivals slots values)
kept_most slots values room lists kept z =
    let P = by_rule (kept_rule kept) in
    let trace = arrivals slots values in
    let entries = run_by (kept_rule kept) trace in
    let A = plain_accepted slots values room lists z in
    let once = course_once (conserving_kept kept) slots values A.lengths first [] refl in
    let unmarked : Marks (fifo_kept kept) (λ last queue. Unit {0}) =
    record { arrival = λ last a s h. tt; finish = λ last now s r h. tt; flush = λ last now s r h. tt }
    in
    let stands : Stands slots P (λ last queue. Unit {0}) 1 0 [] =
    record { arrived = record { by_now = λ k h. absurd (omega arith); counted = omega arith }; rising = omega arith; fit = tt }
    in
    let agrees = held_agrees unmarked slots entries once [] [] 0 first [] trace refl tt tt A.comes stands in
    rw (rows_said slots values entries A.lengths once) (most_held_most_queue P first [] [] (rows_by entries trace) trace agrees)

pub fits_is_record : FitsIsRecord
fits_is_record slots values room lists kept z small =
    let most = kept_most slots values room lists kept z ∙ sym (most_same (by_rule (kept_rule kept)) first [] (arrivals slots values)) in
    let run = fits_is_run room (arrivals slots values) kept small in
    (λ fit. omega (arith, most, run.0 fit), λ h. run.1 (omega (arith, most)))
