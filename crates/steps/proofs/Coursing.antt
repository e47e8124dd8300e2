-- The loop over the packets, under any policy: what is left of the course, done on the lists as they are now, gives what the whole course gives on the lists
-- as they were; and likewise for the greatest length of the queue.
use Prim.Native.Nat.{ℕ, max, ◌+◌, ◌≤◌, ◌<◌}
use mathlib.Core.Path.{◌≡◌, refl, sym, ap, ap₂, ◌∙◌}
use mathlib.Core.List.{List, [], ◌∷◌}
use native.Mathlib.Omega.{arith}
use lib.ListN.{length, get_or, drop, drop_of_length-le}
use Rattle.model.specs.declared.Slot.{Slot}
use Rattle.model.specs.Limits.{record_limits}
use Rattle.model.specs.Packets.{Arrival, arrivals}
use Rattle.model.specs.Record.{Entry, Lists, entered}
use Rattle.model.specs.Course.{Policy, slot_ends, course, first}
use Rattle.laws.specs.MostQueue.{turn, most_queue}
use Rattle.laws.proofs.Standing.{course_turn}
use Rattle.laws.proofs.Lists.{arrivals_length}
use Rattle.steps.specs.Run.{Runnable, Ran}
use Rattle.steps.specs.Places.{packet_at}
use Rattle.steps.proofs.Places.{arrivals_at}
use Rattle.steps.proofs.Turning.{entered_both}

abbrev pub at : ℕ → Slot
at slot = record { 0 = slot }

module _ {S : Type 0} (P : Policy S) (s₀ : S) (slots values : List ℕ) (before : Lists) where
  abbrev trace : List Arrival
  trace = arrivals slots values

  -- the run stands at place i in the state s, which holds n packets
  pub record Coursing (s : S) (n last most i : ℕ) (now : Lists) : Type 0 where
    pub held : length (P.held s) ≡ n
    pub short : n ≤ most
    pub inside : i ≤ length slots
    pub last_fits : last ≤ record_limits.slot
    pub written : entered (course P (at last) s (drop i trace)) now ≡ entered (course P first s₀ trace) before
    pub longest : max most (most_queue P (at last) s (drop i trace)) ≡ most_queue P first s₀ trace

  pub coursing_all : length (P.held s₀) ≡ 0 → Coursing s₀ 0 1 0 0 before
  coursing_all empty =
      record { held = empty; short = omega arith; inside = omega arith; last_fits = omega arith; written = refl; longest = omega arith }

  module _ (R : Runnable P s₀ slots values) (s : S) (n last most i : ℕ) (now : Lists) (C : Coursing s n last most i now) where
    -- no queue is longer than the longest
    pub coursing_short : n ≤ most_queue P first s₀ trace
    coursing_short = omega (arith, C.short, C.longest)

    abbrev step : S × List Entry
    step = ((turn P (at last) s (packet_at slots values i)).next, (turn P (at last) s (packet_at slots values i)).entries)

    pub coursing_turn : i < length slots
        → (s' : S) (n' : ℕ) (after : Lists) (most' : ℕ)
        → length (P.held s') ≡ n' → s' ≡ step.0 → after ≡ entered step.1 now → most' ≡ max most n'
        → Coursing s' n' (get_or slots i 0) most' (i + 1) after
    unfolding most_queue
    coursing_turn some s' n' after most' h e a m =
        let here = packet_at slots values i in
        let cons : drop i trace ≡ here ∷ drop (i + 1) trace = arrivals_at slots values i R.same some in
        let rest = course P here.slot step.0 (drop (i + 1) trace) in
        let l : length (P.held step.0) ≡ n' = sym (ap (λ (t : S). length (P.held t)) e) ∙ h in
        let longest : max most (most_queue P (at last) s (here ∷ drop (i + 1) trace)) ≡ most_queue P first s₀ trace =
        ap (λ (t : List Arrival). max most (most_queue P (at last) s t)) (sym cons) ∙ C.longest in
        record {
          held = h;
          short = omega arith;
          inside = omega arith;
          last_fits = R.slots_fit i some;
          written =
              ap₂ (λ (t : S) (ls : Lists). entered (course P here.slot t (drop (i + 1) trace)) ls) e a
              ∙ sym (entered_both step.1 rest now)
              ∙ ap (λ (es : List Entry). entered es now) (sym (course_turn P (at last) s here (drop (i + 1) trace)))
              ∙ ap (λ (t : List Arrival). entered (course P (at last) s t) now) (sym cons)
              ∙ C.written;
          longest = ap (λ (t : S). max most' (most_queue P here.slot t (drop (i + 1) trace))) e ∙ omega arith;
        }

    pub coursing_end : length slots ≤ i → (after : Lists) → after ≡ entered (slot_ends P n (at last) s).entries now
        → Ran P s₀ slots values before after most
    unfolding most_queue course
    coursing_end done after a =
        let past : length trace ≤ i = omega (arith, arrivals_length 1 slots values R.same) in
        let none : drop i trace ≡ [] = drop_of_length-le trace past in
        let zero_left : most_queue P (at last) s (drop i trace) ≡ 0 = ap (most_queue P (at last) s) none in
        record {
          written =
              a
              ∙ ap (λ (k : ℕ). entered (slot_ends P k (at last) s).entries now) (sym C.held)
              ∙ ap (λ (t : List Arrival). entered (course P (at last) s t) now) (sym none)
              ∙ C.written;
          longest = omega (arith, C.longest);
        }
