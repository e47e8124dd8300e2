-- The packets that the offline plan had kept when it had taken the last packet of value at least w: they fit, they block every other such packet, and
-- the plan sends them all.
use Prim.Native.Nat.{ℕ, suc, ◌+◌, ◌-◌, ◌≤◌, ◌<◌}
use mathlib.Core.Path.{◌≡◌, sym, ap, ◌∙◌}
use mathlib.Core.Bool.{Bool, true, false, cond}
use mathlib.Core.List.{List, [], ◌∷◌, ◌++◌}
use native.Mathlib.Omega.{arith}
use lib.ListN.{length, get_or, take, drop, replicate, length-replicate, take-append-drop}
use lib.Dec.{leb, eqb}
use borrow.Author.Tests.{le-leb}
use Rattle.model.specs.declared.Slot.{Slot}
use Rattle.model.specs.declared.Packet.{Packet}
use Rattle.model.specs.Packets.{Arrival, arrivals, arrivals_from, slots_until}
use Rattle.model.specs.Course.{Decided, held, rejected, first}
use Rattle.model.specs.Policies.Plan.{by_falling_value, keep_in_turn, plan_kept, kept_rule}
use Rattle.laws.proofs.Cases.{eqb_cases}
use Rattle.laws.proofs.Lists.{zeros, arrivals_length}
use Rattle.theorems.proofs.Each.{Each, each_map}
use Rattle.theorems.proofs.Queue.{hi, hi_in, hi_append}
use Rattle.theorems.proofs.SentBy.{sent_by}
use Rattle.theorems.proofs.Fits.{place_in, after, Fits, set_of}
use Rattle.theorems.proofs.Most.{set_in, Blocks}
use Rattle.theorems.proofs.FallingValue.{picked, at_least, below, each_falling, falling_each, each_picked, picked_each, order_split}
use Rattle.theorems.proofs.Kept.{Keeping, Settled, Ended, in_turn, in_turn_only, in_turn_append}

-- a packet stands at its number's place, and its value too
abbrev pub Placed : ℕ → List ℕ → Arrival → Type 0
Placed n all a = (place_in a < n) × (a.packet.value ≡ get_or all (place_in a) 0)

placed : (n k : ℕ) (all slots values : List ℕ) → ((i j : ℕ) → j ≡ k + i → get_or values i 0 ≡ get_or all j 0) → k + length slots ≤ n
    → Each (Placed n all) (arrivals_from (suc k) slots values)
unfolding arrivals_from
placed n k all [] values same h = tt
placed n k all (s ∷ slots) [] same h = tt
placed n k all (s ∷ slots) (v ∷ values) same h = (
  (omega arith, same 0 (suc k - 1) (omega arith)),
  placed n (suc k) all slots values (λ i j e. same (suc i) j (omega arith)) (omega arith),
)

pub all_placed : (slots values : List ℕ) → length values ≡ length slots
    → Each (Placed (length (arrivals slots values)) values) (arrivals slots values)
all_placed slots values l =
    placed (length (arrivals slots values)) 0 values slots values
    (λ i j e. ap (λ (n : ℕ). get_or values n 0) (omega arith))
    (omega (arith, arrivals_length 1 slots values l))

-- nothing fits
fits_none : (room : ℕ) (set : ℕ → ℕ) (now : Slot) (n : ℕ) (trace : List Arrival) → ((i : ℕ) → set i ≡ 0) → n ≤ room → Fits room set now n trace
fits_none room set now n [] z h = tt
fits_none room set now n (a ∷ trace) z h =
    let less : after set now n a ≤ room = omega (arith, z (place_in a)) in
    (less, fits_none room set a.slot (after set now n a) trace z less)

nothing_kept : (room : ℕ) (trace : List Arrival) → Keeping room trace (replicate (length trace) 0)
nothing_kept room trace =
    record {
      long = length-replicate (length trace) 0;
      flags = λ i. omega (arith, zeros (length trace) i);
      fitting = fits_none room (set_of (replicate (length trace) 0)) first 0 trace (zeros (length trace)) (omega arith);
    }

-- an arrival that is kept is held
kept_held : (w n m : ℕ) (kept : List ℕ) (queue : List Packet) (a : Arrival)
    → m ≤ cond (eqb (set_of kept (place_in a)) 1) (hi w a.packet) 0
    → hi_in w queue + m ≤ hi_in w (take n queue) + hi_in w (kept_rule kept (drop n queue) a.packet).queue
unfolding kept_rule hi_in
kept_held w n m kept queue a h =
    go (eqb (set_of kept (place_in a)) 1) h (sym (hi_append w (take n queue) (drop n queue)) ∙ ap (hi_in w) (take-append-drop n queue))
  where
    go : (t : Bool) → m ≤ cond t (hi w a.packet) 0 → hi_in w (take n queue) + hi_in w (drop n queue) ≡ hi_in w queue
        → hi_in w queue + m
        ≤ hi_in w (take n queue)
        + hi_in w (cond {A = Decided} t (record { decision = held; queue = drop n queue ++ a.packet ∷ [] })
        (record { decision = rejected; queue = drop n queue })).queue
    go true h e = omega (arith, hi_append w (drop n queue) (a.packet ∷ []))
    go false h e = omega arith

-- what is kept is sent
kept_sent : (w : ℕ) (kept : List ℕ) (set : ℕ → ℕ) (now : Slot) (queue : List Packet) (trace : List Arrival)
    → Each (λ a. set (place_in a) ≤ cond (eqb (set_of kept (place_in a)) 1) (hi w a.packet) 0) trace
    → hi_in w queue + set_in set trace ≤ hi_in w (sent_by (kept_rule kept) now queue trace)
unfolding sent_by set_in
kept_sent w kept set now queue [] e = omega arith
kept_sent w kept set now queue (a ∷ trace) e =
    let gap = slots_until now a.slot in
    let left = (kept_rule kept (drop gap queue) a.packet).queue in
    omega (
      arith,
      kept_sent w kept set a.slot left trace e.1,
      kept_held w gap (set (place_in a)) kept queue a e.0,
      hi_append w (take gap queue) (sent_by (kept_rule kept) a.slot left trace),
    )

-- 1 for a place whose value is at least w
abbrev hi_at : ℕ → List ℕ → ℕ → ℕ
hi_at w values i = cond (leb w (get_or values i 0)) 1 0

-- the packets of value at least w, in the plan's order, and the others
abbrev high : ℕ → List Arrival → List Arrival
high w trace = by_falling_value (picked (at_least w) trace)

abbrev low : ℕ → List Arrival → List Arrival
low w trace = by_falling_value (picked (below w) trace)

-- what is kept when all packets of value at least w are taken
unfoldable pub kept_high : ℕ → ℕ → List Arrival → List ℕ
kept_high w room trace = keep_in_turn room trace (replicate (length trace) 0) (high w trace)

module _ (w room : ℕ) (trace : List Arrival) (values : List ℕ) (places : Each (Placed (length trace) values) trace) where
  in_order : (test : ℕ → Bool) → Each (λ a. Placed (length trace) values a × (test a.packet.value ≡ true)) (by_falling_value (picked test trace))
  in_order test =
      each_falling (λ a. Placed (length trace) values a × (test a.packet.value ≡ true)) (picked test trace)
      (each_picked (Placed (length trace) values) test trace places)

  below_length : (test : ℕ → Bool) → Each (λ a. place_in a < length trace) (by_falling_value (picked test trace))
  below_length test =
      each_map (λ a. Placed (length trace) values a × (test a.packet.value ≡ true)) (λ a. place_in a < length trace) (λ a h. h.0.0)
      (by_falling_value (picked test trace)) (in_order test)

  ended_high : Ended room trace (replicate (length trace) 0) (high w trace) (kept_high w room trace)
  unfolding kept_high
  ended_high = in_turn room trace (replicate (length trace) 0) (high w trace) (nothing_kept room trace) (below_length (at_least w))

  ended_low : Ended room trace (kept_high w room trace) (low w trace) (plan_kept room trace)
  unfolding kept_high
  ended_low =
      rw (order_split w trace, in_turn_append room trace (replicate (length trace) 0) (high w trace) (low w trace))
      (in_turn room trace (kept_high w room trace) (low w trace) ended_high.keeping (below_length (below w)))

  kept_high_lem : (i : ℕ) → set_of (kept_high w room trace) i ≤ hi_at w values i
  unfolding kept_high
  kept_high_lem =
      in_turn_only room trace (hi_at w values) (replicate (length trace) 0) (high w trace) (λ i. omega (arith, zeros (length trace) i))
      (each_map (λ a. Placed (length trace) values a × (at_least w a.packet.value ≡ true)) (λ a. 1 ≤ hi_at w values (place_in a))
      (λ a h. rw (← h.0.1, h.1) (omega arith)) (high w trace) (in_order (at_least w)))

  pub high_fits : Fits room (set_of (kept_high w room trace)) first 0 trace
  high_fits = ended_high.keeping.fitting

  pub high_blocks : Each (Blocks w room (set_of (kept_high w room trace)) first 0 trace) trace
  high_blocks =
      let kept = kept_high w room trace in
      each_map (λ a. at_least w a.packet.value ≡ true → Settled room trace kept a) (Blocks w room (set_of kept) first 0 trace)
      (λ a h v. h (le-leb w a.packet.value v)) trace
      (picked_each (Settled room trace kept) (at_least w) trace
      (falling_each (Settled room trace kept) (picked (at_least w) trace) ended_high.settled))

  pub high_sent : set_in (set_of (kept_high w room trace)) trace ≤ hi_in w (sent_by (kept_rule (plan_kept room trace)) first [] trace)
  unfolding hi_in
  high_sent =
      omega (
        arith,
        kept_sent w (plan_kept room trace) (set_of (kept_high w room trace)) first [] trace
            (each_map (Placed (length trace) values)
            (λ a. set_of (kept_high w room trace) (place_in a) ≤ cond (eqb (set_of (plan_kept room trace) (place_in a)) 1) (hi w a.packet) 0)
            (λ a h. one_sent a (rw h.1 (kept_high_lem (place_in a)))) trace places),
      )
    where
      one_sent : (a : Arrival) → set_of (kept_high w room trace) (place_in a) ≤ hi w a.packet
          → set_of (kept_high w room trace) (place_in a) ≤ cond (eqb (set_of (plan_kept room trace) (place_in a)) 1) (hi w a.packet) 0
      one_sent a h =
          eqb_cases (set_of (plan_kept room trace) (place_in a)) 1 _
          (λ t q. rw t h)
          (λ t q. rw t (omega (arith, ended_low.grown (place_in a), ended_low.keeping.flags (place_in a))))
