-- The code's tests lead to the choice that the definitions make; and the choice, applied to the queue, is the rule's decision.
use Prim.Native.Nat.{ℕ, suc, min, ◌+◌, ◌*◌, ◌≤◌, ◌<◌}
use mathlib.Core.Path.{◌≡◌, refl, sym, ap, ◌∙◌}
use mathlib.Core.Bool.{Bool, true, false, cond}
use mathlib.Core.List.{List, [], ◌∷◌, ◌++◌}
use native.Mathlib.Omega.{arith}
use native.Mathlib.Nat.{mul-le-mul_right, min-le_left, min-le_right}
use lib.ListN.{length, length-map}
use lib.Dec.{leb, ltb}
use borrow.Author.Tests.{lt-ltb, le-ltb, lt-leb, leb-true, leb-false}
use Rattle.std.proofs.Common.{None, Some}
use Rattle.std.specs.List.{position, position_or_len}
use Rattle.std.proofs.lemmas.List.Recursion.{is_position_or_len}
use Rattle.model.specs.Policies.Greedy.{below_all, loser_at}
use Rattle.model.specs.declared.Packet.{Packet}
use Rattle.model.specs.declared.Beta.{Beta}
use Rattle.model.specs.declared.LossKind.TheVariants.{PushedOut, Preempted}
use Rattle.model.specs.Packets.{values_of}
use Rattle.model.specs.Policies.Greedy.{greedy_rule}
use Rattle.model.specs.Policies.PG.{preempted_at, pg_rule}
use Rattle.laws.specs.AtOnce.{pg_at_once}
use Rattle.laws.proofs.PG.{pg_at_once_lem}
use Rattle.model.specs.declared.Rule.{Rule}
use Rattle.model.specs.declared.Rule.TheVariants.{Greedy, PG}
use Rattle.queue.specs.declared.Choice.{Choice}
use Rattle.queue.specs.declared.Choice.TheVariants.{Hold, Reject, Lose}
use Rattle.queue.specs.Choose.{lowest_with, lowest_of, newest_of, preempts, overflow_choice, greedy_choice, choose, applied}
use Rattle.laws.specs.AtOnce.{at_once}
use Rattle.queue.proofs.Loser.{arrival_loses, held_lower, held_loses, lowest_at_most}

module _ (values : List ℕ) (arrival : ℕ) where
  pub overflow_empty : lowest_of values ≡ None → Reject ≡ overflow_choice values arrival
  unfolding lowest_of overflow_choice loser_at below_all
  overflow_empty e = go values e
    where
      go : (values : List ℕ) → lowest_of values ≡ None → Reject ≡ overflow_choice values arrival
      go [] e = refl
      go (v ∷ values) e = absurd (cc)

  module _ (low : ℕ) (is : lowest_of values ≡ Some low) where
    pub overflow_rejects : arrival ≤ low → Reject ≡ overflow_choice values arrival
    unfolding overflow_choice
    overflow_rejects h =
        rw (arrival_loses values arrival (held_lower values low is arrival h), le-ltb (length values) (length values) (omega arith)) refl

    pub overflow_pushes : (place : ℕ) → low < arrival → newest_of low values ≡ Some place → Lose place PushedOut ≡ overflow_choice values arrival
    unfolding overflow_choice
    overflow_pushes place h found =
        let lost = (held_loses values low is arrival h).1 place found in
        rw (lost.1, lt-ltb _ _ lost.0) refl

  module _ (room : ℕ) where
    pub greedy_holds : length values < room → Hold ≡ greedy_choice room values arrival
    unfolding greedy_choice
    greedy_holds h = rw (lt-ltb _ _ h) refl

    pub greedy_overflows : room ≤ length values → overflow_choice values arrival ≡ greedy_choice room values arrival
    unfolding greedy_choice
    greedy_overflows h = rw (le-ltb _ _ h) refl

    -- plain greedy has no beta step
    pub plain : choose room Greedy values arrival ≡ greedy_choice room values arrival
    unfolding choose
    plain = rw (le-ltb (length values) (length values) (omega arith)) refl

-- a place, or the length where there is none, read as a place if there is one
place_cases : (n most place : ℕ) (none : Choice) → cond (ltb n most) (Some n) None ≡ Some place → Lose place Preempted ≡ cond (ltb n most) (Lose n Preempted) none
place_cases n most place none e = go (ltb n most) e
  where
    go : (t : Bool) → cond t (Some n) None ≡ Some place → Lose place Preempted ≡ cond t (Lose n Preempted) none
    go true e = cc
    go false e = absurd (cc)

no_place : (n most : ℕ) (none : Choice) → cond (ltb n most) (Some n) None ≡ None → none ≡ cond (ltb n most) (Lose n Preempted) none
no_place n most none e = go (ltb n most) e
  where
    go : (t : Bool) → cond t (Some n) None ≡ None → none ≡ cond t (Lose n Preempted) none
    go true e = absurd (cc)
    go false e = refl

-- the least of two, times a number: it is one of the two products
min_cases : (G : Type 0) (a b n : ℕ) → (min a b * n ≡ a * n → G) → (min a b * n ≡ b * n → G) → G
min_cases G a b n left right = go (leb a b) refl
  where
    go : (t : Bool) → leb a b ≡ t → G
    go true e = let h : a ≤ b = leb-true _ _ e in left (ap (λ (m : ℕ). m * n) (omega arith))
    go false e = let h : b < a = leb-false _ _ e in right (ap (λ (m : ℕ). m * n) (omega arith))

module _ (beta : Beta) (arrival : ℕ) where
  -- the beta step finds the first value that an arrival preempts
  preempted_first : (values : List ℕ) → preempted_at beta arrival values ≡ position_or_len (preempts beta arrival) values
  unfolding preempted_at
  preempted_first values = is_position_or_len (preempted_at beta arrival) (preempts beta arrival) refl
      (λ v values.
      let more : suc (preempted_at beta arrival values) ≡ 1 + preempted_at beta arrival values = omega arith in
      ap (λ (n : ℕ). cond (preempts beta arrival v) 0 n) more)
      values

  module _ (values : List ℕ) (room : ℕ) where
    pub preempts_first : (place : ℕ) → position (preempts beta arrival) values ≡ Some place → Lose place Preempted ≡ choose room (PG beta) values arrival
    unfolding choose
    preempts_first place e = rw (preempted_first values) (place_cases _ _ place _ e)

    -- no held value is preempted: as plain greedy
    pub preempts_none : position (preempts beta arrival) values ≡ None → greedy_choice room values arrival ≡ choose room (PG beta) values arrival
    unfolding choose
    preempts_none e = rw (preempted_first values) (no_place _ _ _ e)

  none_first : (values : List ℕ) → length values ≤ preempted_at beta arrival values → None ≡ position (preempts beta arrival) values
  none_first values h = rw (← preempted_first values, le-ltb _ _ h) refl

  -- the lowest value is not preempted: none is
  stays_with : (low : ℕ) (values : List ℕ) → arrival * beta.den < lowest_with low values * beta.num → length values ≤ preempted_at beta arrival values
  unfolding lowest_with preempted_at
  stays_with low [] h = omega arith
  stays_with low (v ∷ values) h =
      let here : arrival * beta.den < v * beta.num = omega (arith, mul-le-mul_right beta.num (min-le_left v (lowest_with low values))) in
      let rest = stays_with low values (omega (arith, mul-le-mul_right beta.num (min-le_right v (lowest_with low values)))) in
      rw (lt-leb _ _ here) (omega arith)

  pub lowest_stays_at : (values : List ℕ) (low : ℕ) → lowest_of values ≡ Some low → arrival * beta.den < low * beta.num
      → length values ≤ preempted_at beta arrival values
  unfolding lowest_of preempted_at
  lowest_stays_at [] low is h = omega arith
  lowest_stays_at (v ∷ values) low is h =
      let same : lowest_with v values ≡ low = cc in
      let stays : arrival * beta.den < lowest_with v values * beta.num = rw same h in
      let here : arrival * beta.den < v * beta.num = omega (arith, mul-le-mul_right beta.num (lowest_at_most v values)) in
      let rest = stays_with v values stays in
      rw (lt-leb _ _ here) (omega arith)

  pub lowest_stays : (values : List ℕ) (low : ℕ) → lowest_of values ≡ Some low → preempts beta arrival low ≡ false → None ≡ position (preempts beta arrival) values
  lowest_stays values low is h = none_first values (lowest_stays_at values low is (leb-false _ _ h))

  -- the lowest value is preempted: some value is
  goes_with : (low : ℕ) (values : List ℕ) → arrival * beta.den < low * beta.num → lowest_with low values * beta.num ≤ arrival * beta.den
      → preempted_at beta arrival values < length values
  unfolding lowest_with preempted_at
  goes_with low [] above h = absurd (omega arith)
  goes_with low (v ∷ values) above h = go (goes_with low values above) (leb (v * beta.num) (arrival * beta.den)) refl
    where
      go : (lowest_with low values * beta.num ≤ arrival * beta.den → preempted_at beta arrival values < length values)
          → (t : Bool) → leb (v * beta.num) (arrival * beta.den) ≡ t → preempted_at beta arrival (v ∷ values) < suc (length values)
      go later true e = rw e (omega arith)
      go later false e =
          let here : arrival * beta.den < v * beta.num = leb-false _ _ e in
          let rest : lowest_with low values * beta.num ≤ arrival * beta.den =
          min_cases _ v (lowest_with low values) beta.num (λ m. absurd (omega arith)) (λ m. omega arith) in
          let less = later rest in
          rw e (omega arith)

  pub lowest_goes : (values : List ℕ) (low : ℕ) → lowest_of values ≡ Some low → low * beta.num ≤ arrival * beta.den
      → preempted_at beta arrival values < length values
  unfolding lowest_of preempted_at
  lowest_goes [] low is h = absurd (cc)
  lowest_goes (v ∷ values) low is h = go (leb (v * beta.num) (arrival * beta.den)) refl
    where
      go : (t : Bool) → leb (v * beta.num) (arrival * beta.den) ≡ t → preempted_at beta arrival (v ∷ values) < suc (length values)
      go true e = rw e (omega arith)
      go false e =
          let same : lowest_with v values ≡ low = cc in
          let goes : lowest_with v values * beta.num ≤ arrival * beta.den = rw same h in
          let later = goes_with v values (leb-false _ _ e) goes in
          rw e (omega arith)

  pub nothing_held : (values : List ℕ) → lowest_of values ≡ None → None ≡ position (preempts beta arrival) values
  unfolding lowest_of
  nothing_held [] is = refl
  nothing_held (v ∷ values) is = absurd (cc)

-- a queue has as many values as packets
values_length : (queue : List Packet) → length (values_of queue) ≡ length queue
values_length queue = length-map queue (λ (p : Packet). p.value)

values_append : (queue : List Packet) (p : Packet) → values_of (queue ++ p ∷ []) ≡ values_of queue ++ p.value ∷ []
values_append [] p = refl
values_append (q ∷ queue) p = ap (λ (vs : List ℕ). q.value ∷ vs) (values_append queue p)

-- a choice that goes by tests is applied as the tests go
applied_cond : (t : Bool) (a b : Choice) (queue : List Packet) (p : Packet)
    → applied (cond t a b) queue p ≡ cond t (applied a queue p) (applied b queue p)
applied_cond true a b queue p = refl
applied_cond false a b queue p = refl

greedy_applied : (room : ℕ) (queue : List Packet) (p : Packet)
    → greedy_rule room queue p ≡ applied (greedy_choice room (values_of queue) p.value) queue p
unfolding greedy_rule greedy_choice overflow_choice
greedy_applied room queue p = simp (values_append, applied_cond, values_length)

-- the rule's decision is the choice applied
pub decided : (room : ℕ) (rule : Rule) (queue : List Packet) (p : Packet)
    → at_once room rule queue p ≡ applied (choose room rule (values_of queue) p.value) queue p
unfolding pg_at_once choose
decided room Greedy queue p = greedy_applied room queue p ∙ ap (λ (k : Choice). applied k queue p) (sym (plain (values_of queue) p.value room))
decided room (PG beta) queue p = simp (applied_cond, values_length, greedy_applied)

-- and on a queue within the room that is PG's
pub decided_pg : (room : ℕ) (beta : Beta) (queue : List Packet) (p : Packet) → length queue ≤ room
    → pg_rule room beta queue p ≡ applied (choose room (PG beta) (values_of queue) p.value) queue p
decided_pg room beta queue p h = pg_at_once_lem room beta queue p h ∙ decided room (PG beta) queue p
