-- What the sweep keeps in place of the rows it has passed, and that one turn keeps it so. Of the packets passed, those that leave at place i or later are
-- held before the arrival at i; the ones that leave right there are no longer held after it; and the arrival itself is held if it leaves later.
use Prim.Native.Nat.{ℕ, zero, suc, ◌+◌, ◌-◌, ◌≤◌, ◌<◌, max, zero-le}
use native.Mathlib.Nat.{le_refl}
use native.Mathlib.Omega.{arith}
use native.Mathlib.Numerals.{add-one}
use mathlib.Core.Path.{◌≡◌, refl, sym, ap, ◌∙◌}
use mathlib.Core.Bool.{Bool, true, false, cond}
use mathlib.Core.List.{List, [], ◌∷◌}
use lib.ListN.{length, get_or, set, drop, length-set, drop_of_length-le, replicate, get_or-replicate, length-replicate}
use lib.Seq.{drop-cons, get_or-set_same, get_or-set_other}
use lib.Dec.{ltb, eqb}
use borrow.Author.Tests.{eqb-true, eqb-false, lt-leb, lt-ltb, le-ltb}
use Rattle.model.specs.declared.Fate.{Fate}
use Rattle.model.specs.declared.Slot.{Slot}
use Rattle.model.specs.declared.Fault.{Fault}
use Rattle.model.specs.declared.Fault.TheVariants as faults
use Rattle.model.specs.Answers.{fault_number}
use Rattle.model.specs.Limits.{record_limits}
use Rattle.model.specs.Packets.{arrivals_from}
use Rattle.model.specs.Record.{Row, Lists, rows_of, fate_number}
use Rattle.model.specs.Rules.{Verdict, clear, count_of, is_held_at, held_after, not_after_last, by_wrong, over_room, or_else, verdict_if, fault_at, fate_outside, first_fault_from, buffer_of}
use Rattle.model.specs.Totals.{most_held_from}
use Rattle.model.specs.Refusals.{value_ok}
use Rattle.laws.specs.Accepted.{Accepted}
use Rattle.audit.specs.Rows.{row_at}
use Rattle.audit.specs.Sweep.{leave_of}
use Rattle.audit_faults.specs.Faults.{last_of, row_fault}
use Rattle.audit.proofs.Counts.{leaves_from, leaves_at, count_le, split}
use Rattle.audit.proofs.Held.{held_until, leave_le}
use Rattle.audit.proofs.Faults.{LastSent, last_more, inside, first_clear, fault_here, fault_outside}

-- the rows before place i, the newest first
unfoldable pub older : List ℕ → List ℕ → Lists → ℕ → List Row
older slots values lists zero = []
older slots values lists (suc i) = row_at slots values lists i ∷ older slots values lists i

-- the rows from place i on
abbrev pub rest : List ℕ → List ℕ → Lists → ℕ → List Row
rest slots values lists i =
    rows_of (arrivals_from (suc i) (drop i slots) (drop i values)) (drop i lists.fates) (drop i lists.whens) (drop i lists.bys)

older_length : (slots values : List ℕ) (lists : Lists) (i : ℕ) → length (older slots values lists i) ≡ i
unfolding older
older_length slots values lists zero = refl
older_length slots values lists (suc i) = ap suc (older_length slots values lists i)

-- the row at place i comes first
pub rest_cons : (slots values : List ℕ) (room : ℕ) (lists : Lists) → Accepted value_ok slots values room lists → (i : ℕ) → i < length slots
    → rest slots values lists i ≡ row_at slots values lists i ∷ rest slots values lists (suc i)
unfolding arrivals_from rows_of
rest_cons slots values room lists t i h =
    let v : i < length values = omega (arith, t.lengths) in
    let f : i < length lists.fates = omega (arith, t.sized.fates) in
    let w : i < length lists.whens = omega (arith, t.sized.whens) in
    let b : i < length lists.bys = omega (arith, t.sized.bys) in
    rw
    (drop-cons slots i 0, drop-cons values i 0, drop-cons lists.fates i 0, drop-cons lists.whens i 0, drop-cons lists.bys i 0)

pub rest_none : (slots values : List ℕ) (lists : Lists) (i : ℕ) → length slots ≤ i → rest slots values lists i ≡ []
unfolding arrivals_from rows_of
rest_none slots values lists i h = rw (drop_of_length-le slots)

-- what is kept where the packets before place i are passed
pub record Kept (slots values : List ℕ) (room : ℕ) (lists : Lists) (i held most last : ℕ) (leaving : List ℕ) : Type 0 where
  pub so_far : i ≤ length slots
  pub held_now : held ≡ count_of (leaves_from slots i) (older slots values lists i)
  pub places : length leaving ≡ suc record_limits.packets
  pub leaving_at : (k : ℕ) → i ≤ k → k ≤ length slots → get_or leaving k 0 ≡ count_of (leaves_at slots k) (older slots values lists i)
  pub small : (k : ℕ) → get_or leaving k 0 ≤ i
  pub held_at : (k : ℕ) → i ≤ k → k < length slots
      → count_of (is_held_at (row_at slots values lists k)) (older slots values lists i) ≡ count_of (leaves_from slots (suc k)) (older slots values lists i)
  pub last_sent : LastSent last (older slots values lists i)
  pub most_held : max most (most_held_from (older slots values lists i) (rest slots values lists i)) ≡ most_held_from [] (rest slots values lists 0)
  pub faults : first_fault_from (buffer_of slots room) (older slots values lists i) (rest slots values lists i)
      ≡ first_fault_from (buffer_of slots room) [] (rest slots values lists 0)

-- at the start no packet has left
all_zero : (n k : ℕ) → get_or (replicate n 0) k 0 ≤ 0
all_zero zero k = zero-le
all_zero (suc n) zero = zero-le
all_zero (suc n) (suc k) = all_zero n k

pub kept_start : (slots values : List ℕ) (room : ℕ) (lists : Lists) (leaving : List ℕ) → leaving ≡ replicate (suc record_limits.packets) 0
    → length slots ≤ record_limits.packets → Kept slots values room lists 0 0 0 0 leaving
unfolding older count_of not_after_last
kept_start slots values room lists leaving e few =
    record {
      so_far = zero-le;
      held_now = refl;
      places = ap length e ∙ length-replicate {A = ℕ} (suc record_limits.packets) 0;
      leaving_at = λ k h l. ap (λ (x : List ℕ). get_or x k 0) e ∙ get_or-replicate (suc record_limits.packets) k 0 0 (omega arith);
      small = λ k. rw e (all_zero (suc record_limits.packets) k);
      held_at = λ k h l. refl;
      last_sent = λ w h. sym (lt-leb w 0 h);
      most_held = omega arith;
      faults = refl;
    }

-- the first fault from this packet on
whole_is : (slots values : List ℕ) (room : ℕ) (lists : Lists) (i held most last : ℕ) (leaving : List ℕ) → Accepted value_ok slots values room lists
    → Kept slots values room lists i held most last leaving → i < length slots
    → or_else (fault_at (buffer_of slots room) (older slots values lists i) (row_at slots values lists i))
    (first_fault_from (buffer_of slots room) (older slots values lists (suc i)) (rest slots values lists (suc i)))
    ≡ first_fault_from (buffer_of slots room) [] (rest slots values lists 0)
unfolding first_fault_from older
whole_is slots values room lists i held most last leaving t kept h =
    ap (λ (x : List Row). first_fault_from (buffer_of slots room) (older slots values lists i) x) (sym (rest_cons slots values room lists t i h))
    ∙ kept.faults

-- a fault shuts out what follows
stops : (f : Fault) (place : ℕ) (w : Verdict)
    → or_else (record { number = fault_number f; place = place }) w ≡ record { number = fault_number f; place = place }
unfolding or_else
stops faults.FateOutside place w = refl
stops faults.ByWrong place w = refl
stops faults.WhenWrong place w = refl
stops faults.NotLater place w = refl
stops faults.OverRoom place w = refl

-- 11 ends the sweep
pub turn_outside : (slots values : List ℕ) (room : ℕ) (lists : Lists) (i held most last : ℕ) (leaving : List ℕ) → Accepted value_ok slots values room lists
    → Kept slots values room lists i held most last leaving → i < length slots → fate_outside (row_at slots values lists i) ≡ true
    → first_fault_from (buffer_of slots room) [] (rest slots values lists 0) ≡ record { number = 11; place = i + 1 }
turn_outside slots values room lists i held most last leaving t kept h e =
    sym (whole_is slots values room lists i held most last leaving t kept h)
    ∙ rw (fault_outside (buffer_of slots room) (older slots values lists i) (row_at slots values lists i) e, add-one)
    (stops faults.FateOutside (suc i) _)

-- one turn, at the packet at place i, whose fate is f
module _ (slots values : List ℕ) (room : ℕ) (lists : Lists) (i held most : ℕ) (last : Slot) (leaving : List ℕ)
    (t : Accepted value_ok slots values room lists) (kept : Kept slots values room lists i held most last.0 leaving) (h : i < length slots) (f : Fate)
    (fate : (row_at slots values lists i).fate ≡ fate_number f) where
  abbrev this : Row
  this = row_at slots values lists i

  abbrev passed : List Row
  passed = older slots values lists i

  -- held after this arrival
  abbrev pub held_then : ℕ
  held_then = held - get_or leaving i 0 + cond (ltb i (leave_of slots this)) 1 0

  abbrev pub leaving_then : List ℕ
  leaving_then = set leaving (leave_of slots this) (get_or leaving (leave_of slots this) 0 + cond (ltb i (leave_of slots this)) 1 0)

  later_held : count_of (leaves_from slots i) passed ≡ count_of (leaves_at slots i) passed + count_of (leaves_from slots (suc i)) passed
  later_held = split slots i passed

  pub leaving_le : get_or leaving i 0 ≤ held
  leaving_le = omega (arith, later_held, kept.held_now, kept.leaving_at i (le_refl i) (omega arith))

  pub held_le : held ≤ i
  held_le = omega (arith, kept.held_now, count_le (leaves_from slots i) passed, older_length slots values lists i)

  held_then_lem : held_then ≡ count_of (leaves_from slots (suc i)) (this ∷ passed)
  unfolding count_of
  held_then_lem = omega (arith, later_held, kept.held_now, kept.leaving_at i (le_refl i) (omega arith))

  pub held_after_lem : held_after passed this ≡ held_then
  unfolding count_of
  held_after_lem =
      rw (held_until f slots this this i fate t.packets.never_down h refl refl, kept.held_at i (le_refl i) h)
      (omega (arith, later_held, kept.held_now, kept.leaving_at i (le_refl i) (omega arith)))

  abbrev whole : Verdict
  whole = first_fault_from (buffer_of slots room) [] (rest slots values lists 0)

  whole_here : or_else (or_else (row_fault slots last.0 this) (verdict_if (over_room room passed this) 15 (suc i)))
      (first_fault_from (buffer_of slots room) (older slots values lists (suc i)) (rest slots values lists (suc i)))
      ≡ whole
  whole_here =
      rw
      (← fault_here (buffer_of slots room) last.0 passed this (inside f this fate) (t.packets.slot_from i h) kept.last_sent)
      (whole_is slots values room lists i held most last.0 leaving t kept h)

  -- 12, 13 or 14 ends the sweep
  pub turn_fault : (g : Fault) → row_fault slots last.0 this ≡ record { number = fault_number g; place = i + 1 }
      → whole ≡ record { number = fault_number g; place = i + 1 }
  turn_fault g e = sym whole_here ∙ rw (e, stops g (i + 1) _, stops g (i + 1) _)

  over : over_room room passed this ≡ ltb room held_then
  unfolding over_room
  over = rw held_after_lem

  -- 15 ends the sweep
  pub turn_over : row_fault slots last.0 this ≡ clear → room < held_then → whole ≡ record { number = 15; place = i + 1 }
  unfolding or_else
  turn_over e l = sym whole_here ∙ rw (e, over, lt-ltb room held_then l, add-one)

  -- else the sweep goes on
  module _ (clear-here : row_fault slots last.0 this ≡ clear) (fits : held_then ≤ room) where
    by_right : by_wrong (length slots) this ≡ false
    by_right = first_clear (by_wrong (length slots) this) 11 (suc i) _ clear-here

    leave_in : leave_of slots this < length leaving
    leave_in = omega (arith, leave_le f slots this fate by_right, kept.places, t.few)

    leaving_then_lem : (k : ℕ) → suc i ≤ k → k ≤ length slots → get_or leaving_then k 0 ≡ count_of (leaves_at slots k) (this ∷ passed)
    unfolding count_of
    leaving_then_lem k l l' = go (eqb k (leave_of slots this)) refl
      where
        go : (b : Bool) → eqb k (leave_of slots this) ≡ b → get_or leaving_then k 0 ≡ cond b 1 0 + count_of (leaves_at slots k) passed
        go true e =
            let q : k ≡ leave_of slots this = eqb-true k (leave_of slots this) e in
            ap (λ (x : ℕ). get_or leaving_then x 0) q
            ∙ get_or-set_same leaving (leave_of slots this) _ 0 leave_in
            ∙ rw (← q, lt-ltb i k l) (omega (arith, kept.leaving_at k (omega arith) l'))
        go false e =
            get_or-set_other leaving (leave_of slots this) k _ 0 (eqb-false k (leave_of slots this) e)
            ∙ omega (arith, kept.leaving_at k (omega arith) l')

    small_then : (k : ℕ) → get_or leaving_then k 0 ≤ suc i
    small_then k = go (eqb k (leave_of slots this)) refl (ltb i (leave_of slots this)) refl
      where
        go : (b : Bool) → eqb k (leave_of slots this) ≡ b → (s : Bool) → ltb i (leave_of slots this) ≡ s → get_or leaving_then k 0 ≤ suc i
        go true e true d =
            rw (
              eqb-true k (leave_of slots this) e,
              d,
              get_or-set_same leaving (leave_of slots this) (get_or leaving (leave_of slots this) 0 + 1) 0 leave_in,
            )
            (omega (arith, kept.small (leave_of slots this)))
        go true e false d =
            rw (
              eqb-true k (leave_of slots this) e,
              d,
              get_or-set_same leaving (leave_of slots this) (get_or leaving (leave_of slots this) 0 + 0) 0 leave_in,
            )
            (omega (arith, kept.small (leave_of slots this)))
        go false e s d =
            rw (get_or-set_other leaving (leave_of slots this) k _ 0 (eqb-false k (leave_of slots this) e)) (omega (arith, kept.small k))

    held_at_then : (k : ℕ) → suc i ≤ k → k < length slots
        → count_of (is_held_at (row_at slots values lists k)) (this ∷ passed) ≡ count_of (leaves_from slots (suc k)) (this ∷ passed)
    unfolding count_of
    held_at_then k l l' =
        rw (held_until f slots (row_at slots values lists k) this k fate t.packets.never_down l' refl refl, kept.held_at k (omega arith) l')

    most_then : max (max most held_then) (most_held_from (this ∷ passed) (rest slots values lists (suc i))) ≡ most_held_from [] (rest slots values lists 0)
    unfolding most_held_from
    most_then =
        omega (
          arith,
          held_after_lem,
          kept.most_held,
          ap (λ (x : List Row). most_held_from passed x) (rest_cons slots values room lists t i h),
        )

    faults_then : first_fault_from (buffer_of slots room) (this ∷ passed) (rest slots values lists (suc i)) ≡ whole
    unfolding older or_else
    faults_then = rw (clear-here, over, le-ltb room held_then fits) at whole_here

    pub turn_on : Kept slots values room lists (i + 1) held_then (max most held_then) (last_of last this).0 leaving_then
    unfolding older
    turn_on =
        rw add-one
        (record {
          so_far = h;
          held_now = held_then_lem;
          places = length-set leaving _ _ ∙ kept.places;
          leaving_at = leaving_then_lem;
          small = small_then;
          held_at = held_at_then;
          last_sent = last_more last passed this kept.last_sent;
          most_held = most_then;
          faults = faults_then;
        })

-- after the last packet
pub kept_end : (slots values : List ℕ) (room : ℕ) (lists : Lists) (i held most last : ℕ) (leaving : List ℕ)
    → Kept slots values room lists i held most last leaving → length slots ≤ i
    → (first_fault_from (buffer_of slots room) [] (rest slots values lists 0) ≡ clear) × (most_held_from [] (rest slots values lists 0) ≡ most)
unfolding first_fault_from most_held_from
kept_end slots values room lists i held most last leaving kept h =
    let none = rest_none slots values lists i h in (
      sym kept.faults ∙ ap (λ (x : List Row). first_fault_from (buffer_of slots room) (older slots values lists i) x) none,
      omega (arith, kept.most_held, ap (λ (x : List Row). most_held_from (older slots values lists i) x) none),
    )
