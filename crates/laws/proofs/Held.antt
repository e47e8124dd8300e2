-- What fault 15 counts after an arrival is what the queue then holds: a packet that has arrived is counted exactly when its entry is still to be made, and
-- that is when the queue has it. So the most held of a record is the longest queue just after an arrival.
use Prim.Native.Nat.{ℕ, zero, suc, ◌+◌, ◌≤◌, ◌<◌}
use native.Mathlib.Omega.{arith}
use mathlib.Core.Path.{◌≡◌, refl, sym, ◌∙◌}
use mathlib.Core.Bool.{false, cond}
use mathlib.Core.List.{List, [], ◌∷◌, ◌++◌, append_assoc}
use lib.ListN.{length}
use Rattle.model.specs.declared.Packet.{Packet}
use Rattle.model.specs.declared.Slot.{Slot}
use Rattle.model.specs.Packets.{Arrival}
use Rattle.model.specs.Record.{fate_number, Entry, Row}
use Rattle.model.specs.Rules.{count_of, is_held_at, held_after}
use Rattle.model.specs.Totals.{most_held_from}
use Rattle.model.specs.Course.{Policy, course}
use Rattle.laws.specs.Times.{times, of_entry, times_entered, times_held, times_arriving}
use Rattle.laws.specs.MostQueue.{turn, most_queue}
use Rattle.laws.specs.Accepted.{Comes}
use Rattle.laws.proofs.Times.{times_append}
use Rattle.laws.proofs.Fifo.{Fifo}
use Rattle.laws.proofs.Conserving.{conserving, course_conserves}
use Rattle.laws.proofs.Cases.{eqb_cases}
use Rattle.laws.proofs.Entered.{entry_of, EnteredOnce, row_of, rows_by}
use Rattle.laws.proofs.Rising.{Rising, rising_bounds}
use Rattle.laws.proofs.All.{All, all_append, all_weaken, all_entry_of, entry_of_number, entry_of_first, entry_of_second}
use Rattle.laws.proofs.Moments.{held_by, is_held_at_held_by, Since, gone_later}
use Rattle.laws.proofs.Standing.{Marks, Stands, course_turn, turn_goes, course_since}

-- a row says what an entry says
pub record Tells (number : ℕ) (r : Row) (e : Entry) : Type 0 where
  pub number_told : r.number.0 ≡ number
  pub fate : r.fate ≡ fate_number e.fate
  pub when : r.when.0 ≡ e.when.0
  pub by : r.by.0 ≡ e.by.0

-- the rows of the packets from this number down to 1
abbrev pub Older : List Entry → ℕ → List Row → Type 0
Older entries zero [] = Unit {0}
Older entries zero (r ∷ older) = ⊥
Older entries (suc last) [] = ⊥
Older entries (suc last) (r ∷ older) = Tells (suc last) r (entry_of (suc last) entries) × Older entries last older

-- the times of all numbers from this one down to 1
unfoldable times_up_to : ℕ → List Packet → ℕ
times_up_to zero queue = 0
times_up_to (suc n) queue = times_held (suc n) queue + times_up_to n queue

times_up_to_none : (n : ℕ) → times_up_to n [] ≡ 0
unfolding times_up_to times
times_up_to_none zero = refl
times_up_to_none (suc n) = omega (arith, times_up_to_none n)

times_up_to_above : (n : ℕ) (p : Packet) (queue : List Packet) → n < p.number.0 → times_up_to n (p ∷ queue) ≡ times_up_to n queue
unfolding times_up_to times
times_up_to_above zero p queue h = refl
times_up_to_above (suc n) p queue h =
    eqb_cases p.number.0 (suc n) _ (λ t q. absurd (omega arith)) λ t q. rw t (omega (arith, times_up_to_above n p queue (omega arith)))

times_up_to_one : (n : ℕ) (p : Packet) (queue : List Packet) → 0 < p.number.0 → p.number.0 ≤ n → times_up_to n (p ∷ queue) ≡ suc (times_up_to n queue)
unfolding times_up_to times
times_up_to_one zero p queue low high = absurd (omega arith)
times_up_to_one (suc n) p queue low high =
    eqb_cases p.number.0 (suc n) _
    (λ t q. rw t (omega (arith, times_up_to_above n p queue (omega arith))))
    λ t q. rw t (omega (arith, times_up_to_one n p queue low (omega arith)))

-- a queue with numbers within 1 to last has as many packets as these numbers have times
times_up_to_length : (low last : ℕ) (queue : List Packet) → Rising low last queue → times_up_to last queue ≡ length queue
times_up_to_length low last [] h = times_up_to_none last
times_up_to_length low last (p ∷ queue) h =
    omega (
      arith,
      times_up_to_one last p queue (omega arith) (rising_bounds p.number.0 last queue h.1),
      times_up_to_length p.number.0 last queue h.1,
    )

module _ (entries past future : List Entry) (slots : List ℕ) (now last : ℕ) (queue : List Packet)
    (parts : entries ≡ past ++ future)
    (O : EnteredOnce (length slots) entries) (counted : last ≤ length slots)
    (gone : All (λ e. held_by now last e ≡ false) past) (since : All (Since slots now last) future)
    (conserved : (n : ℕ) → n ≤ last → times_entered n future ≡ times_held n queue) where
  held_once : (k : ℕ) → k < last → cond (held_by now last (entry_of (suc k) entries)) 1 0 ≡ times_held (suc k) queue
  held_once k h =
      let once : times_entered (suc k) (past ++ future) ≡ 1 = rw parts at (O.once k (omega arith)) in
      let both = times_append of_entry (suc k) past future in
      let kept = conserved (suc k) h in
      rw parts
      (eqb_cases (times_entered (suc k) past) 0 _
      (λ t q.
      let there : 0 < times_entered (suc k) future = omega arith in
      rw (entry_of_second (suc k) past future q, (all_entry_of (Since slots now last) (suc k) future there since).held_then (omega (arith, entry_of_number (suc k) future there)))
      (omega arith))
      λ t q.
      let there : 0 < times_entered (suc k) past = omega arith in
      rw (entry_of_first (suc k) past future there, all_entry_of (λ e. held_by now last e ≡ false) (suc k) past there gone) (omega arith))

  held_count : (at : Row) → at.slot.0 ≡ now → at.number.0 ≡ last → (n : ℕ) (older : List Row) → n ≤ last → Older entries n older →
      count_of (is_held_at at) older ≡ times_up_to n queue
  unfolding count_of times_up_to
  held_count at slot number zero [] h told = refl
  held_count at slot number zero (r ∷ older) h told = absurd told
  held_count at slot number (suc n) [] h told = absurd told
  held_count at slot number (suc n) (r ∷ older) h told =
      let here : is_held_at at r ≡ held_by now last (entry_of (suc n) entries) =
      rw (← slot, ← number) (is_held_at_held_by at r (entry_of (suc n) entries) told.0.fate told.0.when told.0.by)
      in
      rw here (omega (arith, held_once n h, held_count at slot number n older (omega arith) told.1))

-- no packet up to the last that has arrived is still to come
comes_none : (slots : List ℕ) (n now last : ℕ) (trace : List Arrival) → n ≤ last → Comes slots now last trace → times_arriving n trace ≡ 0
unfolding times
comes_none slots n now last [] h C = refl
comes_none slots n now last (a ∷ trace) h C =
    eqb_cases a.packet.number.0 n _ (λ t q. absurd (omega (arith, C.0.number)))
    λ t q. rw t (omega (arith, comes_none slots n a.slot.0 (suc last) trace (omega arith) C.1))

-- the row of an arrival
abbrev pub next_row : List Entry → Arrival → Row
next_row entries a = row_of a (entry_of a.packet.number.0 entries)

pub next_tells : (entries : List Entry) (last : ℕ) (a : Arrival) → a.packet.number.0 ≡ suc last →
    Tells (suc last) (next_row entries a) (entry_of (suc last) entries)
next_tells entries last a e = record { number_told = e; fate = rw e; when = rw e; by = rw e }

-- after every arrival of a trace fault 15 counts, in the trace's rows, what the queue holds
abbrev pub HeldAgrees : {S : Type 0} → Policy S → Slot → S → List Row → List Row → List Arrival → Type 0
HeldAgrees P now s older [] [] = Unit {0}
HeldAgrees P now s older [] (a ∷ trace) = ⊥
HeldAgrees P now s older (r ∷ rows) [] = ⊥
HeldAgrees P now s older (r ∷ rows) (a ∷ trace) =
    (held_after older r ≡ length (P.held (turn P now s a).next)) × HeldAgrees P a.slot (turn P now s a).next (r ∷ older) rows trace

pub most_held_most_queue : {S : Type 0} (P : Policy S) (now : Slot) (s : S) (older rows : List Row) (trace : List Arrival) →
    HeldAgrees P now s older rows trace → most_held_from older rows ≡ most_queue P now s trace
unfolding most_held_from most_queue
most_held_most_queue P now s older [] [] h = refl
most_held_most_queue P now s older [] (a ∷ trace) h = absurd h
most_held_most_queue P now s older (r ∷ rows) [] h = absurd h
most_held_most_queue P now s older (r ∷ rows) (a ∷ trace) h =
    rw (h.0, most_held_most_queue P a.slot (turn P now s a).next (r ∷ older) rows trace h.1)

module _ {S : Type 0} {P : Policy S} {F : Fifo P} {Fit : ℕ → S → Type 0} (M : Marks F Fit) (slots : List ℕ) (entries : List Entry)
    (O : EnteredOnce (length slots) entries) where
  pub held_agrees : (past : List Entry) (older : List Row) (last : ℕ) (now : Slot) (s : S) (trace : List Arrival) →
      entries ≡ past ++ course P now s trace → All (λ e. held_by now.0 last e ≡ false) past → Older entries last older →
      Comes slots now.0 last trace → Stands slots P Fit now.0 last s →
      HeldAgrees P now s older (rows_by entries trace) trace
  held_agrees past older last now s [] parts gone told C T = tt
  held_agrees past older last now s (a ∷ trace) parts gone told C T =
      let step = turn P now s a in
      let later = course P a.slot step.next trace in
      let goes = turn_goes M slots last now s a C.0 T in
      let past' = past ++ step.entries in
      let parts' : entries ≡ past' ++ later = parts ∙ rw (course_turn P now s a trace) (sym (append_assoc past step.entries later)) in
      let gone' : All (λ e. held_by a.slot.0 (suc last) e ≡ false) past' =
      all_append (λ e. held_by a.slot.0 (suc last) e ≡ false) past step.entries
      (all_weaken _ _ (gone_later now.0 last a.slot.0 (suc last) C.0.later (omega arith)) past gone)
      (all_weaken _ _ (λ e h. h.gone) step.entries goes.between)
      in
      let told' : Older entries (suc last) (next_row entries a ∷ older) = (next_tells entries last a C.0.number, told) in
      let here : held_after older (next_row entries a) ≡ length (P.held step.next) =
      held_count entries past' later slots a.slot.0 (suc last) (P.held step.next) parts' O C.0.counted gone'
      (course_since M slots (suc last) a.slot step.next trace C.1 goes.stands)
      (λ n h. omega (arith, course_conserves (conserving F) n a.slot step.next trace, comes_none slots n a.slot.0 (suc last) trace h C.1))
      (next_row entries a) refl C.0.number (suc last) (next_row entries a ∷ older) (omega arith) told'
      ∙ times_up_to_length 0 (suc last) (P.held step.next) goes.stands.rising
      in
      (here, held_agrees past' (next_row entries a ∷ older) (suc last) a.slot step.next trace parts' gone' told' C.1 goes.stands)
