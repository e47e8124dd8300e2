-- Why what is kept is the plan's. Counts of what is held after each arrival, each by the one before it, are those of `fits_from`. One packet more adds one to
-- each from its place on, up to the first pause that is longer than what was held: there all is sent, with it and without it. So the counts are kept right,
-- and each packet of the order is tried as `keep_in_turn` does.
use Prim.Native.Nat.{ℕ, zero, suc, ◌+◌, ◌-◌, ◌≤◌, ◌<◌}
use mathlib.Core.Path.{◌≡◌, refl, sym, ap, ◌∙◌}
use mathlib.Core.Bool.{Bool, true, false, cond, ◌&&◌}
use mathlib.Core.List.{List, [], ◌∷◌}
use native.Mathlib.Numerals.{add-one}
use native.Mathlib.Omega.{arith}
use lib.ListN.{length, get_or, set, drop, length-set, replicate, length-replicate, get_or-replicate, drop_of_length-le}
use lib.Seq.{drop-cons, set-get_or, get_or-set_same, get_or-set_other}
use lib.Dec.{leb}
use borrow.Author.Tests.{le-leb, lt-leb}
use Rattle.model.specs.Packets.{arrivals}
use Rattle.model.specs.Policies.Plan.{fits_from, fits, keep_in_turn}
use Rattle.laws.proofs.Cases.{eqb_cases, below}
use Rattle.laws.proofs.Lists.{arrivals_length}
use Rattle.steps.specs.Places.{packets_at}
use Rattle.plan_kept.specs.Keep.{Keepable, Fitting, TakenInTurn, HeldAs, Staying, Spanning, Reach, Raised, pause, within}
use Rattle.steps.proofs.Places.{arrivals_at}

-- what the pass says of the packets from i on, with `held` held in slot `last`, it says of all
pub record Passing (slots : List ℕ) (room : ℕ) (kept : List ℕ) (held last i : ℕ) : Type 0 where
  pub inside : i ≤ length slots
  pub roomy : held ≤ room
  pub before : (k : ℕ) → i ≤ k → k < length slots → last ≤ get_or slots k 0
  pub same : (values : List ℕ) → length values ≡ length slots
      → fits_from room kept (record { 0 = last }) held (drop i (arrivals slots values)) ≡ fits room (arrivals slots values) kept

module _ (slots : List ℕ) (room : ℕ) (kept : List ℕ) (K : Keepable slots room kept) where
  pub passing_start : Passing slots room kept 0 1 0
  passing_start = record { inside = omega arith; roomy = omega arith; before = λ k h b. K.slot_from k b; same = λ values l. refl }

  module _ (held last i : ℕ) (P : Passing slots room kept held last i) where
    -- what is held after the arrival at i
    abbrev after : ℕ
    after = (held - (get_or slots i 0 - last)) + get_or kept i 0

    one_more : (values : List ℕ) → length values ≡ length slots → i < length slots
        → (leb after room && fits_from room kept (record { 0 = get_or slots i 0 }) after (drop (i + 1) (arrivals slots values))) ≡ fits room (arrivals slots values) kept
    unfolding fits_from
    one_more values l some =
        let place : (i + 1) - 1 ≡ i = omega arith in
        rw place at (ap (fits_from room kept (record { 0 = last }) held) (sym (arrivals_at slots values i l some)) ∙ P.same values l)

    pub passing_turn : i < length slots → (next : ℕ) → next ≡ after → next ≤ room → Passing slots room kept next (get_or slots i 0) (i + 1)
    passing_turn some next e roomy =
        record {
          inside = omega arith;
          roomy = roomy;
          before = λ k h b. K.sorted i k (omega arith) b;
          same = λ values l. rw e (rw (le-leb after room (omega arith)) at (one_more values l some));
        }

    pub passing_full : i < length slots → room < after → Fitting slots room kept false
    passing_full some full values l = rw (lt-leb after room full) at (one_more values l some)

    pub passing_end : length slots ≤ i → Fitting slots room kept true
    unfolding fits_from
    passing_end done values l =
        let past : length (arrivals slots values) ≤ i = omega (arith, arrivals_length 1 slots values l) in
        let none : drop i (arrivals slots values) ≡ [] = drop_of_length-le (arrivals slots values) past in
        rw none at (P.same values l)

-- what was held before an arrival, by the counts after each, and in which slot
abbrev before : (ℕ → ℕ) → ℕ → ℕ
before h zero = 0
before h (suc k) = h k

abbrev since : List ℕ → ℕ → ℕ
since slots zero = 1
since slots (suc k) = get_or slots k 0

-- a count is right by the one before it
abbrev Counted : List ℕ → List ℕ → (ℕ → ℕ) → ℕ → Type 0
Counted slots kept h k = h k ≡ (before h k - (get_or slots k 0 - since slots k)) + get_or kept k 0

module _ (slots : List ℕ) (room : ℕ) (kept : List ℕ) (K : Keepable slots room kept) (h : ℕ → ℕ) where
  passed : (i : ℕ) → i ≤ length slots → ((k : ℕ) → k < i → Counted slots kept h k) → ((k : ℕ) → k < i → h k ≤ room)
      → Passing slots room kept (before h i) (since slots i) i
  passed zero le counted roomy = passing_start slots room kept K
  passed (suc i) le counted roomy =
      let P = passed i (omega arith) (λ k b. counted k (omega arith)) (λ k b. roomy k (omega arith)) in
      rw (add-one i) at (passing_turn slots room kept K _ _ i P (omega arith) (h i) (counted i (omega arith)) (roomy i (omega arith)))

  count_fits : ((k : ℕ) → k < length slots → Counted slots kept h k) → ((k : ℕ) → k < length slots → h k ≤ room) → Fitting slots room kept true
  count_fits counted roomy =
      passing_end slots room kept K _ _ (length slots) (passed (length slots) (omega arith) counted roomy) (omega arith)

  count_over : (j : ℕ) → j < length slots → ((k : ℕ) → k < suc j → Counted slots kept h k) → ((k : ℕ) → k < j → h k ≤ room) → room < h j
      → Fitting slots room kept false
  count_over j inside counted roomy over =
      let P = passed j (omega arith) (λ k b. counted k (omega arith)) roomy in
      let at : Counted slots kept h j = counted j (omega arith) in
      passing_full slots room kept K _ _ j P inside (omega (arith, at))

held_counted : (slots : List ℕ) (room : ℕ) (kept held : List ℕ) → HeldAs slots room kept held → (k : ℕ) → k < length slots → Counted slots kept (λ (j : ℕ). get_or held j 0) k
held_counted slots room kept held H zero b = omega (arith, H.first b)
held_counted slots room kept held H (suc k) b = rw (add-one k) at (H.next k (omega arith))

-- counts that are right fit
held_fits : (slots : List ℕ) (room : ℕ) (kept held : List ℕ) → Keepable slots room kept → HeldAs slots room kept held → Fitting slots room kept true
held_fits slots room kept held K H =
    count_fits slots room kept K (λ (j : ℕ). get_or held j 0) (held_counted slots room kept held H) H.roomy

-- nothing is kept yet
pub held_none : (slots : List ℕ) (room : ℕ) (kept held : List ℕ) → kept ≡ replicate (length slots) 0 → held ≡ replicate (length slots) 0 → HeldAs slots room kept held
held_none slots room kept held none zeros =
    rw (none, zeros)
    record {
      same = length-replicate (length slots) 0;
      single = λ k b. omega (arith, none_at k b);
      roomy = λ k b. omega (arith, none_at k b);
      first = λ b. refl;
      next = λ k b. omega (arith, none_at k (omega arith), none_at (k + 1) b);
    }
  where
    none_at : (k : ℕ) → k < length slots → ◌≡◌ {A = ℕ} (get_or (replicate (length slots) 0) k 0) 0
    none_at k b = get_or-replicate (length slots) k 0 0 b

-- a packet is tried
module _ (slots : List ℕ) (room : ℕ) (kept : List ℕ) (place : ℕ) where
  tried : (r : Bool) → Fitting slots room (set kept place 1) r → (values : List ℕ) → length values ≡ length slots
      → cond r (set kept place 1) kept ≡ keep_in_turn room (arrivals slots values) kept (packets_at slots values (place ∷ []))
  unfolding keep_in_turn
  tried r F values l =
      let number : (place + 1) - 1 ≡ place = omega arith in
      rw (number, F values l) refl

  tried_fits : Fitting slots room (set kept place 1) true → TakenInTurn slots room (place ∷ []) kept (set kept place 1)
  tried_fits F = tried true F

  pub tried_not : Fitting slots room (set kept place 1) false → TakenInTurn slots room (place ∷ []) kept kept
  tried_not F = tried false F

  -- a packet that is kept already is kept, whether it fits or not
  pub tried_again : get_or kept place 0 ≡ 1 → TakenInTurn slots room (place ∷ []) kept kept
  unfolding keep_in_turn
  tried_again e values l =
      let number : (place + 1) - 1 ≡ place = omega arith in
      let same : set kept place 1 ≡ kept = ap (set kept place) (sym e) ∙ set-get_or kept place 0 in
      rw (number, same) (either (fits room (arrivals slots values) kept))
    where
      either : (t : Bool) → kept ≡ cond t kept kept
      either true = refl
      either false = refl

-- 1 from a place on up to an end, else 0
module _ (place end k : ℕ) where
  within_in : place ≤ k → k < end → within place end k ≡ 1
  unfolding within
  within_in l m = omega arith

  within_low : k < place → within place end k ≡ 0
  unfolding within
  within_low l = omega arith

  within_high : end ≤ k → within place end k ≡ 0
  unfolding within
  within_high m = omega arith

-- one packet more
module _ (slots : List ℕ) (room : ℕ) (kept held : List ℕ) (place : ℕ) (K : Keepable slots room kept) (H : HeldAs slots room kept held) (inside : place < length slots) (free : get_or kept place 0 ≡ 0) where
  more_keepable : Keepable slots room (set kept place 1)
  more_keepable = record { same = simp length-set K.same; room_to = K.room_to; slot_from = K.slot_from; sorted = K.sorted }

  more_here : (k : ℕ) → k ≡ place → get_or (set kept place 1) k 0 ≡ get_or kept k 0 + 1
  more_here k q =
      let p : place < length kept = omega (arith, K.same) in
      rw (q, get_or-set_same kept place 1 0 p, free) refl

  more_other : (k : ℕ) → (k ≡ place → ⊥) → get_or (set kept place 1) k 0 ≡ get_or kept k 0
  more_other k n = get_or-set_other kept place k 1 0 n

  -- the counts with it are right up to `upto`, where it is there before `end` and gone at `end`
  module _ (end upto : ℕ) (some : place < end) (most : upto ≤ length slots) (h : ℕ → ℕ) (raised : (k : ℕ) → h k ≡ get_or held k 0 + within place end k)
      (staying : (k : ℕ) → place ≤ k → k + 1 < end → pause slots k ≤ get_or held k 0) (gone : (k : ℕ) → k + 1 ≡ end → end < upto → get_or held k 0 < pause slots k) where
    more_counted : (k : ℕ) → k < upto → Counted slots (set kept place 1) h k
    more_counted zero b =
        eqb_cases 0 place _
        (λ t q. omega (arith, raised 0, within_in place end 0 (omega arith) (omega arith), more_here 0 q, H.first (omega arith)))
        λ t q. omega (arith, raised 0, within_low place end 0 (omega arith), more_other 0 q, H.first (omega arith))
    more_counted (suc k) b =
        let now = raised (suc k) in
        let was = raised k in
        let old : get_or held (suc k) 0 ≡ (get_or held k 0 - (get_or slots (suc k) 0 - get_or slots k 0)) + get_or kept (suc k) 0 = rw (add-one k) at (H.next k (omega arith)) in
        below (suc k) place _
        (λ l. omega (arith, within_low place end k (omega arith), within_low place end (suc k) l, more_other (suc k) (λ q. omega arith)))
        λ l. below place (suc k) _
        (λ l. below (suc k) end _
        (λ m.
        let s : get_or slots (suc k) 0 - get_or slots k 0 ≤ get_or held k 0 = rw (add-one k) at (staying k (omega arith) (omega arith)) in
        omega (arith, within_in place end k (omega arith) (omega arith), within_in place end (suc k) (omega arith) m, more_other (suc k) (λ q. omega arith)))
        λ m. below end (suc k) _
        (λ n. omega (arith, within_high place end k (omega arith), within_high place end (suc k) m, more_other (suc k) (λ q. omega arith)))
        λ n.
        let g : get_or held k 0 < get_or slots (suc k) 0 - get_or slots k 0 = rw (add-one k) at (gone k (omega arith) (omega arith)) in
        omega (arith, within_in place end k (omega arith) (omega arith), within_high place end (suc k) m, more_other (suc k) (λ q. omega arith)))
        λ m. omega (arith, within_low place end k (omega arith), within_in place end (suc k) l (omega arith), more_here (suc k) (omega arith))

  more_over : (at : ℕ) → place ≤ at → at < length slots → Staying slots held place at → ((k : ℕ) → place ≤ k → k < at → get_or held k 0 < room) → room ≤ get_or held at 0
      → Fitting slots room (set kept place 1) false
  more_over at from b staying roomy over =
      count_over slots room (set kept place 1) more_keepable (λ (k : ℕ). get_or held k 0 + within place (suc at) k) at b
      (more_counted (suc at) (suc at) (omega arith) (omega arith) (λ (k : ℕ). get_or held k 0 + within place (suc at) k) (λ k. refl) (λ k l m. staying k l (omega arith)) (λ k e l. absurd (omega arith)))
      (λ k l. below k place _ (λ m. omega (arith, within_low place (suc at) k m, H.roomy k (omega arith))) λ m. omega (arith, within_in place (suc at) k m (omega arith), roomy k m l))
      (omega (arith, within_in place (suc at) at from (omega arith)))

  -- the counts that are raised are those with it, so it fits
  more_held : (end : ℕ) → place < end → Spanning slots room held place end → (held' : List ℕ) → Raised place end held held' → HeldAs slots room (set kept place 1) held'
  more_held end some S held' R =
      let counted : (k : ℕ) → k < length slots → Counted slots (set kept place 1) (λ (j : ℕ). get_or held' j 0) k =
      more_counted end (length slots) some (omega arith) (λ (j : ℕ). get_or held' j 0) R.raised S.staying S.gone in
      record {
        same = R.same ∙ H.same;
        single = λ k b. eqb_cases k place _ (λ t q. omega (arith, more_here k q, ap (λ (i : ℕ). get_or kept i 0) q, free)) λ t q. omega (arith, more_other k q, H.single k b);
        roomy = λ k b.
            let r = R.raised k in
            below k place _
            (λ l. omega (arith, within_low place end k l, H.roomy k b))
            λ l. below k end _ (λ m. omega (arith, within_in place end k l m, S.roomy k l m)) λ m. omega (arith, within_high place end k m, H.roomy k b);
        first = λ b. omega (arith, counted 0 b);
        next = λ k b. rw (add-one k) (counted (suc k) (omega arith));
      }

  pub more_kept : (end : ℕ) → place < end → Spanning slots room held place end → (held' : List ℕ) → Raised place end held held'
      → HeldAs slots room (set kept place 1) held' × TakenInTurn slots room (place ∷ []) kept (set kept place 1)
  more_kept end some S held' R =
      let H' = more_held end some S held' R in
      (H', tried_fits slots room kept place (held_fits slots room (set kept place 1) held' more_keepable H'))

-- one packet more is still there at the arrival at i, with room for it at each arrival before
pub record Reaching (slots : List ℕ) (room : ℕ) (held : List ℕ) (place i : ℕ) : Type 0 where
  pub from : place ≤ i
  pub inside : i < length slots
  pub staying : Staying slots held place i
  pub roomy : (k : ℕ) → place ≤ k → k < i → get_or held k 0 < room

module _ (slots : List ℕ) (room : ℕ) (held : List ℕ) (place : ℕ) where
  module _ (i : ℕ) (R : Reaching slots room held place i) where
    pub reaching_full : room ≤ get_or held i 0 → Reach slots room held place place
    reaching_full full =
        record {
          spans = λ l. absurd (omega arith);
          none = λ l kept K H free. more_over slots room kept held place K H (omega (arith, R.from, R.inside)) free i R.from R.inside R.staying R.roomy full;
        }

-- the counts from a place on are raised one by one
module _ (place : ℕ) (held₀ : List ℕ) where
  pub raised_start : Raised place place held₀ held₀
  raised_start = record { same = refl; raised = λ k. below k place _ (λ l. omega (arith, within_low place place k l)) λ l. omega (arith, within_high place place k l) }

  -- the next is not raised yet
  pub raised_low : (held : List ℕ) (i : ℕ) → Raised place i held₀ held → get_or held i 0 ≡ get_or held₀ i 0
  raised_low held i R = omega (arith, R.raised i, within_high place i i (omega arith))

  pub raised_turn : (held : List ℕ) (i : ℕ) → place ≤ i → i < length held → Raised place i held₀ held → Raised place (i + 1) held₀ (set held i (get_or held i 0 + 1))
  raised_turn held i from inside R =
      record {
        same = simp length-set R.same;
        raised = λ k. eqb_cases k i _
            (λ t q. rw (q, get_or-set_same held i (get_or held i 0 + 1) 0 inside) (omega (arith, R.raised i, within_high place i i (omega arith), within_in place (i + 1) i from (omega arith))))
            λ t q. rw (get_or-set_other held i k (get_or held i 0 + 1) 0 q) (R.raised k ∙ ap (λ (x : ℕ). get_or held₀ k 0 + x) (next_same k q));
      }
    where
      next_same : (k : ℕ) → (k ≡ i → ⊥) → within place i k ≡ within place (i + 1) k
      next_same k q =
          below k place _
          (λ l. omega (arith, within_low place i k l, within_low place (i + 1) k l))
          λ l. below k i _
          (λ m. omega (arith, within_in place i k l m, within_in place (i + 1) k l (omega arith)))
          λ m. omega (arith, within_high place i k m, within_high place (i + 1) k (omega arith))

-- what is kept when the packets from i on are taken too is what is kept in the end
pub Turning : List ℕ → ℕ → List ℕ → List ℕ → List ℕ → ℕ → Type 0
Turning slots room order kept₀ kept i =
    (values : List ℕ) → length values ≡ length slots
    → keep_in_turn room (arrivals slots values) kept (packets_at slots values (drop i order)) ≡ keep_in_turn room (arrivals slots values) kept₀ (packets_at slots values order)

module _ (slots : List ℕ) (room : ℕ) (order kept₀ : List ℕ) where
  pub turning_start : Turning slots room order kept₀ kept₀ 0
  unfolding Turning
  turning_start values l = refl

  module _ (kept : List ℕ) (i : ℕ) (T : Turning slots room order kept₀ kept i) where
    pub turning_next : i < length order → (next : List ℕ) → TakenInTurn slots room (get_or order i 0 ∷ []) kept next → Turning slots room order kept₀ next (i + 1)
    unfolding Turning keep_in_turn
    turning_next some next tried values l =
        rw (tried values l, add-one i)
        (ap (λ (places : List ℕ). keep_in_turn room (arrivals slots values) kept (packets_at slots values places)) (sym (drop-cons order i 0 some)) ∙ T values l)

    pub turning_end : length order ≤ i → TakenInTurn slots room order kept₀ kept
    unfolding Turning keep_in_turn
    turning_end done values l =
        let none : drop i order ≡ [] = drop_of_length-le order done in
        rw none at (T values l)
