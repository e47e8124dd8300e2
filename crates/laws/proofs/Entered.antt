-- What a record says of a packet that is entered once is that entry, whatever its lists held before: the entry is written at its own place, and no other
-- entry is written there.
use Prim.Native.Nat.{ℕ, suc, ◌+◌, ◌<◌}
use native.Mathlib.Omega.{arith}
use mathlib.Core.Path.{◌≡◌, refl, sym, ◌∙◌}
use mathlib.Core.Bool.{cond}
use mathlib.Core.List.{List, [], ◌∷◌, map}
use lib.ListN.{length, get_or, set, length-set, length-replicate}
use lib.Seq.{get_or-set_same, get_or-set_other, ext_get_or}
use lib.Dec.{eqb}
use Rattle.model.specs.declared.Fate.TheVariants.{Sent}
use Rattle.model.specs.Packets.{Arrival, place_of, arrivals_from, arrivals}
use Rattle.model.specs.Record.{fate_number, Entry, Lists, enter, entered, blank, record_of, Row, rows_of}
use Rattle.laws.specs.Times.{times, times_entered}
use Rattle.laws.specs.Recorded.{Sized, recorded}
use Rattle.laws.proofs.Cases.{eqb_cases}

-- the entry of packet n
unfoldable pub entry_of : ℕ → List Entry → Entry
entry_of n [] = record { number = record { 0 = 0 }; fate = Sent; when = record { 0 = 0 }; by = record { 0 = 0 } }
entry_of n (e ∷ entries) = cond (eqb e.number.0 n) e (entry_of n entries)

-- one of the three lists with all entries written
unfoldable written : (Entry → ℕ) → List Entry → List ℕ → List ℕ
written says [] list = list
written says (e ∷ entries) list = written says entries (set list (place_of e.number) (says e))

abbrev fate_of : Entry → ℕ
fate_of e = fate_number e.fate

abbrev when_of : Entry → ℕ
when_of e = e.when.0

abbrev by_of : Entry → ℕ
by_of e = e.by.0

entered_written : (entries : List Entry) (lists : Lists) →
    entered entries lists
    ≡ record {
      fates = written fate_of entries lists.fates;
      whens = written when_of entries lists.whens;
      bys = written by_of entries lists.bys;
    }
unfolding entered written
entered_written [] lists = refl
entered_written (e ∷ entries) lists = entered_written entries (enter e lists)

module _ (says : Entry → ℕ) where
  written_length : (entries : List Entry) (list : List ℕ) → length (written says entries list) ≡ length list
  unfolding written
  written_length [] list = refl
  written_length (e ∷ entries) list = written_length entries _ ∙ length-set list _ _

  written_other : (k : ℕ) (entries : List Entry) (list : List ℕ) → times_entered 0 entries ≡ 0 → times_entered (suc k) entries ≡ 0 →
      get_or (written says entries list) k 0 ≡ get_or list k 0
  unfolding written times
  written_other k [] list z h = refl
  written_other k (e ∷ entries) list z h =
      eqb_cases e.number.0 0 _ (λ t q. absurd (omega (arith, rw t at z))) λ t q.
      eqb_cases e.number.0 (suc k) _ (λ t' q'. absurd (omega (arith, rw t' at h))) λ t' q'.
      written_other k entries _ (omega arith) (omega arith) ∙ get_or-set_other list (place_of e.number) k (says e) 0 (λ r. q' (omega arith))

  written_once : (k : ℕ) (entries : List Entry) (list : List ℕ) → times_entered 0 entries ≡ 0 → times_entered (suc k) entries ≡ 1 → k < length list →
      get_or (written says entries list) k 0 ≡ says (entry_of (suc k) entries)
  unfolding written times entry_of
  written_once k [] list z h below = absurd (omega arith)
  written_once k (e ∷ entries) list z h below =
      eqb_cases e.number.0 0 _ (λ t q. absurd (omega (arith, rw t at z))) λ t q.
      eqb_cases e.number.0 (suc k) _
      (λ t' q'.
      let place : place_of e.number ≡ k = omega arith in
      rw (t', place) (written_other k entries _ (omega arith) (omega (arith, rw t' at h)) ∙ get_or-set_same list k (says e) 0 below))
      λ t' q'. rw t' (written_once k entries _ (omega arith) (omega (arith, rw t' at h)) (rw length-set below))

-- every packet of a trace of so many is entered once, and nobody else
pub record EnteredOnce (packets : ℕ) (entries : List Entry) : Type 0 where
  pub nobody : times_entered 0 entries ≡ 0
  pub once : (k : ℕ) → k < packets → times_entered (suc k) entries ≡ 1

pub blank_sized : (packets : ℕ) → Sized packets (blank packets)
blank_sized packets = record { fates = length-replicate packets 0; whens = length-replicate packets 0; bys = length-replicate packets 0 }

pub entered_sized : (packets : ℕ) (entries : List Entry) (before : Lists) → Sized packets before → Sized packets (entered entries before)
entered_sized packets entries before b =
    rw (entered_written entries before)
    (record {
      fates = written_length fate_of entries before.fates ∙ b.fates;
      whens = written_length when_of entries before.whens ∙ b.whens;
      bys = written_length by_of entries before.bys ∙ b.bys;
    })

-- what the three lists say at place k
pub record Says (k : ℕ) (lists : Lists) (e : Entry) : Type 0 where
  pub fate : get_or lists.fates k 0 ≡ fate_number e.fate
  pub when : get_or lists.whens k 0 ≡ e.when.0
  pub by : get_or lists.bys k 0 ≡ e.by.0

-- three lists are known by what they say
says_all : (packets : ℕ) (entry : ℕ → Entry) (x y : Lists) → Sized packets x → Sized packets y →
    ((k : ℕ) → k < packets → Says k x (entry k)) → ((k : ℕ) → k < packets → Says k y (entry k)) → x ≡ y
says_all packets entry x y a b sx sy =
    let fates = ext_get_or 0 x.fates y.fates (a.fates ∙ sym b.fates) (λ k h. (sx k (rw (← a.fates) h)).fate ∙ sym (sy k (rw (← a.fates) h)).fate) in
    let whens = ext_get_or 0 x.whens y.whens (a.whens ∙ sym b.whens) (λ k h. (sx k (rw (← a.whens) h)).when ∙ sym (sy k (rw (← a.whens) h)).when) in
    let bys = ext_get_or 0 x.bys y.bys (a.bys ∙ sym b.bys) (λ k h. (sx k (rw (← a.bys) h)).by ∙ sym (sy k (rw (← a.bys) h)).by) in
    λ i. record { fates = fates i; whens = whens i; bys = bys i }

module _ (packets : ℕ) (entries : List Entry) (O : EnteredOnce packets entries) (before : Lists) (b : Sized packets before) where
  -- the lists say of each packet what its entry says
  pub entered_says : (k : ℕ) → k < packets → Says k (entered entries before) (entry_of (suc k) entries)
  entered_says k h =
      rw (entered_written entries before)
      (record {
        fate = written_once fate_of k entries before.fates O.nobody (O.once k h) (omega (arith, b.fates));
        when = written_once when_of k entries before.whens O.nobody (O.once k h) (omega (arith, b.whens));
        by = written_once by_of k entries before.bys O.nobody (O.once k h) (omega (arith, b.bys));
      })

-- every entry is written: what the lists held before is gone
pub entered_all : (packets : ℕ) (entries : List Entry) → EnteredOnce packets entries → (before : Lists) → Sized packets before →
    entered entries before ≡ record_of packets entries
entered_all packets entries O before b =
    let c = blank_sized packets in
    says_all packets (λ k. entry_of (suc k) entries) (entered entries before) (record_of packets entries)
    (entered_sized packets entries before b) (entered_sized packets entries (blank packets) c)
    (entered_says packets entries O before b) (entered_says packets entries O (blank packets) c)

-- the row of an arrival and its entry
abbrev pub row_of : Arrival → Entry → Row
row_of a e =
    record {
      number = a.packet.number;
      slot = a.slot;
      value = a.packet.value;
      fate = fate_number e.fate;
      when = e.when;
      by = e.by;
    }

-- the rows of a trace, each with its entry
abbrev pub rows_by : List Entry → List Arrival → List Row
rows_by entries trace = map (λ (a : Arrival). row_of a (entry_of a.packet.number.0 entries)) trace

rows_said_from : (entries : List Entry) (n : ℕ) (slots values fates whens bys : List ℕ) → length values ≡ length slots →
    Sized (length slots) (record { fates = fates; whens = whens; bys = bys }) →
    ((k m : ℕ) → k < length slots → m ≡ n + k → Says k (record { fates = fates; whens = whens; bys = bys }) (entry_of m entries)) →
    rows_of (arrivals_from n slots values) fates whens bys ≡ rows_by entries (arrivals_from n slots values)
unfolding arrivals_from rows_of
rows_said_from entries n [] values fates whens bys l sized says = refl
rows_said_from entries n (s ∷ slots) [] fates whens bys l sized says = absurd (omega arith)
rows_said_from entries n (s ∷ slots) (v ∷ values) [] whens bys l sized says = absurd (omega arith)
rows_said_from entries n (s ∷ slots) (v ∷ values) (f ∷ fates) [] bys l sized says = absurd (omega arith)
rows_said_from entries n (s ∷ slots) (v ∷ values) (f ∷ fates) (w ∷ whens) [] l sized says = absurd (omega arith)
rows_said_from entries n (s ∷ slots) (v ∷ values) (f ∷ fates) (w ∷ whens) (b ∷ bys) l sized says =
    let here = says 0 n (omega arith) (omega arith) in
    let fate : f ≡ fate_number (entry_of n entries).fate = here.fate in
    let when : w ≡ (entry_of n entries).when.0 = here.when in
    let by : b ≡ (entry_of n entries).by.0 = here.by in
    rw (fate, when, by)
    (rw
    (rows_said_from entries (suc n) slots values fates whens bys (omega arith) (omega arith)
    (λ k m h e. let there = says (suc k) m (omega arith) (omega arith) in record { fate = there.fate; when = there.when; by = there.by })))

pub rows_said : (slots values : List ℕ) (entries : List Entry) → length values ≡ length slots → EnteredOnce (length slots) entries →
    recorded slots values entries ≡ rows_by entries (arrivals slots values)
rows_said slots values entries l O =
    let b = blank_sized (length slots) in
    rows_said_from entries 1 slots values _ _ _ l (entered_sized (length slots) entries (blank (length slots)) b)
    (λ k m h e. let m-is : m ≡ suc k = omega arith in rw m-is (entered_says (length slots) entries O (blank (length slots)) b k h))
