-- A set of packets, 1 or 0 for each place of a trace, fits when no arrival leaves more than room of them held. A set that fits still fits when it
-- shrinks; and where its queue does not become full before it idles, one packet more fits all the way.
use Prim.Native.Nat.{ℕ, suc, ◌+◌, ◌-◌, ◌≤◌, ◌<◌}
use mathlib.Core.Path.{◌≡◌, refl}
use mathlib.Core.Bool.{Bool, true, false, cond, ◌&&◌, ◌||◌, and-eq-true_iff}
use mathlib.Core.List.{List, [], ◌∷◌}
use native.Mathlib.Omega.{arith}
use lib.ListN.{get_or}
use lib.Dec.{leb, eqb}
use borrow.Author.Tests.{leb-true, leb-false, le-leb}
use Rattle.model.specs.declared.Slot.{Slot}
use Rattle.model.specs.Packets.{Arrival, place_of, slots_until}
use Rattle.model.specs.Policies.Plan.{fits_from}
use Rattle.theorems.proofs.Each.{Each}

abbrev pub place_in : Arrival → ℕ
place_in a = place_of a.packet.number

-- how many of a set are held just after an arrival
abbrev pub after : (ℕ → ℕ) → Slot → ℕ → Arrival → ℕ
after set now before a = (before - slots_until now a.slot) + set (place_in a)

abbrev pub Fits : ℕ → (ℕ → ℕ) → Slot → ℕ → List Arrival → Type 0
Fits room set now before [] = Unit {0}
Fits room set now before (a ∷ trace) = (after set now before a ≤ room) × Fits room set a.slot (after set now before a) trace

-- the set of a list of kept packets
abbrev pub set_of : List ℕ → ℕ → ℕ
set_of kept i = get_or kept i 0

pub true_fits : (room : ℕ) (kept : List ℕ) (now : Slot) (before : ℕ) (trace : List Arrival) → fits_from room kept now before trace ≡ true
    → Fits room (set_of kept) now before trace
unfolding fits_from
true_fits room kept now before [] e = tt
true_fits room kept now before (a ∷ trace) e =
    let n = after (set_of kept) now before a in
    let h = (and-eq-true_iff (leb n room) (fits_from room kept a.slot n trace)).0 e in
    (leb-true n room h.0, true_fits room kept a.slot n trace h.1)

pub fits_true : (room : ℕ) (kept : List ℕ) (now : Slot) (before : ℕ) (trace : List Arrival) → Fits room (set_of kept) now before trace
    → fits_from room kept now before trace ≡ true
unfolding fits_from
fits_true room kept now before [] f = refl
fits_true room kept now before (a ∷ trace) f =
    let n = after (set_of kept) now before a in
    rw (le-leb n room f.0) (fits_true room kept a.slot n trace f.1)

-- a smaller set fits
pub fits_less : (room : ℕ) (small large : ℕ → ℕ) (now : Slot) (m n : ℕ) (trace : List Arrival) → m ≤ n
    → Each (λ a. small (place_in a) ≤ large (place_in a)) trace → Fits room large now n trace → Fits room small now m trace
fits_less room small large now m n [] h e f = tt
fits_less room small large now m n (a ∷ trace) h e f = (
  omega (arith, e.0, f.0),
  fits_less room small large a.slot (after small now m a) (after large now n a) trace (omega (arith, e.0)) e.1 f.1,
)

-- the set with one place more
abbrev pub more : ℕ → (ℕ → ℕ) → ℕ → ℕ
more place set i = cond (eqb i place) 1 (set i)

-- the queue becomes full, now or later, before a slot ends at which it is empty
unfoldable pub fills : ℕ → (ℕ → ℕ) → Slot → ℕ → List Arrival → Bool
fills room set now before [] = leb room before
fills room set now before (a ∷ trace) =
    leb room before || leb (slots_until now a.slot) before && fills room set a.slot (after set now before a) trace

-- neither part of a disjunction
pub neither : (t u : Bool) → t || u ≡ false → (t ≡ false) × (u ≡ false)
neither false u e = (refl, e)
neither true u e = absurd (let z : ◌≡◌ {A = ℕ} 0 1 = cc in omega arith)

pub room_now : (room : ℕ) (set : ℕ → ℕ) (now : Slot) (before : ℕ) (trace : List Arrival) → fills room set now before trace ≡ false → before < room
unfolding fills
room_now room set now before [] e = leb-false room before e
room_now room set now before (a ∷ trace) e = leb-false room before (neither (leb room before) _ e).0

pub room_left : (room : ℕ) (set : ℕ → ℕ) (now : Slot) (before : ℕ) (trace : List Arrival) → fills room set now before trace ≡ false
    → Fits room set now before trace → Fits room set now (suc before) trace
unfolding fills
room_left room set now before [] e f = tt
room_left room set now before (a ∷ trace) e f =
    go (leb gap before) refl (neither (leb room before) _ e).1 (room_now room set a.slot n trace)
    (λ d. room_left room set a.slot n trace d f.1)
  where
    gap : ℕ
    gap = slots_until now a.slot

    n : ℕ
    n = after set now before a

    go : (t : Bool) → leb gap before ≡ t → t && fills room set a.slot n trace ≡ false
        → (fills room set a.slot n trace ≡ false → n < room)
        → (fills room set a.slot n trace ≡ false → Fits room set a.slot (suc n) trace)
        → (after set now (suc before) a ≤ room) × Fits room set a.slot (after set now (suc before) a) trace
    go true g d below ih =
        let one : after set now (suc before) a ≡ suc n = omega (arith, leb-true gap before g) in
        rw one (below d, ih d)
    go false g d below ih =
        let same : after set now (suc before) a ≡ n = omega (arith, leb-false gap before g) in
        rw same f
