-- A trace of which no packet fails a test is not refused, and how one more packet joins those that passed.
use Prim.Native.Nat.{ℕ, suc, ◌+◌, ◌<◌, suc-le-suc}
use mathlib.Core.Path.{◌≡◌, refl, sym, ◌∙◌}
use mathlib.Core.Bool.{Bool, true, false, ◌||◌}
use mathlib.Core.List.{List, [], ◌∷◌}
use lib.ListN.{length, get_or}
use lib.Dec.{ltb}
use native.Mathlib.Omega.{arith}
use borrow.Author.Tests.{le-leb, ltb-false}
use borrow.Author.Count.{below_more}
use Rattle.model.specs.Limits.{record_limits, within}
use Rattle.model.specs.Packets.{arrivals_from}
use Rattle.model.specs.Port.{all}
use Rattle.model.specs.Rules.{clear, or_else}
use Rattle.model.specs.Refusals.{slot_ok, value_ok, packet_refusal, packet_refusal_from}
use Rattle.checks.proofs.Tests.{all_each}
use Rattle.model.specs.declared.Marking.{Marking}
use Rattle.std.specs.Prelude.{Option, None}
use Rattle.trace.specs.Checked.{ok_of}
use Rattle.trace.specs.Fitting.{SlotsFit}

-- both of two tests failed to find anything
left_none : (a b : Bool) → a || b ≡ false → a ≡ false
left_none true b e = e
left_none false b e = refl

right_none : (a b : Bool) → a || b ≡ false → b ≡ false
right_none true b e = absurd (let z : ◌≡◌ {A = ℕ} 0 1 = cc in omega arith)
right_none false b e = e

walk_clear : (ok : ℕ → Bool) (before n : ℕ) (slots values : List ℕ) → length values ≡ length slots
    → ((k : ℕ) → k < length slots → slot_ok (record { 0 = get_or (before ∷ slots) k 0 }) (record { 0 = get_or slots k 0 }) ≡ true)
    → ((k : ℕ) → k < length values → ok (get_or values k 0) ≡ true)
    → packet_refusal_from ok (record { 0 = before }) (arrivals_from n slots values) ≡ clear
unfolding packet_refusal_from arrivals_from or_else
walk_clear ok before n [] values l s v = refl
walk_clear ok before n (slot ∷ slots) [] l s v = refl
walk_clear ok before n (slot ∷ slots) (value ∷ values) l s v =
    rw (s 0 (omega arith), v 0 (omega arith))
    (walk_clear ok slot (suc n) slots values (omega arith) (λ k h. s (suc k) (suc-le-suc h)) (λ k h. v (suc k) (suc-le-suc h)))

pub plain_clear : {taken : Option Marking} (slots values : List ℕ) → taken ≡ None → length values ≡ length slots → SlotsFit slots (length slots)
    → all value_ok values ≡ true → packet_refusal (ok_of taken) slots values ≡ clear
plain_clear slots values is l s v = rw is (walk_clear value_ok 0 1 slots values l s (all_each value_ok values v))

pub slots_more : (slots : List ℕ) (i last : ℕ) {bad bad' : Bool} → last ≡ get_or (0 ∷ slots) i 0 → (bad ≡ false → SlotsFit slots i)
    → bad' ≡ (bad || ltb (get_or slots i 0) 1 || ltb record_limits.slot (get_or slots i 0) || ltb (get_or slots i 0) last)
    → bad' ≡ false → SlotsFit slots (i + 1)
unfolding within
slots_more slots i last {bad} e before is none =
    let all = sym is ∙ none in
    let three = left_none (bad || ltb (get_or slots i 0) 1 || ltb record_limits.slot (get_or slots i 0)) _ all in
    let two = left_none (bad || ltb (get_or slots i 0) 1) _ three in
    below_more (λ (k : ℕ). slot_ok (record { 0 = get_or (0 ∷ slots) k 0 }) (record { 0 = get_or slots k 0 }) ≡ true) i (before (left_none bad _ two))
    (rw (
      le-leb 1 (get_or slots i 0) (ltb-false _ _ (right_none bad _ two)),
      le-leb (get_or slots i 0) record_limits.slot (ltb-false _ _ (right_none (bad || ltb (get_or slots i 0) 1) _ three)),
      ← e,
      le-leb last (get_or slots i 0) (ltb-false _ _ (right_none (bad || ltb (get_or slots i 0) 1 || ltb record_limits.slot (get_or slots i 0)) _ all)),
    )
    refl)
