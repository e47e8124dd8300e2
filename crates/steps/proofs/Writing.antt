-- Entries written into a list from a place on: what was written first is covered by what is written over it, entries written over themselves change nothing,
-- and a part that has moved down is written at its new place.
use Prim.Native.Nat.{ℕ, suc, ◌+◌, ◌≤◌, ◌<◌}
use mathlib.Core.Path.{◌≡◌, refl, sym, ap, ◌∙◌}
use mathlib.Core.List.{List, [], ◌∷◌, ◌++◌, append_assoc}
use native.Mathlib.Omega.{arith}
use native.Mathlib.Nat.{add-zero, add-suc, suc-add}
use lib.ListN.{length, take, drop, set, length-drop, take-append-drop}
use lib.Seq.{sets, sets-eq, paste, set-set, set_comm, take_at, drop_at, take-add, length-take-le}

-- an entry before those that are written
set_before : (list : List ℕ) (i j x : ℕ) (more : List ℕ) → i < j → set (sets list j more) i x ≡ sets (set list i x) j more
set_before list i j x [] h = refl
set_before list i j x (y ∷ more) h =
    set_before (set list j y) i (suc j) x more (omega arith)
    ∙ ap (λ (l : List ℕ). sets l (suc j) more) (set_comm list j i y x (λ e. omega arith))

-- what is written over all of it covers it
pub sets_over : (list : List ℕ) (i : ℕ) (first second : List ℕ) → length first ≤ length second → sets (sets list i first) i second ≡ sets list i second
sets_over list i [] second h = refl
sets_over list i (x ∷ first) [] h = absurd (omega arith)
sets_over list i (x ∷ first) (y ∷ second) h =
    ap (λ (l : List ℕ). sets l (suc i) second) (set_before (set list i x) i (suc i) y first (omega arith) ∙ ap (λ (l : List ℕ). sets l (suc i) first) (set-set list i x y))
    ∙ sets_over (set list i y) (suc i) first second (omega arith)

-- one part, and the other behind it
pub sets_both : (list : List ℕ) (i : ℕ) (first second : List ℕ) → sets list i (first ++ second) ≡ sets (sets list i first) (i + length first) second
sets_both list i [] second = ap (λ (k : ℕ). sets list k second) (sym (add-zero i))
sets_both list i (x ∷ first) second =
    sets_both (set list i x) (suc i) first second
    ∙ ap (λ (k : ℕ). sets (sets (set list i x) (suc i) first) k second) (suc-add i (length first) ∙ sym (add-suc i (length first)))

module _ (list : List ℕ) (i : ℕ) where
  -- n entries of another list
  pub sets_part : (from : List ℕ) (n : ℕ) → i + n ≤ length list → n ≤ length from → paste list i from n ≡ sets list i (take n from)
  sets_part from n fits enough =
      let k = length-take-le n from enough in
      sym (sets-eq (take n from) list i (omega arith) ∙ ap (λ (m : ℕ). take i list ++ take n from ++ drop (i + m) list) k)

  -- its own
  pub sets_own : (n : ℕ) → i + n ≤ length list → sets list i (take n (drop i list)) ≡ list
  sets_own n fits =
      sym (sets_part (drop i list) n fits (rw length-drop (omega arith)))
      ∙ ap (λ (l : List ℕ). l ++ drop (i + n) list) (sym (take-add i n list))
      ∙ take-append-drop (i + n) list

  -- what is written is what stands there
  pub sets_read : (written : List ℕ) → i + length written ≤ length list → take (length written) (drop i (sets list i written)) ≡ written
  sets_read written fits =
      let before : length (take i list) ≡ i = length-take-le i list (omega arith) in
      ap (λ (l : List ℕ). take (length written) (drop i l)) (sets-eq written list i fits ∙ append_assoc (take i list) written (drop (i + length written) list))
      ∙ ap (take (length written)) (drop_at (take i list) (written ++ drop (i + length written) list) i before)
      ∙ take_at written (drop (i + length written) list) (length written) refl
