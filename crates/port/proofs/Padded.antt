-- A list that is padded with zeros to n places: what a store behind its entries makes of it, and what taking one entry out does.
use Prim.Native.Nat.{ℕ, zero, suc, ◌+◌, ◌-◌, ◌≤◌, ◌<◌}
use mathlib.Core.Path.{◌≡◌, refl, sym, ap, ap₂, ◌∙◌}
use mathlib.Core.Bool.{Bool, true, ◌&&◌}
use mathlib.Core.List.{List, [], ◌∷◌, ◌++◌, append_assoc}
use native.Mathlib.Numerals.{add-one}
use native.Mathlib.Omega.{arith}
use lib.ListN.{length, get_or, take, drop, set, replicate, length-append, length-take, length-drop, length-replicate, take-append-drop, drop_of_length-le}
use lib.Seq.{take-append-le, drop-append-le, take_at, drop-cons, set_at}
use lib.Dec.{eqb}
use borrow.Author.Tests.{eqb-true}
use Rattle.checks.proofs.Tests.{left_part, right_part}
use Rattle.model.specs.Port.{all}
use Rattle.queue.specs.Slide.{slid}
use Rattle.queue.proofs.Moving.{slid_moved}

-- two tests that both hold
pub both : (s t : Bool) → s && t ≡ true → (s ≡ true) × (t ≡ true)
both s t e = (left_part s t e, right_part s t e)

zeros : (list : List ℕ) → all (eqb 0) list ≡ true → list ≡ replicate (length list) 0
unfolding all
zeros [] e = refl
zeros (v ∷ list) e =
    let tests = both _ _ e in
    ap₂ (λ (w : ℕ) (rest : List ℕ). w ∷ rest) (sym (eqb-true _ _ tests.0)) (zeros list tests.1)

pub zeros_pass : (n : ℕ) → all (eqb 0) (replicate n 0) ≡ true
unfolding all
zeros_pass zero = refl
zeros_pass (suc n) = zeros_pass n

module _ (n : ℕ) where
  abbrev pub padded : List ℕ → List ℕ
  padded list = list ++ replicate (n - length list) 0

  -- zero from a place on: the entries before it, padded
  pub is_padded : (held : ℕ) (list : List ℕ) → length list ≡ n → held ≤ n → all (eqb 0) (drop held list) ≡ true → list ≡ padded (take held list)
  is_padded held list whole fits zero-there =
      let left : length (drop held list) ≡ n - length (take held list) = simp (length-drop, length-take) (omega arith) in
      sym (take-append-drop held list)
      ∙ ap (λ (rest : List ℕ). take held list ++ rest) (zeros (drop held list) zero-there ∙ ap (λ (k : ℕ). replicate k 0) left)

  pub padded_length : (list : List ℕ) → length list ≤ n → length (padded list) ≡ n
  padded_length list fits = simp (length-append, length-replicate) (omega arith)

  pub stored : (list : List ℕ) (entry : ℕ) → length list < n → set (padded list) (length list) entry ≡ padded (list ++ entry ∷ [])
  stored list entry free =
      let m = n - suc (length list) in
      let more : n - length list ≡ suc m = omega arith in
      let less : n - length (list ++ entry ∷ []) ≡ m = simp length-append (omega arith) in
      ap (λ (k : ℕ). set (list ++ replicate k 0) (length list) entry) more
      ∙ set_at list 0 (replicate m 0) entry (length list) refl
      ∙ sym (append_assoc list (entry ∷ []) (replicate m 0))
      ∙ ap (λ (k : ℕ). list ++ entry ∷ [] ++ replicate k 0) (sym less)

  module _ (list : List ℕ) (place : ℕ) (fits : length list ≤ n) (inside : place < length list) where
    abbrev rest : List ℕ
    rest = take place list ++ drop (suc place) list

    -- the entries behind the place have moved down; the last of them stands there twice
    moved : slid (place + 1) (length list) place (padded list) ≡ rest ++ get_or list (length list - 1) 0 ∷ replicate (n - length list) 0
    moved =
        let zs : List ℕ = replicate (n - length list) 0 in
        let k = length list - (place + 1) in
        let last = length list - 1 in
        let behind : drop (place + 1) (padded list) ≡ drop (suc place) list ++ zs =
        ap (λ (i : ℕ). drop i (padded list)) (add-one place) ∙ drop-append-le (suc place) list zs (omega arith) in
        let end : place + k ≡ last = omega arith in
        let final : drop last list ≡ get_or list last 0 ∷ [] =
        drop-cons list last 0 (omega arith) ∙ ap (λ (l : List ℕ). get_or list last 0 ∷ l) (drop_of_length-le list {i = suc last} (omega arith)) in
        slid_moved (place + 1) (length list) place (padded list) (omega arith) (omega arith) (omega (arith, padded_length list fits))
        ∙ ap₂ ◌++◌
        (ap₂ ◌++◌ (take-append-le place list zs (omega arith))
        (ap (take k) behind ∙ take_at (drop (suc place) list) zs k (rw length-drop (omega arith))))
        (ap (λ (i : ℕ). drop i (padded list)) end
        ∙ drop-append-le last list zs (omega arith)
        ∙ ap (λ (l : List ℕ). l ++ zs) final)

    pub taken_out : set (slid (place + 1) (length list) place (padded list)) (length list - 1) 0 ≡ padded rest
    taken_out =
        let short : length rest ≡ length list - 1 = simp (length-append, length-take, length-drop) (omega arith) in
        let more : suc (n - length list) ≡ n - length rest = omega arith in
        ap (λ (l : List ℕ). set l (length list - 1) 0) moved
        ∙ set_at rest (get_or list (length list - 1) 0) (replicate (n - length list) 0) 0 (length list - 1) short
        ∙ ap (λ (k : ℕ). rest ++ replicate k 0) more
