-- Betas in parallel lists: each pair of a numerator and a denominator is one more in the list of betas.
use Prim.Native.Nat.{ℕ, ◌+◌, ◌≤◌, ◌<◌}
use mathlib.Core.Path.{◌≡◌, refl, sym, ap, ◌∙◌}
use mathlib.Core.List.{List, [], ◌∷◌, ◌++◌, append_assoc, append-nil}
use native.Mathlib.Numerals.{add-one}
use native.Mathlib.Omega.{arith}
use lib.ListN.{length, get_or, take, drop, set, drop_of_length-le}
use lib.Seq.{drop-cons, take-suc-set}
use lib.Dec.{ltb}
use borrow.Author.Tests.{eq-eqb, ne_eqb, lt-ltb}
use Rattle.laws.proofs.Cases.{cond_cases}
use Rattle.model.specs.declared.Beta.{Beta}
use Rattle.output.specs.Writing.{Wrote}
use Rattle.output.proofs.Writing.{wrote_same}
use Rattle.lab_table.specs.Table.{most_betas, table_limit, betas_from, table_spoken, table_of_lists_spoken}

module _ (nums dens : List ℕ) (i : ℕ) (betas : List Beta) where
  -- the first betas are those of the pairs so far
  pub record Paired : Type 0 where
    pub are : take i betas ++ betas_from (drop i nums) (drop i dens) ≡ betas_from nums dens

  pub paired_all : length nums ≡ i → Paired → take (length nums) betas ≡ betas_from nums dens
  unfolding betas_from
  paired_all done before =
      let most : length nums ≤ i = omega arith in
      rw done (sym (append-nil (take i betas)) ∙ rw (drop_of_length-le nums most) at before.are)

pub paired_turn : (nums dens : List ℕ) (i : ℕ) (betas : List Beta) → i < length nums → i < length dens → i < length betas → Paired nums dens i betas
    → Paired nums dens (i + 1) (set betas i (record { num = get_or nums i 0; den = get_or dens i 0 }))
unfolding betas_from
paired_turn nums dens i betas more both inside before =
    let beta : Beta = record { num = get_or nums i 0; den = get_or dens i 0 } in
    let left : betas_from (drop i nums) (drop i dens) ≡ beta ∷ betas_from (drop (i + 1) nums) (drop (i + 1) dens) =
    rw (add-one i, drop-cons nums i 0 more, drop-cons dens i 0 both) refl in
    record {
      are =
          ap (λ (l : List Beta). l ++ betas_from (drop (i + 1) nums) (drop (i + 1) dens)) (rw (add-one i) (take-suc-set betas i beta inside))
          ∙ append_assoc (take i betas) (beta ∷ []) (betas_from (drop (i + 1) nums) (drop (i + 1) dens))
          ∙ ap (λ (l : List Beta). take i betas ++ l) (sym left)
          ∙ before.are;
    }

pub pairs_length : (nums dens : List ℕ) → length nums ≤ length dens → length (betas_from nums dens) ≡ length nums
unfolding betas_from
pairs_length [] dens few = refl
pairs_length (num ∷ nums) [] few = absurd (omega arith)
pairs_length (num ∷ nums) (den ∷ dens) few = omega (arith, pairs_length nums dens (omega arith))

module _ (room : ℕ) (nums dens slots values out : List ℕ) where
  abbrev spoken : List ℕ
  spoken = table_of_lists_spoken room nums dens slots values out

  silent : [] ≡ spoken → Wrote 0 spoken out 0 out
  silent e = wrote_same e refl (record { inside = omega arith; written = refl; behind = refl })

  pub other_lengths : (length dens ≡ length nums → ⊥) → Wrote 0 spoken out 0 out
  unfolding table_of_lists_spoken
  other_lengths other = silent (rw (ne_eqb (length dens) (length nums) other) refl)

  module _ (same : length dens ≡ length nums) where
    pub pairs_spoken : table_spoken room (betas_from nums dens) slots values out ≡ spoken
    unfolding table_of_lists_spoken
    pairs_spoken = rw (eq-eqb (length dens) (length nums) same) refl

    pub many_pairs : most_betas < length nums → Wrote 0 spoken out 0 out
    unfolding table_spoken
    many_pairs many =
        let most : most_betas < length (betas_from nums dens) = omega (arith, pairs_length nums dens (omega arith)) in
        let none : [] ≡ table_spoken room (betas_from nums dens) slots values out =
        cond_cases (λ (text : List ℕ). [] ≡ text) (ltb (length out) table_limit) _ _ (λ t. refl)
        (λ t. rw (lt-ltb most_betas (length (betas_from nums dens)) most) refl) in
        silent (none ∙ pairs_spoken)

    pub pairs_wrote : {betas : List Beta} {next : ℕ} {out' : List ℕ} → betas ≡ betas_from nums dens
        → Wrote 0 (table_spoken room betas slots values out) out next out' → Wrote 0 spoken out next out'
    pairs_wrote are W =
        wrote_same (ap (λ (l : List Beta). table_spoken room l slots values out) are ∙ pairs_spoken) refl W
