-- Each argument more is a word more in the list; and each beta among the words behind the room is one more in the list of betas.
use Prim.Native.Nat.{ℕ, ◌+◌, ◌-◌, ◌<◌, ◌≤◌}
use mathlib.Core.Path.{◌≡◌, refl, sym, ap, ap₂, ◌∙◌}
use mathlib.Core.Bool.{true}
use mathlib.Core.List.{List, [], ◌∷◌, ◌++◌, map, map-append, append-nil}
use native.Mathlib.Numerals.{add-one}
use native.Mathlib.Omega.{arith}
use lib.ListN.{length, get_or, take, drop, set, length-drop}
use lib.Seq.{take-suc, take-suc-set, take_all}
use Rattle.std.proofs.Common.{Option, Some, None}
use Rattle.std.specs.List.{filter_map, cons_option}
use Rattle.std.proofs.lemmas.List.Elements.{filter_map-append}
use Rattle.model.specs.declared.Beta.{Beta}
use Rattle.lab_jobs.specs.declared.words.Word.{Word}
use Rattle.lab_jobs.specs.declared.words.Word.TheVariants as word
use Rattle.lab_jobs.specs.Words.{beta_of, word_of}
use Rattle.lab_jobs.specs.Jobs.{all_betas}
use Rattle.lab_jobs.proofs.Wording.{behind_is}
use Rattle.lab.specs.Heard.{betas_in, Heard}

pub heard_more : (i : ℕ) (words : List Word) (bytes : List ℕ) (w : Word) → i < length words → w ≡ word_of bytes → Heard i words
    → Heard (i + 1) (set words i w)
heard_more i words bytes w inside is before =
    record {
      arguments = before.arguments ++ bytes ∷ [];
      are =
          rw (add-one i) (take-suc-set words i w inside)
          ∙ ap₂ (λ (l : List Word) (v : Word). l ++ v ∷ []) before.are is
          ∙ sym (map-append word_of before.arguments (bytes ∷ []));
    }

pub heard_at : (i count : ℕ) (words : List Word) → i ≡ count → Heard i words → Heard count words
heard_at i count words e before = rw e at before

-- the betas among the first words of some
pub record Copied (behind : List Word) (i : ℕ) (betas : List Beta) (count : ℕ) : Type 0 where
  pub few : count ≤ i
  pub are : take count betas ≡ filter_map beta_of (take i behind)

module _ (behind : List Word) (i : ℕ) (more : i < length behind) where
  copied_step : (found : Option Beta) → found ≡ beta_of (get_or behind i word.Other)
      → filter_map beta_of (take (i + 1) behind) ≡ filter_map beta_of (take i behind) ++ cons_option found []
  copied_step found is =
      let one : take (i + 1) behind ≡ take i behind ++ (get_or behind i word.Other ∷ []) = rw (add-one i) (take-suc behind i word.Other more) in
      ap (filter_map beta_of) one
      ∙ filter_map-append beta_of (take i behind) (get_or behind i word.Other ∷ [])
      ∙ ap (λ (o : Option Beta). filter_map beta_of (take i behind) ++ cons_option o []) (sym is)

  pub copied_beta : (betas : List Beta) (count : ℕ) (beta : Beta) → count < length betas → Some beta ≡ beta_of (get_or behind i word.Other)
      → Copied behind i betas count → Copied behind (i + 1) (set betas count beta) (count + 1)
  copied_beta betas count beta inside is before =
      record {
        few = omega (arith, before.few);
        are =
            rw (add-one count) (take-suc-set betas count beta inside)
            ∙ ap (λ (l : List Beta). l ++ beta ∷ []) before.are
            ∙ sym (copied_step (Some beta) is);
      }

  pub copied_other : (betas : List Beta) (count : ℕ) → None ≡ beta_of (get_or behind i word.Other) → Copied behind i betas count
      → Copied behind (i + 1) betas count
  copied_other betas count is before =
      record { few = omega (arith, before.few); are = before.are ∙ sym (append-nil _) ∙ sym (copied_step None is) }

module _ (words : List Word) where
  pub behind_length : length (take (length words - 2) (drop 2 words)) ≡ length words - 2
  behind_length = ap length (behind_is 2 words) ∙ length-drop 2 words

  pub copied_all : (i : ℕ) (betas : List Beta) (count : ℕ) → length (take (length words - 2) (drop 2 words)) ≤ i
      → Copied (take (length words - 2) (drop 2 words)) i betas count → take count betas ≡ betas_in words
  copied_all i betas count done copied =
      copied.are ∙ ap (filter_map beta_of) (take_all i (take (length words - 2) (drop 2 words)) done ∙ behind_is 2 words)

-- where all words are betas, as those behind a table's room are, none is left out
pub table_betas : (words : List Word) → all_betas words ≡ true → map word.Beta (filter_map beta_of words) ≡ words
table_betas [] all = refl
table_betas (word.Beta beta ∷ words) all = ap (λ (l : List Word). word.Beta beta ∷ l) (table_betas words all)
table_betas (word.Other ∷ words) all = cc
table_betas (word.Run ∷ words) all = cc
table_betas (word.Table ∷ words) all = cc
table_betas (word.Audit ∷ words) all = cc
table_betas (word.Greedy ∷ words) all = cc
table_betas (word.Pg ∷ words) all = cc
table_betas (word.Mf ∷ words) all = cc
table_betas (word.Plan ∷ words) all = cc
table_betas (word.Number n ∷ words) all = cc
