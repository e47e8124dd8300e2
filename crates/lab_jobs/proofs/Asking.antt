-- Jobs: what some words ask for, by how many they are and by the word at each place.
use Prim.Native.Nat.{ℕ, ◌-◌, ◌≤◌}
use mathlib.Core.Path.{◌≡◌, refl}
use mathlib.Core.Bool.{Bool, cond}
use mathlib.Core.List.{List, [], ◌∷◌}
use native.Mathlib.Omega.{arith}
use lib.ListN.{length, get_or, take, drop}
use lib.Dec.{eqb, leb}
use borrow.Author.Tests.{ne_eqb, le-leb}
use Rattle.std.proofs.Common.{Option, Some, None}
use Rattle.std.specs.Option.{option_map}
use Rattle.runs.specs.declared.Policy.{Policy}
use Rattle.runs.specs.declared.Policy.TheVariants.{Greedy, PG, Plan}
use Rattle.lab_jobs.specs.declared.jobs.Job.{Job}
use Rattle.lab_jobs.specs.declared.jobs.Job.TheVariants.{Table, Audit}
use Rattle.lab_jobs.specs.declared.words.Word.{Word}
use Rattle.lab_jobs.specs.declared.words.Word.TheVariants as word
use Rattle.lab_jobs.specs.Words.{number_of, beta_of}
use Rattle.lab_jobs.specs.Jobs.{all_betas, mf_by, policy_from, run_by, command_from}
use Rattle.lab_jobs.proofs.Wording.{behind_is}

abbrev at : List Word → ℕ → Word
at ws place = get_or ws place word.Other

abbrev policy_by : Word → List Word → Option Policy
policy_by word.Greedy ws = cond (eqb (length ws) 0) (Some Greedy) None
policy_by word.Pg ws = cond (eqb (length ws) 1) (option_map PG (beta_of (at ws 0))) None
policy_by word.Mf ws = cond (eqb (length ws) 3) (mf_by (number_of (at ws 0)) (number_of (at ws 1)) (number_of (at ws 2))) None
policy_by word.Plan ws = cond (eqb (length ws) 0) (Some Plan) None
policy_by _ ws = None

pub policy_is : (name : Word) (ws : List Word) → policy_from name ws ≡ policy_by name ws
unfolding policy_from
policy_is word.Greedy [] = refl
policy_is word.Greedy (a ∷ ws) = rw (ne_eqb (length (a ∷ ws)) 0 (λ e. absurd (omega arith))) refl
policy_is word.Pg [] = refl
policy_is word.Pg (a ∷ []) = refl
policy_is word.Pg (a ∷ b ∷ ws) = rw (ne_eqb (length (a ∷ b ∷ ws)) 1 (λ e. absurd (omega arith))) refl
policy_is word.Mf [] = refl
policy_is word.Mf (a ∷ []) = refl
policy_is word.Mf (a ∷ b ∷ []) = refl
policy_is word.Mf (a ∷ b ∷ c ∷ []) = refl
policy_is word.Mf (a ∷ b ∷ c ∷ d ∷ ws) = rw (ne_eqb (length (a ∷ b ∷ c ∷ d ∷ ws)) 3 (λ e. absurd (omega arith))) refl
policy_is word.Plan [] = refl
policy_is word.Plan (a ∷ ws) = rw (ne_eqb (length (a ∷ ws)) 0 (λ e. absurd (omega arith))) refl
policy_is word.Other ws = refl
policy_is word.Run ws = refl
policy_is word.Table ws = refl
policy_is word.Audit ws = refl
policy_is (word.Number n) ws = refl
policy_is (word.Beta b) ws = refl

abbrev command_by : Word → List Word → Option Job
command_by word.Run ws = cond (leb 2 (length ws)) (run_by (policy_from (at ws 0) (drop 2 ws)) (number_of (at ws 1))) None
command_by word.Table ws = cond (leb 1 (length ws)) (cond (all_betas (drop 1 ws)) (option_map Table (number_of (at ws 0))) None) None
command_by word.Audit ws = cond (eqb (length ws) 1) (option_map Audit (number_of (at ws 0))) None
command_by _ ws = None

pub command_is : (name : Word) (ws : List Word) → command_from name ws ≡ command_by name ws
unfolding command_from
command_is word.Run [] = refl
command_is word.Run (a ∷ []) = refl
command_is word.Run (a ∷ b ∷ ws) = rw (le-leb 2 (length (a ∷ b ∷ ws)) (omega arith)) refl
command_is word.Table [] = refl
command_is word.Table (a ∷ ws) = rw (le-leb 1 (length (a ∷ ws)) (omega arith)) refl
command_is word.Audit [] = refl
command_is word.Audit (a ∷ []) = refl
command_is word.Audit (a ∷ b ∷ ws) = rw (ne_eqb (length (a ∷ b ∷ ws)) 1 (λ e. absurd (omega arith))) refl
command_is word.Greedy ws = refl
command_is word.Pg ws = refl
command_is word.Mf ws = refl
command_is word.Plan ws = refl
command_is word.Other ws = refl
command_is (word.Number n) ws = refl
command_is (word.Beta b) ws = refl

module _ {name : Word} (ws : List Word) where
  pub run_asked : name ≡ word.Run → 2 ≤ length ws → {policy : Option Policy} {room : Option ℕ} → policy ≡ policy_from (at ws 0) (take (length ws - 2) (drop 2 ws))
      → room ≡ number_of (at ws 1) → run_by policy room ≡ command_from name ws
  run_asked is more p r = rw (p, r, behind_is 2 ws, command_is name ws, is, le-leb 2 (length ws) more) refl

  pub table_asked : name ≡ word.Table → 1 ≤ length ws → {betas : Bool} {room : Option ℕ} → betas ≡ all_betas (take (length ws - 1) (drop 1 ws)) → room ≡ number_of (at ws 0)
      → cond betas (option_map Table room) None ≡ command_from name ws
  table_asked is more b r = rw (b, r, behind_is 1 ws, command_is name ws, is, le-leb 1 (length ws) more) refl
