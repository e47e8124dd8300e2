-- What the arguments ask for.
use Rattle.std.specs.Prelude.{ℕ, Bool, cond, ◌&&◌, List, [], ◌∷◌, map, length, get_or, take, drop, ◌==◌, eqb, Option, Some, None, is_some}
use Rattle.std.specs.Option.{option_map}
use Rattle.std.specs.List.{list_all}
use Rattle.field.specs.Fields.{same}
use Rattle.runs.specs.declared.Policy.{Policy}
use Rattle.runs.specs.declared.Policy.TheVariants.{Greedy, PG, MF, Plan}
use Rattle.lab_jobs.specs.declared.jobs.Job.{Job}
use Rattle.lab_jobs.specs.declared.jobs.Job.TheVariants.{Run, Table, Audit}
use Rattle.lab_jobs.specs.declared.words.Word.{Word}
use Rattle.lab_jobs.specs.declared.words.Word.TheVariants as word
use Rattle.lab_jobs.specs.Words.{number_of, beta_of, word_of}

abbrev pub all_betas : List Word → Bool
all_betas words = list_all (λ (w : Word). is_some (beta_of w)) words

-- MF's numbers
abbrev pub mf_by : Option ℕ → Option ℕ → Option ℕ → Option Policy
mf_by (Some lo) (Some hi) (Some r) = Some (MF (record { lo = lo; hi = hi; r = r }))
mf_by _ _ _ = None

-- a policy by its name and its parameters: `greedy`, `pg BETA`, `mf LO HI R`, `plan`
unfoldable pub policy_from : Word → List Word → Option Policy
policy_from word.Greedy [] = Some Greedy
policy_from word.Pg (beta ∷ []) = option_map PG (beta_of beta)
policy_from word.Mf (lo ∷ hi ∷ r ∷ []) = mf_by (number_of lo) (number_of hi) (number_of r)
policy_from word.Plan [] = Some Plan
policy_from _ _ = None

abbrev pub run_by : Option Policy → Option ℕ → Option Job
run_by (Some policy) (Some room) = Some (Run policy room)
run_by _ _ = None

-- a command by its name and its parameters: `run POLICY ROOM`, with the policy's parameters behind the room; `table ROOM BETA..`; `audit ROOM`
unfoldable pub command_from : Word → List Word → Option Job
command_from word.Run (policy ∷ room ∷ parameters) = run_by (policy_from policy parameters) (number_of room)
command_from word.Table (room ∷ betas) = cond (all_betas betas) (option_map Table (number_of room)) None
command_from word.Audit (room ∷ []) = option_map Audit (number_of room)
command_from _ _ = None

unfoldable pub job_from : List Word → Option Job
job_from [] = None
job_from (name ∷ parameters) = command_from name parameters

-- the job of some arguments
abbrev pub job_of : List (List ℕ) → Option Job
job_of arguments = job_from (map word_of arguments)

-- kinds of words that are betas
abbrev pub only_betas : List ℕ → Bool
only_betas kinds = list_all (λ (kind : ℕ). kind == 9) kinds

-- the kinds of words that may stand behind six: betas behind a table's, none behind another job's
abbrev pub may_follow : Job → List ℕ → Bool
may_follow (Table room) kinds = only_betas kinds
may_follow _ kinds = eqb (length kinds) 0

-- the job of some kinds of words, with their numbers in parallel lists, by place: `run greedy ROOM`, `run pg ROOM BETA`, `run mf ROOM LO HI R`,
-- `run plan ROOM`, `table ROOM BETA..`, `audit ROOM`, or nothing. A number that is not there is 0
unfoldable pub job_by_kinds : List ℕ → List ℕ → List ℕ → Option Job
job_by_kinds kinds firsts seconds =
    let at : ℕ → ℕ = λ place. get_or firsts place 0 in
    cond (same kinds (1 ∷ 4 ∷ 8 ∷ [])) (Some (Run Greedy (at 2)))
    (cond (same kinds (1 ∷ 5 ∷ 8 ∷ 9 ∷ [])) (Some (Run (PG (record { num = at 3; den = get_or seconds 3 0 })) (at 2)))
    (cond (same kinds (1 ∷ 6 ∷ 8 ∷ 8 ∷ 8 ∷ 8 ∷ [])) (Some (Run (MF (record { lo = at 3; hi = at 4; r = at 5 })) (at 2)))
    (cond (same kinds (1 ∷ 7 ∷ 8 ∷ [])) (Some (Run Plan (at 2)))
    (cond (same (take 2 kinds) (2 ∷ 8 ∷ []) && only_betas (drop 2 kinds)) (Some (Table (at 1)))
    (cond (same kinds (3 ∷ 8 ∷ [])) (Some (Audit (at 1))) None)))))
