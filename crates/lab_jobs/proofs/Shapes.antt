-- What kinds of words ask for, by their shape: `run greedy ROOM`, `run pg ROOM BETA`, `run mf ROOM LO HI R`, `run plan ROOM`, `table ROOM BETA..`,
-- `audit ROOM`, or nothing.
use Prim.Native.Nat.{ℕ, suc}
use mathlib.Core.Path.{◌≡◌, refl, ◌∙◌}
use mathlib.Core.Bool.{Bool, true, false, cond, ◌&&◌, and-false}
use mathlib.Core.List.{List, [], ◌∷◌}
use native.Mathlib.Omega.{arith}
use lib.ListN.{get_or, take, drop}
use Rattle.std.proofs.Common.{Option, Some, None}
use Rattle.std.proofs.lemmas.Bool.Decides.{nat_tests}
use Rattle.std.specs.Prelude.{◌==◌}
use Rattle.std.specs.Option.{option_map}
use Rattle.field.specs.Fields.{same}
use Rattle.model.specs.declared.Beta.{Beta}
use Rattle.runs.specs.declared.Policy.{Policy}
use Rattle.runs.specs.declared.Policy.TheVariants.{Greedy, PG, MF, Plan}
use Rattle.lab_jobs.specs.declared.jobs.Job.{Job}
use Rattle.lab_jobs.specs.declared.jobs.Job.TheVariants.{Run, Table, Audit}
use Rattle.lab_jobs.specs.declared.words.Word.{Word}
use Rattle.lab_jobs.specs.declared.words.Word.TheVariants as word
use Rattle.lab_jobs.specs.Words.{number_of, beta_of, word_of_kind, words_of}
use Rattle.lab_jobs.specs.Jobs.{mf_by, policy_from, run_by, command_from, job_from, only_betas, job_by_kinds}
use Rattle.lab_jobs.proofs.Listing.{betas_are}

-- what a word of a kind is
module _ (k f s : ℕ) where
  number_kind : number_of (word_of_kind k f s) ≡ cond (k == 8) (Some f) None
  unfolding word_of_kind
  number_kind = grind (arith, nat_tests)

  beta_kind : beta_of (word_of_kind k f s) ≡ cond (k == 9) (Some (record { num = f; den = s })) None
  unfolding word_of_kind
  beta_kind = grind (arith, nat_tests)

  policy_kind : (ws : List Word) → policy_from (word_of_kind k f s) ws
      ≡ cond (k == 4) (policy_from word.Greedy ws)
      (cond (k == 5) (policy_from word.Pg ws) (cond (k == 6) (policy_from word.Mf ws) (cond (k == 7) (policy_from word.Plan ws) None)))
  unfolding word_of_kind policy_from
  policy_kind ws = grind (arith, nat_tests)

  command_kind : (ws : List Word) → command_from (word_of_kind k f s) ws
      ≡ cond (k == 1) (command_from word.Run ws) (cond (k == 2) (command_from word.Table ws) (cond (k == 3) (command_from word.Audit ws) None))
  unfolding word_of_kind command_from
  command_kind ws = grind (arith, nat_tests)

-- a policy's parameters, by their kinds
greedy_shape : (ks fs ss : List ℕ) → policy_from word.Greedy (words_of ks fs ss) ≡ cond (same ks []) (Some Greedy) None
unfolding policy_from words_of same
greedy_shape [] fs ss = refl
greedy_shape (k ∷ ks) fs ss = refl

plan_shape : (ks fs ss : List ℕ) → policy_from word.Plan (words_of ks fs ss) ≡ cond (same ks []) (Some Plan) None
unfolding policy_from words_of same
plan_shape [] fs ss = refl
plan_shape (k ∷ ks) fs ss = refl

abbrev pg_at : List ℕ → List ℕ → Policy
pg_at fs ss = PG (record { num = get_or fs 0 0; den = get_or ss 0 0 })

abbrev mf_at : List ℕ → Policy
mf_at fs = MF (record { lo = get_or fs 0 0; hi = get_or (drop 1 fs) 0 0; r = get_or (drop 1 (drop 1 fs)) 0 0 })

pg_of : (t : Bool) (beta : Beta) → option_map PG (cond t (Some beta) None) ≡ cond (t && true) (Some (PG beta)) None
pg_of true beta = refl
pg_of false beta = refl

pg_shape : (ks fs ss : List ℕ) → policy_from word.Pg (words_of ks fs ss) ≡ cond (same ks (9 ∷ [])) (Some (pg_at fs ss)) None
unfolding policy_from words_of same
pg_shape [] fs ss = refl
pg_shape (k ∷ []) fs ss = rw (beta_kind k (get_or fs 0 0) (get_or ss 0 0)) (pg_of (k == 9) (record { num = get_or fs 0 0; den = get_or ss 0 0 }))
pg_shape (k ∷ l ∷ ks) fs ss = rw (and-false (k == 9)) refl

mf_of : (t u v : Bool) (lo hi r : ℕ) → mf_by (cond t (Some lo) None) (cond u (Some hi) None) (cond v (Some r) None)
    ≡ cond (t && (u && (v && true))) (Some (MF (record { lo = lo; hi = hi; r = r }))) None
mf_of true true true lo hi r = refl
mf_of true true false lo hi r = refl
mf_of true false v lo hi r = refl
mf_of false u v lo hi r = refl

mf_shape : (ks fs ss : List ℕ) → policy_from word.Mf (words_of ks fs ss) ≡ cond (same ks (8 ∷ 8 ∷ 8 ∷ [])) (Some (mf_at fs)) None
unfolding policy_from words_of same
mf_shape [] fs ss = refl
mf_shape (k ∷ []) fs ss = rw (and-false (k == 8)) refl
mf_shape (k ∷ l ∷ []) fs ss = rw (and-false (l == 8), and-false (k == 8)) refl
mf_shape (k ∷ l ∷ m ∷ []) fs ss =
    let f1 = drop 1 fs in
    let s1 = drop 1 ss in
    let f2 = drop 1 f1 in
    let s2 = drop 1 s1 in
    rw (number_kind k (get_or fs 0 0) (get_or ss 0 0), number_kind l (get_or f1 0 0) (get_or s1 0 0), number_kind m (get_or f2 0 0) (get_or s2 0 0))
    (mf_of (k == 8) (l == 8) (m == 8) (get_or fs 0 0) (get_or f1 0 0) (get_or f2 0 0))
mf_shape (k ∷ l ∷ m ∷ n ∷ ks) fs ss = rw (and-false (m == 8), and-false (l == 8), and-false (k == 8)) refl

-- one name at most is that of a policy
module _ (a b room : ℕ) (x y z v : Policy) where
  run_by_name : (g p m : Bool)
      → run_by
      (cond (a == 4) (cond g (Some x) None)
      (cond (a == 5) (cond p (Some y) None) (cond (a == 6) (cond m (Some z) None) (cond (a == 7) (cond g (Some v) None) None))))
      (cond (b == 8) (Some room) None)
      ≡ cond ((a == 4) && ((b == 8) && g)) (Some (Run x room))
      (cond ((a == 5) && ((b == 8) && p)) (Some (Run y room))
      (cond ((a == 6) && ((b == 8) && m)) (Some (Run z room)) (cond ((a == 7) && ((b == 8) && g)) (Some (Run v room)) None)))
  run_by_name g p m = grind (arith, nat_tests)

module _ (ks fs ss : List ℕ) where
  abbrev run_by_shape : Option Job
  run_by_shape =
      let room = get_or (drop 1 fs) 0 0 in
      cond (same ks (4 ∷ 8 ∷ [])) (Some (Run Greedy room))
      (cond (same ks (5 ∷ 8 ∷ 9 ∷ [])) (Some (Run (pg_at (drop 1 (drop 1 fs)) (drop 1 (drop 1 ss))) room))
      (cond (same ks (6 ∷ 8 ∷ 8 ∷ 8 ∷ 8 ∷ [])) (Some (Run (mf_at (drop 1 (drop 1 fs))) room)) (cond (same ks (7 ∷ 8 ∷ [])) (Some (Run Plan room)) None)))

run_shape : (ks fs ss : List ℕ) → command_from word.Run (words_of ks fs ss) ≡ run_by_shape ks fs ss
unfolding command_from words_of same
run_shape [] fs ss = refl
run_shape (a ∷ []) fs ss = rw (and-false (a == 4), and-false (a == 5), and-false (a == 6), and-false (a == 7)) refl
run_shape (a ∷ b ∷ ks) fs ss =
    let f1 = drop 1 fs in
    let s1 = drop 1 ss in
    let f2 = drop 1 f1 in
    let s2 = drop 1 s1 in
    rw (policy_kind a (get_or fs 0 0) (get_or ss 0 0) (words_of ks f2 s2), number_kind b (get_or f1 0 0) (get_or s1 0 0))
    (rw (greedy_shape ks f2 s2, pg_shape ks f2 s2, mf_shape ks f2 s2, plan_shape ks f2 s2)
    (run_by_name a b (get_or f1 0 0) Greedy (pg_at f2 s2) (mf_at f2) Plan (same ks []) (same ks (9 ∷ [])) (same ks (8 ∷ 8 ∷ 8 ∷ []))))

table_of : (t u : Bool) (room : ℕ) → cond u (option_map Table (cond t (Some room) None)) None ≡ cond ((t && true) && u) (Some (Table room)) None
table_of true true room = refl
table_of true false room = refl
table_of false true room = refl
table_of false false room = refl

table_shape : (ks fs ss : List ℕ) → command_from word.Table (words_of ks fs ss)
    ≡ cond (same (take 1 ks) (8 ∷ []) && only_betas (drop 1 ks)) (Some (Table (get_or fs 0 0))) None
unfolding command_from words_of same
table_shape [] fs ss = refl
table_shape (a ∷ ks) fs ss =
    rw (betas_are ks (drop 1 fs) (drop 1 ss), number_kind a (get_or fs 0 0) (get_or ss 0 0))
    (table_of (a == 8) (only_betas ks) (get_or fs 0 0))

audit_of : (t : Bool) (room : ℕ) → option_map Audit (cond t (Some room) None) ≡ cond (t && true) (Some (Audit room)) None
audit_of true room = refl
audit_of false room = refl

audit_shape : (ks fs ss : List ℕ) → command_from word.Audit (words_of ks fs ss) ≡ cond (same ks (8 ∷ [])) (Some (Audit (get_or fs 0 0))) None
unfolding command_from words_of same
audit_shape [] fs ss = refl
audit_shape (a ∷ []) fs ss = rw (number_kind a (get_or fs 0 0) (get_or ss 0 0)) (audit_of (a == 8) (get_or fs 0 0))
audit_shape (a ∷ b ∷ ks) fs ss = rw (and-false (a == 8)) refl

-- one name at most is that of a command
by_command : (k : ℕ) (x y z v t a : Job) (g p m n u b w : Bool)
    → cond (k == 1) (cond g (Some x) (cond p (Some y) (cond m (Some z) (cond n (Some v) None))))
    (cond (k == 2) (cond (u && b) (Some t) None) (cond (k == 3) (cond w (Some a) None) None))
    ≡ cond ((k == 1) && g) (Some x)
    (cond ((k == 1) && p) (Some y)
    (cond ((k == 1) && m) (Some z)
    (cond ((k == 1) && n) (Some v) (cond (((k == 2) && u) && b) (Some t) (cond ((k == 3) && w) (Some a) None)))))
by_command k x y z v t a g p m n u b w = grind (arith, nat_tests)

-- the numbers behind the first
next : (l : List ℕ) (i : ℕ) → get_or (drop 1 l) i 0 ≡ get_or l (suc i) 0
next [] i = refl
next (a ∷ l) i = refl

-- the job of some words in parallel lists is that of their shape
-- the job of some words is that of their kinds
pub shapes : (ks fs ss : List ℕ) → job_from (words_of ks fs ss) ≡ job_by_kinds ks fs ss
unfolding job_from words_of same job_by_kinds
shapes [] fs ss = refl
shapes (k ∷ ks) fs ss =
    let f1 = drop 1 fs in
    let f2 = drop 1 f1 in
    let f3 = drop 1 f2 in
    let s1 = drop 1 ss in
    let s2 = drop 1 s1 in
    let one = next fs 0 in
    let two = next f1 0 ∙ next fs 1 in
    let three = next f2 0 ∙ next f1 1 ∙ next fs 2 in
    let four = next f3 0 ∙ next f2 1 ∙ next f1 2 ∙ next fs 3 in
    let five = next (drop 1 f3) 0 ∙ next f3 1 ∙ next f2 2 ∙ next f1 3 ∙ next fs 4 in
    let den = next s2 0 ∙ next s1 1 ∙ next ss 2 in
    rw (command_kind k (get_or fs 0 0) (get_or ss 0 0) (words_of ks f1 s1), run_shape ks f1 s1, table_shape ks f1 s1, audit_shape ks f1 s1)
    (rw (one, two, three, four, five, den)
    (by_command k _ _ _ _ _ _ (same ks (4 ∷ 8 ∷ [])) (same ks (5 ∷ 8 ∷ 9 ∷ [])) (same ks (6 ∷ 8 ∷ 8 ∷ 8 ∷ 8 ∷ [])) (same ks (7 ∷ 8 ∷ []))
    (same (take 1 ks) (8 ∷ [])) (only_betas (drop 1 ks)) (same ks (8 ∷ []))))
