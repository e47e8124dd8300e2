-- Words in parallel lists: the words of some kinds, one by one, and what may stand behind six of them.
use Prim.Native.Nat.{ℕ, ◌+◌, ◌≤◌, ◌<◌, min}
use mathlib.Core.Path.{◌≡◌, refl, sym, ap, ap₂, ◌∙◌}
use mathlib.Core.Bool.{Bool, true, false, cond, ◌&&◌}
use mathlib.Core.List.{List, [], ◌∷◌, ◌++◌, append_assoc, append-nil}
use native.Mathlib.Numerals.{add-one}
use native.Mathlib.Omega.{arith}
use lib.ListN.{length, get_or, take, drop, set, drop_of_length-le}
use lib.Seq.{take-suc-set, take_all}
use borrow.Author.Tests.{ne_eqb}
use Rattle.std.proofs.Common.{Option, Some, None}
use Rattle.std.proofs.lemmas.List.{get_or-drop, drop_more, drop-drop, take-append-drop}
use mathlib.Core.Logic.{◌⊎◌, inl, inr}
use Rattle.std.proofs.lemmas.Bool.{cases_lt}
use Rattle.std.proofs.lemmas.Bool.Decides.{nat_tests}
use Rattle.std.proofs.lemmas.List.{length-take-le}
use Rattle.std.specs.Prelude.{is_some, ◌==◌}
use Rattle.std.specs.Option.{option_map}
use Rattle.std.proofs.lemmas.List.Folds.{list_all-append}
use Rattle.runs.specs.declared.Policy.{Policy}
use Rattle.lab_jobs.specs.declared.jobs.Job.{Job}
use Rattle.lab_jobs.specs.declared.jobs.Job.TheVariants.{Run, Table, Audit}
use Rattle.lab_jobs.specs.declared.words.Word.{Word}
use Rattle.lab_jobs.specs.declared.words.Word.TheVariants as word
use Rattle.lab_jobs.specs.Words.{number_of, beta_of, word_of_kind, words_of}
use Rattle.lab_jobs.specs.Jobs.{all_betas, policy_from, run_by, command_from, job_from, only_betas, may_follow}

first_behind : (l : List ℕ) (i : ℕ) → get_or (drop i l) 0 0 ≡ get_or l i 0
first_behind l i =
    let same : i + 0 ≡ i = omega arith in
    get_or-drop i l 0 0 ∙ ap (λ (j : ℕ). get_or l j 0) same

-- the words behind the first of some
words_at : (kinds firsts seconds : List ℕ) (i : ℕ) → i < length kinds
    → words_of (drop i kinds) (drop i firsts) (drop i seconds)
    ≡ word_of_kind (get_or kinds i 0) (get_or firsts i 0) (get_or seconds i 0) ∷ words_of (drop (i + 1) kinds) (drop (i + 1) firsts) (drop (i + 1) seconds)
unfolding words_of
words_at kinds firsts seconds i more =
    rw (drop_more kinds i 0 more)
    (ap₂ (λ (w : Word) (l : List Word). w ∷ l) (ap₂ (word_of_kind (get_or kinds i 0)) (first_behind firsts i) (first_behind seconds i))
    (ap₂ (words_of (drop (i + 1) kinds)) (drop-drop 1 i firsts) (drop-drop 1 i seconds)))

module _ (kinds firsts seconds : List ℕ) (i : ℕ) (words : List Word) where
  -- the first words are those of the kinds so far
  pub record Put : Type 0 where
    pub are : take i words ++ words_of (drop i kinds) (drop i firsts) (drop i seconds) ≡ words_of kinds firsts seconds

  pub put_all : length kinds ≡ i → Put → take (length kinds) words ≡ words_of kinds firsts seconds
  unfolding words_of
  put_all done before =
      let most : length kinds ≤ i = omega arith in
      rw done (sym (append-nil (take i words)) ∙ rw (drop_of_length-le kinds most) at before.are)

pub put_turn : (kinds firsts seconds : List ℕ) (i : ℕ) (words : List Word) (w : Word) → i < length kinds → i < length words
    → w ≡ word_of_kind (get_or kinds i 0) (get_or firsts i 0) (get_or seconds i 0) → Put kinds firsts seconds i words
    → Put kinds firsts seconds (i + 1) (set words i w)
put_turn kinds firsts seconds i words w more inside is before =
    let rest : List Word = words_of (drop (i + 1) kinds) (drop (i + 1) firsts) (drop (i + 1) seconds) in
    record {
      are =
          ap (λ (l : List Word). l ++ rest) (rw (add-one i) (take-suc-set words i w inside))
          ∙ append_assoc (take i words) (w ∷ []) rest
          ∙ ap (λ (l : List Word). take i words ++ l) (ap (λ (v : Word). v ∷ rest) is ∙ sym (words_at kinds firsts seconds i more))
          ∙ before.are;
    }

-- whether a word of a kind is a beta
kind_beta : (kind first second : ℕ) → is_some (beta_of (word_of_kind kind first second)) ≡ (kind == 9)
unfolding word_of_kind
kind_beta kind first second = grind (arith, nat_tests)

pub betas_are : (kinds firsts seconds : List ℕ) → all_betas (words_of kinds firsts seconds) ≡ only_betas kinds
unfolding words_of
betas_are [] firsts seconds = refl
betas_are (kind ∷ kinds) firsts seconds =
    ap₂ (λ (t u : Bool). t && u) (kind_beta kind (get_or firsts 0 0) (get_or seconds 0 0)) (betas_are kinds (drop 1 firsts) (drop 1 seconds))

words_length : (kinds firsts seconds : List ℕ) → length (words_of kinds firsts seconds) ≡ length kinds
unfolding words_of
words_length [] firsts seconds = refl
words_length (kind ∷ kinds) firsts seconds = omega (arith, words_length kinds (drop 1 firsts) (drop 1 seconds))

-- the words behind the first kinds
record Behind (head behind firsts seconds : List ℕ) : Type 0 where
  rest : List Word
  are : words_of (head ++ behind) firsts seconds ≡ words_of head firsts seconds ++ rest
  betas : all_betas rest ≡ only_betas behind
  long : length rest ≡ length behind

behind_head : (head behind firsts seconds : List ℕ) → Behind head behind firsts seconds
unfolding words_of
behind_head [] behind firsts seconds =
    record { rest = words_of behind firsts seconds; are = refl; betas = betas_are behind firsts seconds; long = words_length behind firsts seconds }
behind_head (kind ∷ head) behind firsts seconds =
    let more = behind_head head behind (drop 1 firsts) (drop 1 seconds) in
    record {
      rest = more.rest;
      are = ap (λ (l : List Word). word_of_kind kind (get_or firsts 0 0) (get_or seconds 0 0) ∷ l) more.are;
      betas = more.betas;
      long = more.long;
    }

-- the job that is left of six words' job where words of some kinds stand behind them
abbrev pub kept : Option Job → List ℕ → Option Job
kept (Some job) behind = cond (may_follow job behind) (Some job) None
kept None behind = None

kept_none : (job : Option Job) → kept job [] ≡ job
kept_none None = refl
kept_none (Some (Run policy room)) = refl
kept_none (Some (Table room)) = refl
kept_none (Some (Audit room)) = refl

-- where words stand behind six, a run or an audit is none, and a table goes on with betas
module _ (kind : ℕ) (kinds : List ℕ) where
  run_ends : (policy : Option Policy) (room : Option ℕ) → kept (run_by policy room) (kind ∷ kinds) ≡ None
  run_ends (Some policy) (Some room) = rw (ne_eqb (length (kind ∷ kinds)) 0 (λ e. absurd (omega arith))) refl
  run_ends (Some policy) None = refl
  run_ends None room = refl

  long_policy : (name a b c d : Word) (ws : List Word) → policy_from name (a ∷ b ∷ c ∷ d ∷ ws) ≡ None
  unfolding policy_from
  long_policy word.Other a b c d ws = refl
  long_policy word.Run a b c d ws = refl
  long_policy word.Table a b c d ws = refl
  long_policy word.Audit a b c d ws = refl
  long_policy word.Greedy a b c d ws = refl
  long_policy word.Pg a b c d ws = refl
  long_policy word.Mf a b c d ws = refl
  long_policy word.Plan a b c d ws = refl
  long_policy (word.Number n) a b c d ws = refl
  long_policy (word.Beta beta) a b c d ws = refl

  no_room : (t : Bool) → cond {A = Option Job} t None None ≡ None
  no_room true = refl
  no_room false = refl

  table_goes_on : (t : Bool) (room : Option ℕ)
      → cond (t && only_betas (kind ∷ kinds)) (option_map Table room) None ≡ kept (cond t (option_map Table room) None) (kind ∷ kinds)
  table_goes_on true (Some room) = refl
  table_goes_on true None = no_room (only_betas (kind ∷ kinds))
  table_goes_on false room = refl

  seventh : (a b c d e f g : Word) (ws : List Word) → all_betas (g ∷ ws) ≡ only_betas (kind ∷ kinds)
      → job_from (a ∷ b ∷ c ∷ d ∷ e ∷ f ∷ g ∷ ws) ≡ kept (job_from (a ∷ b ∷ c ∷ d ∷ e ∷ f ∷ [])) (kind ∷ kinds)
  unfolding job_from command_from
  seventh word.Run b c d e f g ws betas =
      rw (long_policy b d e f g ws) (sym (run_ends (policy_from b (d ∷ e ∷ f ∷ [])) (number_of c)))
  seventh word.Table b c d e f g ws betas =
      let all : all_betas (c ∷ d ∷ e ∷ f ∷ g ∷ ws) ≡ (all_betas (c ∷ d ∷ e ∷ f ∷ []) && all_betas (g ∷ ws)) =
      list_all-append (λ (w : Word). is_some (beta_of w)) (c ∷ d ∷ e ∷ f ∷ []) (g ∷ ws) in
      ap (λ (t : Bool). cond t (option_map Table (number_of b)) None) (all ∙ ap (λ (t : Bool). all_betas (c ∷ d ∷ e ∷ f ∷ []) && t) betas)
      ∙ table_goes_on (all_betas (c ∷ d ∷ e ∷ f ∷ [])) (number_of b)
  seventh word.Audit b c d e f g ws betas = refl
  seventh word.Other b c d e f g ws betas = refl
  seventh word.Greedy b c d e f g ws betas = refl
  seventh word.Pg b c d e f g ws betas = refl
  seventh word.Mf b c d e f g ws betas = refl
  seventh word.Plan b c d e f g ws betas = refl
  seventh (word.Number n) b c d e f g ws betas = refl
  seventh (word.Beta beta) b c d e f g ws betas = refl

six_kept : (ws rest : List Word) (kinds : List ℕ) → length ws ≡ 6 → length rest ≡ length kinds → all_betas rest ≡ only_betas kinds
    → job_from (ws ++ rest) ≡ kept (job_from ws) kinds
six_kept ws [] [] six long betas = rw append-nil (sym (kept_none (job_from ws)))
six_kept ws [] (kind ∷ kinds) six long betas = absurd (omega arith)
six_kept ws (g ∷ rest) [] six long betas = absurd (omega arith)
six_kept (a ∷ b ∷ c ∷ d ∷ e ∷ f ∷ []) (g ∷ rest) (kind ∷ kinds) six long betas = seventh kind kinds a b c d e f g rest betas
six_kept (a ∷ b ∷ c ∷ d ∷ e ∷ f ∷ h ∷ ws) (g ∷ rest) (kind ∷ kinds) six long betas = absurd (omega arith)
six_kept (a ∷ b ∷ c ∷ d ∷ e ∷ []) (g ∷ rest) (kind ∷ kinds) six long betas = absurd (omega arith)
six_kept (a ∷ b ∷ c ∷ d ∷ []) (g ∷ rest) (kind ∷ kinds) six long betas = absurd (omega arith)
six_kept (a ∷ b ∷ c ∷ []) (g ∷ rest) (kind ∷ kinds) six long betas = absurd (omega arith)
six_kept (a ∷ b ∷ []) (g ∷ rest) (kind ∷ kinds) six long betas = absurd (omega arith)
six_kept (a ∷ []) (g ∷ rest) (kind ∷ kinds) six long betas = absurd (omega arith)
six_kept [] (g ∷ rest) (kind ∷ kinds) six long betas = absurd (omega arith)

-- the first six words, or all where they are fewer, and the kinds behind them
module _ (kinds firsts seconds : List ℕ) (n : ℕ) (least : n ≡ min 6 (length kinds)) where
  abbrev asked : Option Job
  asked = job_from (words_of kinds firsts seconds)

  abbrev kept_of_six : Option Job
  kept_of_six = kept (job_from (words_of (take n kinds) firsts seconds)) (drop n kinds)

  split_kept : asked ≡ kept_of_six
  split_kept = go (cases_lt (length kinds) 6)
    where
      go : (length kinds < 6) ⊎ (6 ≤ length kinds) → asked ≡ kept_of_six
      go (inl few) =
          let all : length kinds ≤ n = omega arith in
          rw (take_all n kinds all, drop_of_length-le kinds all) (sym (kept_none asked))
      go (inr many) =
          let six : n ≡ 6 = omega arith in
          let inside : n ≤ length kinds = omega arith in
          let b = behind_head (take n kinds) (drop n kinds) firsts seconds in
          ap (λ (l : List ℕ). job_from (words_of l firsts seconds)) (sym (take-append-drop n kinds))
          ∙ ap job_from b.are
          ∙ six_kept (words_of (take n kinds) firsts seconds) b.rest (drop n kinds)
          (words_length (take n kinds) firsts seconds ∙ length-take-le n kinds inside ∙ six)
          b.long
          b.betas

  module _ {head behind : List ℕ} {job : Option Job} (front : head ≡ take n kinds) (back : behind ≡ drop n kinds)
      (asks : job ≡ job_from (words_of head firsts seconds)) where
    listed : kept job behind ≡ asked
    listed = rw (asks, front, back) (sym split_kept)

    pub listed_none : job ≡ None → None ≡ asked
    listed_none none = ap (λ (o : Option Job). kept o behind) (sym none) ∙ listed

    pub listed_some : (j : Job) → job ≡ Some j → {t : Bool} → t ≡ may_follow j behind → cond t (Some j) None ≡ asked
    listed_some j is goes_on =
        ap (λ (t : Bool). cond t (Some j) None) goes_on ∙ ap (λ (o : Option Job). kept o behind) (sym is) ∙ listed
