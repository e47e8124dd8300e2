-- An argument as a word: a command, a policy, a number of 1 to 7 digits, or a beta, NUMBER/NUMBER.
use Rattle.std.specs.Prelude.{ℕ, ◌+◌, cond, List, [], ◌∷◌, get_or, take, drop, ◌==◌, codes, position, Option, Some, None}
use Rattle.std.specs.Str.{bytes_eq}
use Rattle.model.specs.declared.Beta.{Beta}
use Rattle.field.specs.Fields.{is_number, value_from}
use Rattle.lab_jobs.specs.declared.words.Word.{Word}
use Rattle.lab_jobs.specs.declared.words.Word.TheVariants as word
use Rattle.signs.specs.Signs.{slash}

-- the number that a word is
abbrev pub number_of : Word → Option ℕ
number_of (word.Number n) = Some n
number_of _ = None

-- the beta that a word is
abbrev pub beta_of : Word → Option Beta
beta_of (word.Beta beta) = Some beta
beta_of _ = None

-- `run`, `table`, `audit`, `greedy`, `pg`, `mf`, `plan`
unfoldable pub name_in : List ℕ → Option Word
name_in bytes =
    cond (bytes_eq bytes (codes "run")) (Some word.Run)
    (cond (bytes_eq bytes (codes "table")) (Some word.Table)
    (cond (bytes_eq bytes (codes "audit")) (Some word.Audit)
    (cond (bytes_eq bytes (codes "greedy")) (Some word.Greedy)
    (cond (bytes_eq bytes (codes "pg")) (Some word.Pg)
    (cond (bytes_eq bytes (codes "mf")) (Some word.Mf)
    (cond (bytes_eq bytes (codes "plan")) (Some word.Plan) None))))))

unfoldable pub number_in : List ℕ → Option ℕ
number_in bytes = cond (is_number bytes) (Some (value_from 0 bytes)) None

-- the place of the first slash
abbrev pub slash_at : List ℕ → Option ℕ
slash_at bytes = position (λ (b : ℕ). b == slash) bytes

abbrev pub beta_by : Option ℕ → Option ℕ → Option Beta
beta_by (Some num) (Some den) = Some (record { num = num; den = den })
beta_by _ _ = None

-- the numbers before and behind a slash
abbrev pub beta_round : List ℕ → Option ℕ → Option Beta
beta_round bytes (Some at) = beta_by (number_in (take at bytes)) (number_in (drop (at + 1) bytes))
beta_round bytes None = None

-- the numbers before and behind the first slash
unfoldable pub beta_in : List ℕ → Option Beta
beta_in bytes = beta_round bytes (slash_at bytes)

abbrev pub beta_or_other : Option Beta → Word
beta_or_other (Some beta) = word.Beta beta
beta_or_other None = word.Other

abbrev pub number_or : Option ℕ → Option Beta → Word
number_or (Some n) beta = word.Number n
number_or None beta = beta_or_other beta

abbrev pub name_or : Option Word → Word → Word
name_or (Some name) _ = name
name_or None w = w

unfoldable pub word_of : List ℕ → Word
word_of bytes = name_or (name_in bytes) (number_or (number_in bytes) (beta_in bytes))

-- the kinds of words by number: `run` 1, `table` 2, `audit` 3, `greedy` 4, `pg` 5, `mf` 6, `plan` 7, a number 8, a beta 9. No other is a word of a command
unfoldable pub word_of_kind : ℕ → ℕ → ℕ → Word
word_of_kind kind first second =
    cond (kind == 1) word.Run
    (cond (kind == 2) word.Table
    (cond (kind == 3) word.Audit
    (cond (kind == 4) word.Greedy
    (cond (kind == 5) word.Pg
    (cond (kind == 6) word.Mf
    (cond (kind == 7) word.Plan
    (cond (kind == 8) (word.Number first)
    (cond (kind == 9) (word.Beta (record { num = first; den = second })) word.Other))))))))

-- the words of some kinds, with their numbers in parallel lists; a number that is not there is 0
unfoldable pub words_of : List ℕ → List ℕ → List ℕ → List Word
words_of [] firsts seconds = []
words_of (kind ∷ kinds) firsts seconds =
    word_of_kind kind (get_or firsts 0 0) (get_or seconds 0 0) ∷ words_of kinds (drop 1 firsts) (drop 1 seconds)
