-- The words that the program heard.
use Rattle.std.specs.Prelude.{ℕ, ◌+◌, ◌≤◌, ◌≡◌, List, map, take, drop, Option, Some, None}
use Rattle.std.specs.List.{filter_map}
use Rattle.model.specs.declared.Beta.{Beta}
use Rattle.lab_table.specs.Table.{most_betas}
use Rattle.lab_jobs.specs.declared.words.Word.{Word}
use Rattle.lab_jobs.specs.Words.{beta_of, word_of}

-- the most words of a command: a table's name, its room and its betas
abbrev pub most_words : ℕ
most_words = 2 + most_betas

-- the betas of a table are the words behind its room
abbrev pub betas_in : List Word → List Beta
betas_in words = filter_map beta_of (drop 2 words)

-- the words that some arguments made. The kit has no name for the arguments, so they are some list of lists
pub record Heard (count : ℕ) (words : List Word) : Type 0 where
  pub arguments : List (List ℕ)
  pub are : take count words ≡ map word_of arguments

-- how reading them ended: with so many words, or with arguments that are none of ours
abbrev pub HeardAs : Option ℕ → List Word → Type 0
HeardAs (Some count) words = (count ≤ most_words) × Heard count words
HeardAs None words = Unit {0}
