-- Lines end at each CRLF, inside quotes too; the last line's end is optional.
use Rattle.std.specs.Prelude.{ℕ, cond, ◌&&◌, List, [], ◌∷◌, eqb}
use Rattle.std.specs.List.{onto_first}
use Rattle.signs.specs.Signs.{cr, lf}

-- the lines after a line's end: none where nothing follows
abbrev pub unless_empty : List ℕ → List (List ℕ) → List (List ℕ)
unless_empty [] lines = []
unless_empty (b ∷ text) lines = lines

-- the lines of a text; a text with no byte is one empty line
unfoldable pub lines_of : List ℕ → List (List ℕ)
lines_of [] = [] ∷ []
lines_of (b ∷ []) = (b ∷ []) ∷ []
lines_of (b ∷ c ∷ text) =
    cond (eqb b cr && eqb c lf) ([] ∷ unless_empty text (lines_of text)) (onto_first b (lines_of (c ∷ text)))
