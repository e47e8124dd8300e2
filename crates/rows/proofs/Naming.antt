-- The names of the header: what std's `split` gives, of which there is one at least.
use Prim.Native.Nat.{ℕ, ◌+◌}
use mathlib.Core.Path.{◌≡◌, refl, sym, ap₂, ◌∙◌}
use mathlib.Core.List.{List, [], ◌∷◌}
use lib.ListN.{length, get_or}
use lib.Dec.{eqb}
use Rattle.std.specs.Prelude.{Option, None, Some}
use Rattle.std.proofs.Common.{Bor}
use Rattle.std.specs.List.{onto_first, count_by, slice_get}
use Rattle.std.specs.Option.{unwrap_or, option_map}
use Rattle.std.proofs.lemmas.Option.{unwrap_or-slice_get}
use Rattle.std.proofs.lemmas.List.Splits.{length-slice_split}
use Rattle.laws.proofs.Cases.{cond_cases}
use Rattle.signs.specs.Signs.{comma}
use Rattle.field.specs.Fields.{fields_of}

-- a line has a field
pub fields_some : (line : List ℕ) (G : List (List ℕ) → Type 0) → ((field : List ℕ) (more : List (List ℕ)) → G (field ∷ more)) → G (fields_of line)
unfolding fields_of
fields_some [] G some = some [] []
fields_some (b ∷ line) G some = cond_cases G (eqb b comma) _ _ (λ t. some [] (fields_of line)) (λ t. go (fields_of line))
  where
    go : (fields : List (List ℕ)) → G (onto_first b fields)
    go [] = some (b ∷ []) []
    go (field ∷ more) = some (b ∷ field) more

-- every comma parts two fields
pub commas_counted : (line : List ℕ) → count_by (λ (b : ℕ). eqb b comma) line + 1 ≡ length (fields_of line)
unfolding fields_of
commas_counted line = sym (length-slice_split (λ (b : ℕ). eqb b comma) line)

-- an item, or nothing where there is none: the part at its place, or no byte
pub part_or : (parts : List (List ℕ)) (n : ℕ) (r : Option (Bor (List ℕ))) (none : Bor (List ℕ)) → option_map (λ (part : Bor (List ℕ)). part.now) r ≡ slice_get parts n → none.now ≡ []
    → (unwrap_or r none).now ≡ get_or parts n []
part_or parts n r none is empty = go r ∙ ap₂ (λ (o : Option (List ℕ)) (d : List ℕ). unwrap_or o d) is empty ∙ unwrap_or-slice_get parts n []
  where
    go : (o : Option (Bor (List ℕ))) → (unwrap_or o none).now ≡ unwrap_or (option_map (λ (part : Bor (List ℕ)). part.now) o) none.now
    go None = refl
    go (Some part) = refl
