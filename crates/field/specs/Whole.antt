-- A field as a whole: read byte by byte against a name of letters, it holds what its bytes hold.
use Rattle.std.specs.Prelude.{ℕ, ◌≡◌, true, cond, List, [], ◌∷◌, Option, None, Some}
use Rattle.field.specs.declared.Kind.{Kind}
use Rattle.field.specs.declared.Kind.TheVariants.{Name, Number}
use Rattle.field.specs.declared.Field.{Field}
use Rattle.field.specs.Fields.{same, held_in, is_number, value_from, lettered}
use Rattle.field.specs.Reading.{fresh_field, field_after, kind_at}

-- what some bytes without quotes are: the name, a number, or none of the two
abbrev pub kind_of : List ℕ → List ℕ → Option Kind
kind_of name held = cond (same held name) (Some Name) (cond (is_number held) (Some (Number (value_from 0 held))) None)

-- a field after some bytes more
unfoldable pub field_after_all : List ℕ → List ℕ → Field → Field
field_after_all name [] f = f
field_after_all name (b ∷ bytes) f = field_after_all name bytes (field_after name b f)

abbrev pub Whole : Type 0
Whole =
    (name : List ℕ) → lettered name ≡ true → (bytes : List ℕ) → kind_at name (field_after_all name bytes fresh_field) ≡ kind_of name (held_in bytes)
