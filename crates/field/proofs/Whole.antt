-- A field as a whole: each byte goes from the rest of the field to what is read of it, and at the end nothing is left.
use Prim.Native.Nat.{ℕ}
use mathlib.Core.Path.{◌≡◌, refl, ◌∙◌}
use mathlib.Core.List.{List, [], ◌∷◌}
use native.Mathlib.Nat.{zero-add}
use lib.ListN.{length}
use Rattle.field.specs.declared.Field.{Field}
use Rattle.field.specs.Fields.{is_number, held_in}
use Rattle.field.specs.Reading.{fresh_field, field_after, kind_at}
use Rattle.field.specs.Whole.{kind_of, field_after_all, Whole}
use Rattle.field.proofs.Fielding.{SoundField, fresh_sound, kind_after, field_from, Lettered, letters_of, field_law, field_sound, kind_law, fresh_from}

-- what stands behind no letter and no digit is the whole field
pub kind_whole : (name held : List ℕ) → kind_after name 0 0 0 held ≡ kind_of name held
unfolding kind_after is_number
kind_whole name held = rw (zero-add (length held)) refl

bytes_law : (name : List ℕ) → Lettered name → (bytes : List ℕ) (f : Field) → SoundField f → kind_at name (field_after_all name bytes f) ≡ field_from name f bytes
unfolding field_after_all
bytes_law name letters [] f sound = kind_law name letters f sound
bytes_law name letters (b ∷ bytes) f sound =
    bytes_law name letters bytes (field_after name b f) (field_sound name letters f sound b) ∙ field_law name letters f sound b bytes

pub whole : Whole
whole name letters bytes =
    bytes_law name (letters_of name letters) bytes fresh_field fresh_sound ∙ fresh_from name bytes ∙ kind_whole name (held_in bytes)
