-- A field read byte by byte, against the name that it may hold: what each byte makes of it, and what it holds if it ends here.
use Rattle.std.specs.Prelude.{ℕ, ◌+◌, ◌-◌, ◌*◌, Bool, true, false, cond, List, length, get_or, leb, ltb, eqb, Option, None, Some}
use Rattle.model.specs.Limits.{within}
use Rattle.signs.specs.Signs.{quote}
use Rattle.field.specs.declared.Stage.{Stage}
use Rattle.field.specs.declared.Stage.TheVariants.{Fresh, Bare, Open, Closed, Bad}
use Rattle.field.specs.declared.Kind.{Kind}
use Rattle.field.specs.declared.Kind.TheVariants.{Name, Number}
use Rattle.field.specs.declared.Field.{Field}

abbrev pub fresh_field : Field
fresh_field = record { stage = Fresh; letters = 0; digits = 0; number = 0 }

abbrev pub bad_field : Field
bad_field = record { stage = Bad; letters = 0; digits = 0; number = 0 }

abbrev pub staged : Stage → Field → Field
staged stage f = record f { stage = stage }

-- a digit more: at most seven, and none after a letter
unfoldable pub digit_taken : Stage → ℕ → Field → Field
digit_taken stage b f =
    cond (ltb 0 f.letters) bad_field
    (cond (leb 7 f.digits) bad_field
    (cond (leb 1000000 f.number) bad_field
    (record f { stage = stage; digits = f.digits + 1; number = f.number * 10 + (b - 48) })))

-- the next letter of the name, and none after a digit
unfoldable pub letter_taken : Stage → List ℕ → ℕ → Field → Field
letter_taken stage name b f =
    cond (ltb 0 f.digits) bad_field
    (cond (leb (length name) f.letters) bad_field
    (cond (eqb (get_or name f.letters 0) b)
    (record f { stage = stage; letters = f.letters + 1 })
    bad_field))

unfoldable pub taken : Stage → List ℕ → ℕ → Field → Field
taken stage name b f = cond (within 48 57 b) (digit_taken stage b f) (letter_taken stage name b f)

abbrev pub field_by : Stage → List ℕ → ℕ → Field → Field
field_by Fresh name b f = cond (eqb b quote) (staged Open f) (taken Bare name b f)
field_by Bare name b f = taken Bare name b f
field_by Open name b f = cond (eqb b quote) (staged Closed f) (taken Open name b f)
field_by Closed name b f = bad_field
field_by Bad name b f = bad_field

-- a field after one byte more
unfoldable pub field_after : List ℕ → ℕ → Field → Field
field_after name b f = field_by f.stage name b f

-- what has been read so far, as a whole: all letters of the name, or some digits
unfoldable pub whole_kind : List ℕ → Field → Option Kind
whole_kind name f =
    cond (eqb f.digits 0)
    (cond (leb (length name) f.letters) (Some Name) None)
    (cond (eqb f.letters 0) (Some (Number f.number)) None)

abbrev pub kind_by : Stage → List ℕ → Field → Option Kind
kind_by Fresh name f = whole_kind name f
kind_by Bare name f = whole_kind name f
kind_by Open name f = None
kind_by Closed name f = whole_kind name f
kind_by Bad name f = None

-- what a field holds if it ends here: none where that is neither a name nor a number
unfoldable pub kind_at : List ℕ → Field → Option Kind
kind_at name f = kind_by f.stage name f

-- no byte of the field has come
abbrev pub is_fresh : Stage → Bool
is_fresh Fresh = true
is_fresh _ = false

-- it can hold nothing any more, whatever follows
abbrev pub is_bad : Stage → Bool
is_bad Bad = true
is_bad _ = false
