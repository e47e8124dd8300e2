-- What the first packets of a trace satisfy where none of them is refused.
use Rattle.std.specs.Prelude.{ℕ, ◌<◌, ◌≡◌, true, List, ◌∷◌, get_or}
use Rattle.model.specs.Refusals.{slot_ok}

-- each of the first i slots is in range and not below the one before, which for the first is 0
abbrev pub SlotsFit : List ℕ → ℕ → Type 0
SlotsFit slots i = (k : ℕ) → k < i → slot_ok (record { 0 = get_or (0 ∷ slots) k 0 }) (record { 0 = get_or slots k 0 }) ≡ true
