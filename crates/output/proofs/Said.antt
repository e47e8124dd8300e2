-- What is said of a run is its record or its refusal, by its number.
use Prim.Native.Nat.{ℕ}
use mathlib.Core.Path.{◌≡◌, refl}
use mathlib.Core.List.{List, ◌∷◌, ◌++◌}
use borrow.Author.Tests.{ne_eqb}
use Rattle.model.specs.Packets.{arrivals}
use Rattle.model.specs.Record.{Lists, rows}
use Rattle.model.specs.Calls.{Outcome}
use Rattle.signs.specs.Signs.{cr, lf, record_header}
use Rattle.output.specs.Output.{row_lines, refusal_text}
use Rattle.output.specs.Said.{said_of}

module _ (slots values : List ℕ) (o : Outcome) where
  pub refused_said : {n p : ℕ} → o.reply.number ≡ n → o.reply.place ≡ p → (n ≡ 0 → ⊥) → refusal_text n p ≡ said_of slots values o
  refused_said {n} number place some = rw (number, place, ne_eqb n 0 some) refl

  pub ran_said : (after : Lists) → o.reply.number ≡ 0 → o.lists ≡ after
      → record_header ++ cr ∷ lf ∷ row_lines (rows (arrivals slots values) after) ≡ said_of slots values o
  ran_said after number is = rw (number, is) refl
