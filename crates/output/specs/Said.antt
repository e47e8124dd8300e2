-- What a program says of a run: the record, or the refusal.
use Rattle.std.specs.Prelude.{ℕ, cond, List, ◌∷◌, ◌++◌, eqb}
use Rattle.model.specs.Packets.{arrivals}
use Rattle.model.specs.Record.{rows}
use Rattle.model.specs.Calls.{Outcome}
use Rattle.signs.specs.Signs.{cr, lf, record_header}
use Rattle.output.specs.Output.{row_lines, refusal_text}

abbrev pub said_of : List ℕ → List ℕ → Outcome → List ℕ
said_of slots values outcome =
    cond (eqb outcome.reply.number 0)
    (record_header ++ cr ∷ lf ∷ row_lines (rows (arrivals slots values) outcome.lists))
    (refusal_text outcome.reply.number outcome.reply.place)
