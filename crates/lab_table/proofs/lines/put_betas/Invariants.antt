-- `lab_table::lines::put_betas` meets its contract: what the lines that are left come to, behind those that were written, is what all come to.
use Prim.Native.Nat.{ℕ, ◌+◌, ◌-◌, ◌*◌, ◌≤◌}
use mathlib.Core.List.{List}
use lib.ListN.{length}
use Rattle.std.proofs.Common.{Result}
use Rattle.model.specs.declared.Refusal.{Refusal}
use Rattle.lab_table.specs.Table.{lines_of, betas_of}
use Rattle.lab_table.specs.Writing.{LinedAs}
use Rattle.lab_table.proofs.Tables.{betas_left}
use Rattle.lab_table.proofs.lines.put_betas.Given as goal

abbrev pub invariant-loop-beta : goal.invariant-loop-beta
invariant-loop-beta l = (l.end + 239 * (length l.betas - l.beta-index) ≤ length l.out)
    × ((r : Result ℕ Refusal) (out' : List ℕ) → LinedAs r (betas_left l.room l.slots l.values l.plan l.betas l.beta-index) l.end l.out out'
    → LinedAs r (lines_of l.room l.slots l.values l.plan (betas_of l.betas)) l.at l.initial.out out')
