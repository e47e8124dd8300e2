-- `rows::name_at` meets its contract: `nth` gives the part at its place among those that `split` gives.
use Prim.Native.Nat.{ℕ}
use mathlib.Core.Path.{refl}
use lib.Dec.{eqb}
use borrow.Author.Rules.{rules}
use borrow.Author.Tests.{tests}
use Rattle.std.proofs.lemmas.Iterator.Consumers.{nth_from_yields_List}
use Rattle.std.proofs.lemmas.Iterator.Splits.{YieldsList-from_slice_split}
use Rattle.signs.specs.Signs.{comma}
use Rattle.field.specs.Fields.{fields_of}
use Rattle.rows.proofs.Naming.{part_or}
use Rattle.rows.proofs.name_at.Goals as goal

pub returns : goal.returns
unfolding fields_of
returns c =
    let e = nth_from_yields_List _ _ c.args.column c.nth.ensures.ran
    (YieldsList-from_slice_split _ (λ (b : ℕ). eqb b comma) c.args.header.now c.split.ensures.rest c.split.ensures.done c.split.ensures.closure (λ x b q k. search (rules, tests))) in
    rw c.unwrap_or.ensures (part_or _ c.args.column _ _ e refl)
