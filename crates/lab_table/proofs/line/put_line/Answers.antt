-- `lab_table::line::put_line` meets its contract: the parts of the line, one behind another.
use mathlib.Core.Path.{refl, ap}
use native.Mathlib.Omega.{arith}
use lib.ListN.{length}
use Rattle.output.proofs.Writing.{wrote_same}
use Rattle.lab_table.proofs.Chain.{near_of, wrote_long, near_wrote, near_more, name_length, commas_length, part_length, line_is}
use Rattle.lab_table.proofs.line.put_line.Goals as goal

pub put_numbers-numbers-requires : goal.put_numbers-numbers-requires
put_numbers-numbers-requires c = let seven = ap length c.counts_of-counts.ensures in
    let w1 = near_of 65 c.put_name-name.ensures (name_length c.args.policy) in
    omega (arith, c.requires, w1.short, w1.wrote.behind, wrote_long w1.wrote)

pub put_part-part-requires : goal.put_part-part-requires
put_part-part-requires c = let seven = ap length c.counts_of-counts.ensures in
    let w1 = near_of 65 c.put_name-name.ensures (name_length c.args.policy) in
    let w2 = near_wrote w1 147 c.put_numbers-numbers.ensures (omega (arith, commas_length c.counts_of-counts.result)) in
    let w3 = near_more w2 c.put-comma.ensures (omega (arith, c.requires)) (omega arith) in
    omega (arith, c.requires, w3.short, w3.wrote.behind, wrote_long w3.wrote)

pub returns : goal.returns
returns c = let seven = ap length c.counts_of-counts.ensures in
    let w1 = near_of 65 c.put_name-name.ensures (name_length c.args.policy) in
    let w2 = near_wrote w1 147 c.put_numbers-numbers.ensures (omega (arith, commas_length c.counts_of-counts.result)) in
    let w3 = near_more w2 c.put-comma.ensures (omega (arith, c.requires)) (omega arith) in
    let w4 = near_wrote w3 24 c.put_part-part.ensures (part_length c.args.t.sent.value c.args.plan) in
    let w5 = near_more w4 c.put.ensures (omega (arith, c.requires)) (omega arith) in
    wrote_same (line_is c.args.policy c.args.t c.args.plan c.counts_of-counts.result c.counts_of-counts.ensures) refl w5.wrote
