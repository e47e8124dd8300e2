-- `lab_table::line::put_name` meets its contract: each case writes its parts one behind another.
use mathlib.Core.Path.{refl}
use native.Mathlib.Omega.{arith}
use Rattle.output.proofs.Writing.{wrote_same, decimal_length}
use Rattle.lab_table.proofs.Chain.{near, near_more, pg_name, mf_name}
use Rattle.lab_table.proofs.line.put_name.Goals as goal

pub returns-in-PG : goal.returns-in-PG
returns-in-PG c = let pre = c.requires in
    let w1 = near c.put-word.ensures (omega arith) (omega arith) in
    let w2 = near_more w1 c.put_number-num.ensures (omega arith) (decimal_length _) in
    let w3 = near_more w2 c.put-slash.ensures (omega arith) (omega arith) in
    let w4 = near_more w3 c.put_number.ensures (omega arith) (decimal_length _) in
    wrote_same (pg_name c.args.policy c.in-PG.beta c.in-PG.is) refl w4.wrote

pub returns-in-MF : goal.returns-in-MF
returns-in-MF c = let pre = c.requires in
    let w1 = near c.put-word-in-MF.ensures (omega arith) (omega arith) in
    let w2 = near_more w1 c.put_number-lo.ensures (omega arith) (decimal_length _) in
    let w3 = near_more w2 c.put-first.ensures (omega arith) (omega arith) in
    let w4 = near_more w3 c.put_number-hi.ensures (omega arith) (decimal_length _) in
    let w5 = near_more w4 c.put-second.ensures (omega arith) (omega arith) in
    let w6 = near_more w5 c.put_number-in-MF.ensures (omega arith) (decimal_length _) in
    wrote_same (mf_name c.args.policy c.in-MF.m c.in-MF.is) refl w6.wrote
