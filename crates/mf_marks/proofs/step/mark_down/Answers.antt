-- The invariant: what is left of the marking, on the marks as they are, gives what the whole gives on the marks as they were. Each turn is one step of the definition.
use Rattle.std.proofs.Common.{ℕ, ◌-◌, set, sym, ap, ◌∙◌, arith}
use Rattle.mf_marks.proofs.Marking.{down_all, down_none, down_spent, down_marked, down_passed}
use Rattle.mf_marks.proofs.step.mark_down.Goals as goal

pub loop-i-init : goal.loop-i-init
loop-i-init c = down_all _ _ _ _ _ _ _ _

pub returns-then-left-eq0 : goal.returns-then-left-eq0
returns-then-left-eq0 c = let loop = c.loop-i in
    let a = c.args in
    down_spent a.numbers.now a.values.now a.head a.n a.lo a.r a.by a.marks.now loop.i loop.left loop.marks (omega arith) loop.invariant

pub loop-i-preserved-then-takes_mark : goal.loop-i-preserved-then-takes_mark
loop-i-preserved-then-takes_mark c = let loop = c.loop-i in
    let a = c.args in
    down_marked a.numbers.now a.values.now a.head a.n a.lo a.r a.by a.marks.now loop.i loop.left (loop.i - 1) (loop.left - 1) loop.marks
    loop.invariant (omega arith) (omega arith) (sym c.takes_mark.ensures ∙ c.if-takes_mark.true) c.put.new.list
    (c.put.ensures ∙ ap (λ (place : ℕ). set loop.marks place a.by.0) c.place_of.ensures) c.put.auto.list

pub loop-i-preserved : goal.loop-i-preserved
loop-i-preserved c = let loop = c.loop-i in
    let a = c.args in
    down_passed a.numbers.now a.values.now a.head a.n a.lo a.r a.by a.marks.now loop.i loop.left (loop.i - 1) (loop.left - 1) loop.marks
    loop.invariant (omega arith) (omega arith) (sym c.takes_mark.ensures ∙ c.if-takes_mark.false)

pub returns : goal.returns
returns c = let loop = c.loop-i in
    let a = c.args in
    down_none a.numbers.now a.values.now a.head a.n a.lo a.r a.by a.marks.now loop.i loop.left loop.marks c.loop-i-test.false loop.invariant
