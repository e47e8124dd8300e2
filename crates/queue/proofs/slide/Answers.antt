-- Where these are such places `copy_within` moves what `slid` moves; else nothing moves.
use Rattle.std.proofs.Common.{sym, ◌∙◌, arith}
use Rattle.queue.proofs.Moving.{slid_moved, slid_up, slid_back, slid_past}
use Rattle.queue.proofs.slide.Goals as goal

pub returns-then-from-to : goal.returns-then-from-to
returns-then-from-to c = sym (slid_up _ _ _ _ c.if-from-to.true)

pub returns-then-end-from : goal.returns-then-end-from
returns-then-end-from c = sym (slid_back _ _ _ _ c.if-end-from.true)

pub returns-then-list-end : goal.returns-then-list-end
returns-then-list-end c = sym (slid_past _ _ _ _ c.if-list-end.true)

pub returns : goal.returns
returns c = let a = c.args in
    c.copy_within.ensures.after ∙ sym (slid_moved a.from a.end a.to a.list.now (omega arith) (omega arith) (omega arith))
