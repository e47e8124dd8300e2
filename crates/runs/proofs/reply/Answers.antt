-- `runs::reply` meets its contract: the lists that it lends are blank, and a trace that has too many packets for them is refused as every call does.
use mathlib.Core.Path.{sym, ◌∙◌}
use Rattle.runs.proofs.Calls.{zeros_length}
use Rattle.runs.proofs.Calls.{replied, over}
use Rattle.runs.proofs.reply.Goals as goal

pub returns-then-n-gt-PACKETS : goal.returns-then-n-gt-PACKETS
returns-then-n-gt-PACKETS c = let a = c.args in
    c.too_many.ensures ∙ sym (over a.policy a.room a.slots.now a.values.now c.if-n-gt-PACKETS.true)

pub slice_bounds-call-end : goal.slice_bounds-call-end
slice_bounds-call-end c = sym (zeros_length _ 2048 c.if-n-gt-PACKETS.false)

pub slice_bounds-call-end-2 : goal.slice_bounds-call-end-2
slice_bounds-call-end-2 c = sym (zeros_length _ 2048 c.if-n-gt-PACKETS.false)

pub slice_bounds-call-end-3 : goal.slice_bounds-call-end-3
slice_bounds-call-end-3 c = sym (zeros_length _ 2048 c.if-n-gt-PACKETS.false)

pub returns : goal.returns
returns c = let a = c.args in
    replied a.policy a.room a.slots.now a.values.now 2048 c.if-n-gt-PACKETS.false c.call.result c.call.ensures
