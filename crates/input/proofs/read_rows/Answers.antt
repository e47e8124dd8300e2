-- `input::read_rows` meets its contract.
use native.Mathlib.Omega.{arith}
use Prim.Native.Nat.{ℕ, ◌-◌}
use mathlib.Core.Path.{◌≡◌, ap, ◌∙◌}
use lib.ListN.{length, take}
use Rattle.std.proofs.lemmas.Result.{err_from_is_err_and}
use Rattle.input.proofs.Reading.{nothing_read, read_more, read_all_lem, stopped_at, read_much}
use Rattle.input.proofs.read_rows.Goals as goal

pub loop-left-init : goal.loop-left-init
loop-left-init g c = nothing_read _ _ c.new-parser.ensures

pub returns-in_err-n : goal.returns-in_err-n
returns-in_err-n g c = let p = err_from_is_err_and c.from_residual.result c.from_residual.ensures.1 in
    rw (p.1, p.2) (stopped_at c.loop-left.invariant)

pub returns-then-ended : goal.returns-then-ended
returns-then-ended g c = read_all_lem c.loop-left.invariant c.loop-left-test.true c.end-last.ensures c.outcome.ensures

pub loop-left-preserved : goal.loop-left-preserved
loop-left-preserved g c =
    let size = c.in_ok-n.ensures.bound.1 in
    let more = read_more c.loop-left.invariant (take c.in_ok-n.n c.read.new.buf) (λ none. c.if-ended.false (size ∙ none)) c.loop-left-test.true c.feed-parser.ensures in
    let less : c.saturating_sub-left.result ≡ c.loop-left.left - length (take c.in_ok-n.n c.read.new.buf) = c.saturating_sub-left.ensures ∙ ap (λ (n : ℕ). c.loop-left.left - n) size in
    rw less more

pub returns : goal.returns
returns g c = read_much c.loop-left.invariant (omega arith)
