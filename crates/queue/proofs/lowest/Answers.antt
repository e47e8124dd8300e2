-- With no first value there is none; else the fold of `min` from the first value over all of them is the lowest.
use Rattle.std.proofs.Common.{rules, ◌≡◌, ◌∙◌, ◌<◌, ◌≤◌, ℕ, Some, length, get_or, fold, min, ap}
use Rattle.queue.proofs.Search.{lowest_none, lowest_some}
use Rattle.queue.proofs.lowest.Goals as goal

pub returns-in_err-first : goal.returns-in_err-first
returns-in_err-first c =
    let none : length c.args.values.now ≤ 0 = search rules in
    c.from_residual.ensures ∙ lowest_none c.args.values.now none

pub returns : goal.returns
returns c =
    let values = c.args.values.now in
    let some : 0 < length values = search rules in
    let first : c.in_ok-first.first.now ≡ get_or values 0 0 = search rules in
    let found : c.fold.result ≡ fold min c.in_ok-first.first.now values = search rules in
    ap (λ (low : ℕ). Some low) (found ∙ ap (λ (low : ℕ). fold min low values) first) ∙ lowest_some values some
