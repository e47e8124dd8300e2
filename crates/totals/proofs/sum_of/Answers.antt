-- The sum fits, since each value is in range and there are few; it is the definition's.
use Rattle.std.proofs.Common.{rules, ◌≡◌, ◌<◌, ◌^◌, ◌∙◌, sym}
use Rattle.std.specs.List as List
use Rattle.totals.proofs.Counting.{sum_by_each, sum_fits}
use Rattle.totals.proofs.sum_of.Goals as goal

pub sum-requires-clause-fits : goal.sum-requires-clause-fits
sum-requires-clause-fits c =
    let fits : List.sum c.args.values.now < 2 ^ 32 = sum_fits c.args.values.now c.requires.values_len_bound c.requires.values_fit in search rules

pub returns : goal.returns
returns c =
    let added : c.sum.result ≡ List.sum c.args.values.now = search rules in
    added ∙ sym (sum_by_each c.args.values.now)
