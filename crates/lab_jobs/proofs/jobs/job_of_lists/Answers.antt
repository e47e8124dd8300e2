-- `lab_jobs::jobs::job_of_lists` meets its contract: the first six words ask for the job, and the kinds behind them keep it or not. That is the job of all
-- words, which is the job of their kinds.
use mathlib.Core.Path.{ap, ◌∙◌}
use Rattle.lab_jobs.specs.Jobs.{job_from}
use Rattle.lab_jobs.proofs.Listing.{listed_none, listed_some}
use Rattle.lab_jobs.proofs.Shapes.{shapes}
use Rattle.lab_jobs.proofs.jobs.job_of_lists.Goals as goal

pub returns-in_err-job : goal.returns-in_err-job
returns-in_err-job c = let a = c.args in
    let asks = c.job_from.ensures ∙ ap job_from c.put_words.ensures in
    let parts = c.split_at.ensures in
    c.from_residual.ensures
    ∙ listed_none a.kinds.now a.firsts.now a.seconds.now c.min.result c.min.ensures parts.front parts.back asks c.in_err-job.was
    ∙ shapes a.kinds.now a.firsts.now a.seconds.now

pub returns-then-may_follow : goal.returns-then-may_follow
returns-then-may_follow c = let a = c.args in
    let asks = c.job_from.ensures ∙ ap job_from c.put_words.ensures in
    let parts = c.split_at.ensures in
    let j = c.in_ok-job in
    listed_some a.kinds.now a.firsts.now a.seconds.now c.min.result c.min.ensures parts.front parts.back asks j.job j.was c.if-may_follow.ensures
    ∙ shapes a.kinds.now a.firsts.now a.seconds.now

pub returns : goal.returns
returns c = let a = c.args in
    let asks = c.job_from.ensures ∙ ap job_from c.put_words.ensures in
    let parts = c.split_at.ensures in
    let j = c.in_ok-job in
    listed_some a.kinds.now a.firsts.now a.seconds.now c.min.result c.min.ensures parts.front parts.back asks j.job j.was c.if-may_follow.ensures
    ∙ shapes a.kinds.now a.firsts.now a.seconds.now
