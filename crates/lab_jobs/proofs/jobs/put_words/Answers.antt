-- `lab_jobs::jobs::put_words` meets its contract: the first words are those of the kinds so far.
use mathlib.Core.Path.{refl}
use native.Mathlib.Omega.{arith}
use Rattle.lab_jobs.proofs.Listing.{put_turn, put_all}
use Rattle.lab_jobs.proofs.jobs.put_words.Goals as goal

pub loop-place-init : goal.loop-place-init
loop-place-init c = record { are = refl }

pub loop-place-preserved : goal.loop-place-preserved
loop-place-preserved c = let l = c.loop-place in
    let is = rw (c.number_at-first.ensures, c.number_at-second.ensures) at c.of_kind.ensures in
    put_turn c.args.kinds.now c.args.firsts.now c.args.seconds.now l.place l.words c.of_kind.result (omega arith) (omega arith) is l.invariant

pub returns : goal.returns
returns c = put_all c.args.kinds.now c.args.firsts.now c.args.seconds.now c.loop-place.place c.loop-place.words (omega arith) c.loop-place.invariant
