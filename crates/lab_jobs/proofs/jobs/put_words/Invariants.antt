-- `lab_jobs::jobs::put_words` meets its contract: the first words are those of the kinds so far.
use Rattle.lab_jobs.proofs.Listing.{Put}
use Rattle.lab_jobs.proofs.jobs.put_words.Given as goal

abbrev pub invariant-loop-place : goal.invariant-loop-place
invariant-loop-place l = Put l.kinds l.firsts l.seconds l.place l.words
