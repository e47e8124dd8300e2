-- `lab_jobs::words::number_in` meets its contract: the number so far, of as many digits as bytes were read, and the bytes that are left.
use Rattle.lab_jobs.proofs.Wording.{Counted}
use Rattle.lab_jobs.proofs.words.number_in.Given as goal

abbrev pub invariant-loop-byte : goal.invariant-loop-byte
invariant-loop-byte l = Counted l.bytes l.byte-index l.number
