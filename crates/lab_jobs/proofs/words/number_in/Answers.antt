-- `lab_jobs::words::number_in` meets its contract: the number so far, of as many digits as bytes were read, and the bytes that are left.
use mathlib.Core.Path.{refl}
use native.Mathlib.Omega.{arith}
use Rattle.lab_jobs.proofs.Wording.{below, some_bytes, number_lengths, below_most, counted_low, counted_high, counted_turn, counted_all}
use Rattle.lab_jobs.proofs.words.number_in.Goals as goal
use Rattle.lab_jobs.proofs.words.number_in.Goals.{then-byte-lt-ZERO-via-then-byte-lt-ZERO, then-byte-lt-ZERO-via-else-byte-lt-ZERO+then-byte-gt-NINE}

pub returns-then-is_empty : goal.returns-then-is_empty
returns-then-is_empty c = number_lengths c.args.bytes.now c.is_empty.ensures c.then-is_empty.either

pub loop-byte-init : goal.loop-byte-init
unfolding below
loop-byte-init c = record { low = omega arith; value = refl; digits = refl }

pub returns-then-byte-lt-ZERO : goal.returns-then-byte-lt-ZERO
returns-then-byte-lt-ZERO c = let bytes = c.args.bytes.now in
    let l = c.loop-byte in
    elim c.then-byte-lt-ZERO.branch [ then-byte-lt-ZERO-via-then-byte-lt-ZERO w ↦ counted_low bytes l.byte-index l.number c.loop-byte-test.true l.invariant w.if-byte-lt-ZERO.true | then-byte-lt-ZERO-via-else-byte-lt-ZERO+then-byte-gt-NINE w ↦ counted_high bytes l.byte-index l.number c.loop-byte-test.true l.invariant w.if-byte-gt-NINE.true ]

pub overflow_mul-number : goal.overflow_mul-number
overflow_mul-number c = omega (arith, below_most c.loop-byte.byte-index (omega arith), c.loop-byte.invariant.low)

pub overflow_add-number : goal.overflow_add-number
overflow_add-number c = omega (arith, below_most c.loop-byte.byte-index (omega arith), c.loop-byte.invariant.low)

pub loop-byte-preserved : goal.loop-byte-preserved
loop-byte-preserved c = counted_turn c.args.bytes.now c.loop-byte.byte-index c.loop-byte.number c.loop-byte-test.true c.loop-byte.invariant c.if-byte-lt-ZERO.false c.if-byte-gt-NINE.false

pub returns : goal.returns
returns c = counted_all c.args.bytes.now c.loop-byte.byte-index c.loop-byte.number (some_bytes c.args.bytes.now c.is_empty.ensures c.if-is_empty.false) c.if-bytes-gt-DIGITS.false c.loop-byte-test.false c.loop-byte.invariant
