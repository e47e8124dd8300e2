-- What the program makes of its reads.
use Rattle.std.specs.Prelude.{ℕ, List, Result, Ok, Err}
use Rattle.input.specs.declared.InputError.{InputError}
use Rattle.input.specs.declared.InputError.TheVariants.{Failed, TooLong}
use Rattle.input.specs.Reads.{Output, Overlong}
use Rattle.text.specs.Bench.{bench_output}

-- how reading ended
abbrev pub ToldBy : Result ℕ InputError → List ℕ → Type 0
ToldBy (Ok n) out = Output bench_output n out
ToldBy (Err TooLong) out = Overlong
ToldBy (Err Failed) out = Unit {0}
