-- `lab::answer_words` meets its contract: what was read to the end is answered.
use mathlib.Core.Path.{refl}
use Rattle.std.proofs.lemmas.Result.{err_from_is_err_and}
use Rattle.lab.proofs.Reading.{read_few, nothing_asked, answered, not_read}
use Rattle.lab.proofs.answer_words.Goals as goal

pub returns-in_default : goal.returns-in_default
returns-in_default g c = nothing_asked c.args.words.now _ c.in_default.ensures

pub returns-in_err-read : goal.returns-in_err-read
returns-in_err-read g c =
    let p = err_from_is_err_and c.from_residual.result c.from_residual.ensures.1 in
    rw (p.1, p.2) (not_read c.in-Some.job c.args.words.now _ c.in_err-read.field-0.0 _ _ c.in_err-read.ensures)

pub say-requires-clause-few : goal.say-requires-clause-few
say-requires-clause-few g c = read_few c.in-Some.job _ _ refl c.in_ok-read.ensures

pub returns : goal.returns
returns g c = answered c.in-Some.job c.args.words.now _ _ c.in-Some.ensures refl c.in_ok-read.ensures (rw c.copy_betas-count.ensures.copied at c.say.ensures)
