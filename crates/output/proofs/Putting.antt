-- A list with places for the longest text of a kind is written into; one with fewer is left as it was. So a writer that tests for the places, and then
-- writes, puts its text.
use Prim.Native.Nat.{ℕ, ◌+◌, ◌*◌, ◌≤◌}
use mathlib.Core.Path.{◌≡◌, refl, sym, ap, ◌∙◌}
use mathlib.Core.List.{List, [], ◌++◌}
use native.Mathlib.Omega.{arith}
use lib.ListN.{length}
use lib.Seq.{length-sets}
use borrow.Author.Tests.{eq-eqb}
use Rattle.model.specs.Packets.{arrivals}
use Rattle.model.specs.Record.{rows}
use Rattle.output.specs.Output.{row_lines}
use Rattle.output.proofs.Writing.{wrote_same, wrote_both}
use Rattle.output.specs.Writing.{Wrote, Put, SameLengths, rows_text}

-- nothing to write
pub put_nothing : {need at : ℕ} {out : List ℕ} → Put need at [] out at out
put_nothing = record { fits = λ h. record { inside = omega arith; written = refl; behind = omega arith }; full = λ h. (refl, refl) }

pub rows_text_lem : {slots values fates whens bys : List ℕ} → SameLengths slots values fates whens bys
    → row_lines (rows (arrivals slots values) (record { fates = fates; whens = whens; bys = bys }))
    ≡ rows_text slots values (record { fates = fates; whens = whens; bys = bys })
unfolding rows_text
rows_text_lem same = rw (eq-eqb _ _ same.of_values, eq-eqb _ _ same.of_fates, eq-eqb _ _ same.of_whens, eq-eqb _ _ same.of_bys) refl

-- lists that keep their lengths
pub same_kept : {slots values fates whens bys fates' whens' bys' : List ℕ} → SameLengths slots values fates whens bys → length fates' ≡ length fates
    → length whens' ≡ length whens → length bys' ≡ length bys → SameLengths slots values fates' whens' bys'
same_kept same f w b =
    record { of_values = same.of_values; of_fates = f ∙ same.of_fates; of_whens = w ∙ same.of_whens; of_bys = b ∙ same.of_bys }

-- a header, its line's end, and a record's rows behind them
pub put_rows_behind : {n m k next next' next'' : ℕ} {text end out out' out'' out''' slots values fates whens bys : List ℕ} → n ≡ length text → m ≡ length end
    → n + m + k ≤ length out → k ≡ 128 * length slots → Put n 0 text out next out' → Put m next end out' next' out''
    → Put k next' (rows_text slots values (record { fates = fates; whens = whens; bys = bys })) out'' next'' out'''
    → SameLengths slots values fates whens bys
    → Wrote 0 (text ++ (end ++ row_lines (rows (arrivals slots values) (record { fates = fates; whens = whens; bys = bys })))) out next'' out'''
put_rows_behind {text = text} {end} {out} {out'} exact exact' long size first second third same =
    let one = first.fits (omega arith) in
    let long' = ap length one.written ∙ length-sets out 0 text in
    let two = second.fits (omega (arith, one.behind, long')) in
    let long'' = ap length two.written ∙ length-sets out' _ end in
    wrote_both one (wrote_both two (wrote_same (sym (rows_text_lem same)) refl (third.fits (omega (arith, one.behind, two.behind, long', long'')))))
