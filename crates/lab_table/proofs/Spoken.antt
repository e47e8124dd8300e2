-- What is said of lists of any length: the table where they are as long as they have to be, else nothing.
use Prim.Native.Nat.{ℕ, ◌≤◌, ◌<◌}
use mathlib.Core.Path.{◌≡◌, refl, ◌∙◌}
use mathlib.Core.List.{List, []}
use native.Mathlib.Omega.{arith}
use lib.ListN.{length, take}
use lib.Seq.{length-take-le}
use borrow.Author.Tests.{lt-ltb, le-ltb}
use Rattle.model.specs.declared.Beta.{Beta}
use Rattle.output.specs.Writing.{Wrote, Put}
use Rattle.output.proofs.Writing.{wrote_same}
use Rattle.lab_table.specs.Writing.{Begins}
use Rattle.lab_table.specs.Table.{most_betas, table_limit, table_text, table_spoken}

module _ (room : ℕ) (betas : List Beta) (slots values out : List ℕ) where
  abbrev Silent : Type 0
  Silent = Wrote 0 (table_spoken room betas slots values out) out 0 out

  silent : [] ≡ table_spoken room betas slots values out → Silent
  silent e = wrote_same e refl (record { inside = omega arith; written = refl; behind = refl })

  pub short_list : length out < table_limit → Silent
  unfolding table_spoken
  short_list short = silent (rw (lt-ltb (length out) table_limit short) refl)

  module _ (long : table_limit ≤ length out) where
    pub many_betas : most_betas < length betas → Silent
    unfolding table_spoken
    many_betas many = silent (rw (le-ltb (length out) table_limit long, lt-ltb most_betas (length betas) many) refl)

    pub spoken_all : length betas ≤ most_betas → table_text room betas slots values ≡ table_spoken room betas slots values out
    unfolding table_spoken
    spoken_all few = rw (le-ltb (length out) table_limit long, le-ltb most_betas (length betas) few) refl

    -- the part of a draft that has the table is written, where the list is as long as the draft
    pub table_spoken_lem : length betas ≤ most_betas → {n next : ℕ} {draft out' : List ℕ} → Begins n (table_text room betas slots values) draft
        → length draft ≤ length out → Put (length (take n draft)) 0 (take n draft) out next out' → Wrote 0 (table_spoken room betas slots values out) out next out'
    table_spoken_lem few {n} {draft = draft} B fits P =
        wrote_same (B.is ∙ spoken_all few) refl (P.fits (omega (arith, length-take-le n draft B.inside, B.inside)))
