-- Each command reads its own columns of the table.
use Prim.Native.Nat.{ℕ, ◌+◌, ◌*◌, ◌≤◌}
use mathlib.Core.Path.{◌≡◌, refl, sym, ap, ap₂, ◌∙◌}
use mathlib.Core.List.{List}
use native.Mathlib.Omega.{arith}
use lib.ListN.{length, drop, length-drop}
use lib.Seq.{length-take-le}
use Rattle.model.specs.declared.Beta.{Beta}
use Rattle.model.specs.Record.{lists_of}
use Rattle.output.specs.Output.{output_limit}
use Rattle.output.specs.Writing.{Wrote}
use Rattle.output.proofs.Writing.{wrote_same}
use Rattle.runs.specs.declared.Policy.{Policy}
use Rattle.lab_jobs.specs.declared.jobs.Job.{Job}
use Rattle.lab_jobs.specs.declared.jobs.Job.TheVariants.{Run, Table, Audit}
use Rattle.text.specs.Run.{run_text, run_spoken}
use Rattle.text.proofs.Policies.{spoken_all}
use Rattle.lab_table.specs.Table.{most_betas, table_text, table_spoken}
use Rattle.lab_table.proofs.Spoken as table
use Rattle.lab.specs.Audit.{audit_text}
use Rattle.lab.specs.Answer.{answer_text, columns_in}
use Rattle.lab_table.specs.Writing.{Begins}
use Rattle.lab_table.proofs.Tables.{begins}

module _ (rows : List ℕ) (count : ℕ) where
  abbrev column : ℕ → List ℕ
  column j = columns_in rows count j

  pub column_length : (j : ℕ) → j * 2048 + count ≤ length rows → length (column j) ≡ count
  column_length j fits = length-take-le count (drop (j * 2048) rows) (rw (length-drop (j * 2048) rows) (omega arith))

  module _ (job : Job) (betas : List Beta) where
    abbrev answer : List ℕ
    answer = answer_text job betas column

    answer_is : (job' : Job) → job ≡ job' → answer_text job' betas column ≡ answer
    answer_is job' is = ap (λ (j : Job). answer_text j betas column) (sym is)

    module _ {first second : List ℕ} (a : first ≡ column 0) (b : second ≡ column 1) where
      pub answer_run : {policy : Policy} {room n : ℕ} {out out' : List ℕ} → job ≡ Run policy room → output_limit ≤ length out
          → Wrote 0 (run_spoken policy room first second out) out n out' → Begins n answer out'
      answer_run {policy} {room} {out = out} is long W =
          let spoken = sym (spoken_all policy room first second out long) in
          begins (wrote_same (spoken ∙ ap₂ (run_text policy room) a b ∙ answer_is (Run policy room) is) refl W)

      pub answer_table : {room n : ℕ} {out out' : List ℕ} → job ≡ Table room → length betas ≤ most_betas → output_limit ≤ length out
          → Wrote 0 (table_spoken room betas first second out) out n out' → Begins n answer out'
      answer_table {room} {out = out} is few long W =
          let spoken = sym (table.spoken_all room betas first second out (omega arith) few) in
          begins (wrote_same (spoken ∙ ap₂ (table_text room betas) a b ∙ answer_is (Table room) is) refl W)

      pub answer_audit : {third fourth fifth sixth : List ℕ} {room n : ℕ} {out out' : List ℕ} → job ≡ Audit room → third ≡ column 2 → fourth ≡ column 3
          → fifth ≡ column 4 → sixth ≡ column 5 → Wrote 0 (audit_text room first second third (lists_of fourth fifth sixth)) out n out' → Begins n answer out'
      answer_audit {room = room} is c d e f W = begins (wrote_same (rw (a, b, c, d, e, f) (answer_is (Audit room) is)) refl W)
