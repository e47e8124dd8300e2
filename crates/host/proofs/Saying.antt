-- What a reply says: its number and place in one, and its totals where its number gives some: 0 or a fault's.
use Prim.Native.Nat.{ℕ, ◌≤◌, ◌<◌}
use mathlib.Core.Path.{◌≡◌, refl}
use mathlib.Core.Bool.{true, false}
use mathlib.Core.List.{List}
use lib.Dec.{leb}
use borrow.Author.Tests.{eq-eqb, ne_eqb, le-leb, lt-leb}
use Rattle.model.specs.declared.Fault.TheVariants as faults
use Rattle.std.specs.Prelude.{Result}
use Rattle.model.specs.declared.Totals.{Totals}
use Rattle.model.specs.declared.Refusal.{Refusal}
use Rattle.model.specs.declared.AuditError.{AuditError}
use Rattle.model.specs.Limits.{within}
use Rattle.model.specs.Record.{Lists}
use Rattle.model.specs.Answers.{Reply, fault_number, of_run, of_audit}
use Rattle.model.specs.Calls.{Outcome}
use Rattle.host.specs.Said.{code_of, told, gives_totals, Said, SaidOfAudit}

-- 0, below the faults, or from the first on
module _ (number : ℕ) where
  pub gives_zero : number ≡ 0 → true ≡ gives_totals number
  gives_zero is = rw (eq-eqb number 0 is) refl

  pub gives_none : {first : ℕ} → (number ≡ 0 → ⊥) → first ≡ fault_number faults.FateOutside → number < first → false ≡ gives_totals number
  unfolding within
  gives_none some is below = let low : number < 11 = rw is at below in rw (ne_eqb number 0 some, lt-leb 11 number low) refl

  pub gives_some : {first last : ℕ} → (number ≡ 0 → ⊥) → first ≡ fault_number faults.FateOutside → first ≤ number → last ≡ fault_number faults.OverRoom
      → leb number last ≡ gives_totals number
  unfolding within
  gives_some some is from is' = let high : 11 ≤ number = rw is at from in rw (ne_eqb number 0 some, le-leb 11 number high, is') refl

module _ (reply : Reply) {before after : List ℕ} {code : ℕ} (codes : code ≡ code_of reply.number reply.place) where
  pub saying : gives_totals reply.number ≡ true → after ≡ told reply.totals before → SaidOfAudit reply before code after
  saying gives tells = record { number = codes; totals = rw gives tells }

  pub saying_none : gives_totals reply.number ≡ false → after ≡ before → SaidOfAudit reply before code after
  saying_none gives kept = record { number = codes; totals = rw gives kept }

-- an answer's reply, said
pub replied : {reply answered : Reply} {before after : List ℕ} {code : ℕ} → reply ≡ answered → SaidOfAudit reply before code after
    → SaidOfAudit answered before code after
replied is says = rw (← is) says

-- a call's outcome, said
pub said : (answer : Result Totals Refusal) {outcome : Outcome} {left : Lists} {before after : List ℕ} {code : ℕ}
    → record { reply = of_run answer; lists = left } ≡ outcome → SaidOfAudit (of_run answer) before code after
    → Said outcome before code left after
said answer is says = rw (← is) (record { reply = says; lists = refl })

pub said_of_audit : (answer : Result Totals AuditError) {reply : Reply} {before after : List ℕ} {code : ℕ}
    → of_audit answer ≡ reply → SaidOfAudit (of_audit answer) before code after → SaidOfAudit reply before code after
said_of_audit answer is says = rw (← is) says
