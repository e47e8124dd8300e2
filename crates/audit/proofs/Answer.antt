-- The audit's three answers: a refusal's number is never 0, nor is a fault's, so either shuts out what would follow it; and the totals of the rows are those
-- that were counted.
use Prim.Native.Nat.{ℕ}
use native.Mathlib.Omega.{arith}
use mathlib.Core.Path.{◌≡◌, refl, ap, ◌∙◌}
use mathlib.Core.Bool.{false}
use mathlib.Core.List.{List, []}
use lib.Dec.{eqb}
use Rattle.model.specs.declared.Fault.{Fault}
use Rattle.model.specs.declared.Fault.TheVariants as faults
use Rattle.model.specs.declared.FirstFault.{FirstFault}
use Rattle.model.specs.declared.Refusal.{Refusal}
use Rattle.model.specs.declared.Totals.{Totals}
use Rattle.model.specs.declared.AuditError.TheVariants as errors
use Rattle.std.specs.Prelude.{Ok, Err}
use Rattle.model.specs.Packets.{arrivals}
use Rattle.model.specs.Record.{Lists, rows}
use Rattle.model.specs.Rules.{Verdict, clear, or_else, first_fault, buffer_of}
use Rattle.model.specs.Totals.{totals_of, most_held_from}
use Rattle.model.specs.Refusals.{plain_refusal, value_ok}
use Rattle.model.specs.Answers.{cause_number, fault_number, of_audit}
use Rattle.model.specs.Calls.{audit_call}
use Rattle.laws.specs.Accepted.{Accepted}
use Rattle.totals.specs.Totals.{Countable, totals_by}
use Rattle.totals.proofs.Totalling.{rows_totals}
use Rattle.trace.proofs.Laws.{cause_refuses}

fault_some : (f : Fault) → eqb (fault_number f) 0 ≡ false
fault_some faults.FateOutside = refl
fault_some faults.ByWrong = refl
fault_some faults.WhenWrong = refl
fault_some faults.NotLater = refl
fault_some faults.OverRoom = refl

-- the lists of a tested trace can be counted
pub countable : (slots values : List ℕ) (room : ℕ) (lists : Lists) → Accepted value_ok slots values room lists → Countable values lists.fates
countable slots values room lists t =
    record {
      same = omega (arith, t.lengths, t.sized.fates);
      few = omega (arith, t.sized.fates, t.few);
      values_fit = λ k h. t.packets.taken k (omega (arith, t.lengths));
    }

-- the totals of its rows are those of its values and fates
pub totals_are : (slots values : List ℕ) (room : ℕ) (lists : Lists) (most : ℕ) → Accepted value_ok slots values room lists
    → most_held_from [] (rows (arrivals slots values) lists) ≡ most → totals_of (rows (arrivals slots values) lists) ≡ totals_by values lists.fates most
totals_are slots values room lists most t m =
    rows_totals slots values lists t.lengths t.sized
    ∙ ap (totals_by values lists.fates) m

module _ (slots values : List ℕ) (room : ℕ) (lists : Lists) where
  pub on_refused : (f : Refusal) → ◌≡◌ {A = Verdict} (record { number = cause_number f.cause; place = f.place }) (plain_refusal slots values room lists)
      → of_audit (Err (errors.Refused f)) ≡ audit_call slots values room lists
  unfolding audit_call or_else
  on_refused f e = rw (← e, cause_refuses f.cause, cause_refuses f.cause)

  pub on_faulty : (f : FirstFault) → clear ≡ plain_refusal slots values room lists
      → first_fault (buffer_of slots room) (rows (arrivals slots values) lists) ≡ record { number = fault_number f.fault; place = f.packet.0 }
      → of_audit (Err (errors.Faulty f)) ≡ audit_call slots values room lists
  unfolding audit_call or_else
  on_faulty f e d = rw (← e, d, fault_some f.fault)

  pub on_passed : (t : Totals) → clear ≡ plain_refusal slots values room lists
      → first_fault (buffer_of slots room) (rows (arrivals slots values) lists) ≡ clear → totals_of (rows (arrivals slots values) lists) ≡ t
      → of_audit (Ok t) ≡ audit_call slots values room lists
  unfolding audit_call or_else
  on_passed t e d q = rw (← e, d, ← q)
