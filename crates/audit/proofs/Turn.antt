-- One turn of the sweep as the code makes it: the laws of Kept at the row that was read, with the values that the code computed on the way.
use Prim.Native.Nat.{ℕ, ◌+◌, ◌-◌, ◌≤◌, ◌<◌, max}
use native.Mathlib.Omega.{arith}
use mathlib.Core.Path.{◌≡◌, sym, ap, ◌∙◌}
use mathlib.Core.Bool.{false, cond}
use mathlib.Core.List.{List, []}
use lib.ListN.{length, get_or, set}
use lib.Dec.{ltb}
use Rattle.model.specs.declared.Fate.{Fate}
use Rattle.model.specs.declared.Slot.{Slot}
use Rattle.model.specs.declared.Fault.{Fault}
use Rattle.model.specs.Record.{Row, Lists, fate_number}
use Rattle.model.specs.Rules.{Verdict, clear, by_wrong, first_fault_from, buffer_of}
use Rattle.model.specs.Refusals.{value_ok}
use Rattle.model.specs.Answers.{fault_number}
use Rattle.laws.specs.Accepted.{Accepted}
use Rattle.audit.specs.Rows.{row_at}
use Rattle.audit.specs.Sweep.{leave_of}
use Rattle.audit_faults.specs.Faults.{last_of, row_fault}
use Rattle.totals.proofs.Counting.{only_le}
use Rattle.audit.proofs.Faults.{first_clear}
use Rattle.audit.proofs.Held.{leave_le}
use Rattle.audit.proofs.Kept as laws
use Rattle.audit.proofs.Kept.{Kept, rest}

-- where the packet at place i, of fate f, has been read
pub record Turn (slots values : List ℕ) (room : ℕ) (lists : Lists) (i held most : ℕ) (last : Slot) (leaving : List ℕ) (r : Row) (f : Fate) : Type 0 where
  pub tested : Accepted value_ok slots values room lists
  pub kept : Kept slots values room lists i held most last.0 leaving
  pub here : i < length slots
  pub row_is : r ≡ row_at slots values lists i
  pub fate_is : r.fate ≡ fate_number f

module _ {slots values : List ℕ} {room : ℕ} {lists : Lists} {i held most : ℕ} {last : Slot} {leaving : List ℕ} {r : Row} {f : Fate}
    (t : Turn slots values room lists i held most last leaving r f) where
  fate_at : (row_at slots values lists i).fate ≡ fate_number f
  fate_at = ap (λ (x : Row). x.fate) (sym t.row_is) ∙ t.fate_is

  abbrev whole : Verdict
  whole = first_fault_from (buffer_of slots room) [] (rest slots values lists 0)

  pub leaving_le : get_or leaving i 0 ≤ held
  leaving_le = laws.leaving_le slots values room lists i held most last leaving t.tested t.kept t.here f fate_at

  pub held_le : held ≤ i
  held_le = laws.held_le slots values room lists i held most last leaving t.tested t.kept t.here f fate_at

  pub on_fault : (g : Fault) → row_fault slots last.0 r ≡ record { number = fault_number g; place = i + 1 }
      → whole ≡ record { number = fault_number g; place = i + 1 }
  on_fault g e =
      laws.turn_fault slots values room lists i held most last leaving t.tested t.kept t.here f fate_at g (rw t.row_is at e)

  pub by_right : row_fault slots last.0 r ≡ clear → by_wrong (length slots) r ≡ false
  by_right e = first_clear (by_wrong (length slots) r) 11 r.number.0 _ e

  -- what the code computes of the row
  module _ {leave stays : ℕ} (clear-here : row_fault slots last.0 r ≡ clear) (leave-is : leave ≡ leave_of slots r) (stays-is : stays ≡ cond (ltb i leave) 1 0) where
    pub leave_in : leave < length leaving
    leave_in = omega (arith, leave-is, leave_le f slots r t.fate_is (by_right clear-here), t.kept.places, t.tested.few)

    pub stays_le : stays ≤ 1
    stays_le = rw stays-is (only_le (ltb i leave) 1)

    clear_at : row_fault slots last.0 (row_at slots values lists i) ≡ clear
    clear_at = rw t.row_is at clear-here

    pub on_over : room < held - get_or leaving i 0 + stays → whole ≡ record { number = 15; place = i + 1 }
    on_over l =
        laws.turn_over slots values room lists i held most last leaving t.tested t.kept t.here f fate_at clear_at
        (rw (stays-is, leave-is, t.row_is) at l)

    pub on_clear : held - get_or leaving i 0 + stays ≤ room → {most' : ℕ} {last' : Slot} → most' ≡ max most (held - get_or leaving i 0 + stays) → last' ≡ last_of last r
        → Kept slots values room lists (i + 1) (held - get_or leaving i 0 + stays) most' last'.0 (set leaving leave (get_or leaving leave 0 + stays))
    on_clear l m n =
        rw (m, n, stays-is, leave-is, t.row_is)
        (laws.turn_on slots values room lists i held most last leaving t.tested t.kept t.here f fate_at clear_at (rw (stays-is, leave-is, t.row_is) at l))
