-- `audit::sweep` meets its contract. The loop's invariant is what Kept says of the packets passed; each way through a turn is one of the laws of Turn.
use mathlib.Core.Path.{◌≡◌, refl, sym, ap, subst, ◌∙◌}
use lib.ListN.{length, get_or}
use mathlib.Core.Bool.{true, cond}
use mathlib.Core.List.{List}
use Prim.Native.Nat.{ℕ, ◌≤◌, ◌<◌}
use native.Mathlib.Omega.{arith}
use Rattle.std.proofs.Common.{rules}
use native.Mathlib.Numerals.{add-one}
use Rattle.audit_faults.specs.Faults.{found_of, row_fault}
use Rattle.audit.proofs.Kept.{Kept, kept_start, kept_end, turn_outside}
use Rattle.audit.proofs.Turn as turn
use Rattle.audit.specs.Rows.{row_at, Reads}
use Rattle.audit_faults.specs.Faults.{row_of}
use Rattle.model.specs.declared.Fault.{Fault}
use Rattle.std.specs.Prelude.{Option, None, Result, Ok}
use Rattle.model.specs.declared.PacketNumber.{PacketNumber}
use Rattle.laws.specs.Accepted.{Accepted}
use Rattle.model.specs.declared.Fate.{Fate}
use Rattle.model.specs.declared.Slot.{Slot}
use Rattle.model.specs.Refusals.{value_ok}
use Rattle.audit.specs.Sweep.{leave_of}
use lib.Dec.{ltb}
use Rattle.model.specs.Answers.{fault_number}
use Rattle.model.specs.Limits.{record_limits}
use Rattle.model.specs.Record.{Lists, Row, lists_of}
use Rattle.audit.proofs.Turn.{Turn}
use Rattle.model.specs.Rules.{Verdict, clear, verdict_if}
use Rattle.audit_faults.specs.declared.FatedRow.{FatedRow}
use Rattle.audit.proofs.sweep.Goals as goal

-- the turn, once the packet has been read
at_turn : {slots values : List ℕ} {room : ℕ} {lists : Lists} {i held most : ℕ} (last : Slot) {leaving : List ℕ} (row : FatedRow) {read : Result FatedRow Fault}
    → Accepted value_ok slots values room lists → Kept slots values room lists i held most last.0 leaving → i < length slots
    → Reads (row_at slots values lists i) read → read ≡ Ok row → Turn slots values room lists i held most last leaving (row_of row) row.fate
at_turn {slots = slots} {values = values} {lists = lists} {i = i} last row tested kept here reads is =
    record {
      tested = tested;
      kept = kept;
      here = here;
      row_is = subst (λ (x : Result FatedRow Fault). Reads (row_at slots values lists i) x) is reads;
      fate_is = refl;
    }

-- every place that the turn reads or writes is one of the array, and every count there is small
record Bounds (i leave stays : ℕ) (leaving : List ℕ) : Type 0 where
  here : i < record_limits.packets
  there : leave ≤ record_limits.packets
  stay : stays ≤ 1
  count_here : get_or leaving i 0 ≤ i
  count_there : get_or leaving leave 0 ≤ i

bounds : {slots values : List ℕ} {room : ℕ} {lists : Lists} {i held most : ℕ} {last : Slot} {leaving : List ℕ} {r : Row} {f : Fate}
    (t : Turn slots values room lists i held most last leaving r f) → row_fault slots last.0 r ≡ clear → {leave stays : ℕ} → leave ≡ leave_of slots r
    → stays ≡ cond (ltb i leave) 1 0 → Bounds i leave stays leaving
bounds {i = i} t clean {leave = leave} leave_is stays_is =
    let in_array = turn.leave_in t clean leave_is stays_is in
    record {
      here = omega (arith, t.here, t.tested.few);
      there = omega (arith, in_array, t.kept.places);
      stay = turn.stays_le t clean leave_is stays_is;
      count_here = t.kept.small i;
      count_there = t.kept.small leave;
    }

-- no fault was found
unfaulty : (found : Option Fault) (n : PacketNumber) {v : Verdict} → found_of found n ≡ v → found ≡ None → v ≡ clear
unfaulty found n told is = sym told ∙ ap (λ (x : Option Fault). found_of x n) is

pub loop-i-init : goal.loop-i-init
loop-i-init c =
    let a = c.args in
    kept_start a.slots.now a.values.now a.room (lists_of a.fates.now a.whens.now a.bys.now) _ refl c.requires.few

pub row_at-requires : goal.row_at-requires
row_at-requires c =
    let t = c.requires in
    record {
      in_slots = omega arith;
      in_values = omega (arith, t.lengths);
      in_fates = omega (arith, t.sized.fates);
      in_whens = omega (arith, t.sized.whens);
      in_bys = omega (arith, t.sized.bys);
      few = omega (arith, t.few);
    }

pub faulty-requires : goal.faulty-requires
faulty-requires c = omega (arith, c.requires.few, c.loop-i-test.true)

pub returns-in-Err : goal.returns-in-Err
returns-in-Err c =
    let a = c.args in
    let l = c.loop-i in
    let lists = lists_of a.fates.now a.whens.now a.bys.now in
    let read = subst (λ (x : Result FatedRow Fault). Reads (row_at a.slots.now a.values.now lists l.i) x) c.in-Err.is c.row_at.ensures in
    rw (c.faulty.ensures, read.1)
    (turn_outside a.slots.now a.values.now a.room lists l.i l.held l.most l.last.0 l.leaving c.requires l.invariant c.loop-i-test.true read.0)

pub faulty-requires-in-Some : goal.faulty-requires-in-Some
faulty-requires-in-Some c = omega (arith, c.requires.few, c.loop-i-test.true)

pub returns-in-Some : goal.returns-in-Some
returns-in-Some c =
    let t = at_turn c.loop-i.last c.in-Ok.row c.requires c.loop-i.invariant c.loop-i-test.true c.row_at.ensures c.in-Ok.is in
    let g = c.in-Some.fault in
    rw c.faulty-in-Some.ensures
    (turn.on_fault t g
    (sym c.fault_of.ensures
    ∙ ap (λ (x : Option Fault). found_of x c.in-Ok.row.number) c.in-Some.is
    ∙ ap (λ (n : ℕ). verdict_if true (fault_number g) n) (ap (λ (x : Row). x.number.0) t.row_is ∙ sym (add-one c.loop-i.i))))

pub leave_of-leave-requires : goal.leave_of-leave-requires
leave_of-leave-requires c =
    let t = at_turn c.loop-i.last c.in-Ok.row c.requires c.loop-i.invariant c.loop-i-test.true c.row_at.ensures c.in-Ok.is in
    let clean = unfaulty _ _ c.fault_of.ensures c.in_default.is in
    (c.requires.packets.never_down, turn.by_right t clean)

pub offset_bounds-leaving-i : goal.offset_bounds-leaving-i
offset_bounds-leaving-i c =
    let t = at_turn c.loop-i.last c.in-Ok.row c.requires c.loop-i.invariant c.loop-i-test.true c.row_at.ensures c.in-Ok.is in
    let clean = unfaulty _ _ c.fault_of.ensures c.in_default.is in
    let b = bounds t clean c.leave_of-leave.ensures c.only_if-stays.ensures in
    omega (arith, b.here)

pub bounds-leaving-i : goal.bounds-leaving-i
bounds-leaving-i c =
    let t = at_turn c.loop-i.last c.in-Ok.row c.requires c.loop-i.invariant c.loop-i-test.true c.row_at.ensures c.in-Ok.is in
    let clean = unfaulty _ _ c.fault_of.ensures c.in_default.is in
    let b = bounds t clean c.leave_of-leave.ensures c.only_if-stays.ensures in
    omega (arith, b.here)

pub overflow_sub-held : goal.overflow_sub-held
overflow_sub-held c =
    let t = at_turn c.loop-i.last c.in-Ok.row c.requires c.loop-i.invariant c.loop-i-test.true c.row_at.ensures c.in-Ok.is in
    turn.leaving_le t

pub overflow_add-held : goal.overflow_add-held
overflow_add-held c =
    let t = at_turn c.loop-i.last c.in-Ok.row c.requires c.loop-i.invariant c.loop-i-test.true c.row_at.ensures c.in-Ok.is in
    let clean = unfaulty _ _ c.fault_of.ensures c.in_default.is in
    let b = bounds t clean c.leave_of-leave.ensures c.only_if-stays.ensures in
    let held = turn.held_le t in
    omega (arith, b.here, b.stay, held)

pub offset_bounds-leaving-leave : goal.offset_bounds-leaving-leave
offset_bounds-leaving-leave c =
    let t = at_turn c.loop-i.last c.in-Ok.row c.requires c.loop-i.invariant c.loop-i-test.true c.row_at.ensures c.in-Ok.is in
    let clean = unfaulty _ _ c.fault_of.ensures c.in_default.is in
    let b = bounds t clean c.leave_of-leave.ensures c.only_if-stays.ensures in
    omega (arith, b.there)

pub bounds-leaving-leave : goal.bounds-leaving-leave
bounds-leaving-leave c =
    let t = at_turn c.loop-i.last c.in-Ok.row c.requires c.loop-i.invariant c.loop-i-test.true c.row_at.ensures c.in-Ok.is in
    let clean = unfaulty _ _ c.fault_of.ensures c.in_default.is in
    let b = bounds t clean c.leave_of-leave.ensures c.only_if-stays.ensures in
    omega (arith, b.there)

pub bounds-leaving-leave-in-loop-i : goal.bounds-leaving-leave-in-loop-i
bounds-leaving-leave-in-loop-i c =
    let t = at_turn c.loop-i.last c.in-Ok.row c.requires c.loop-i.invariant c.loop-i-test.true c.row_at.ensures c.in-Ok.is in
    let clean = unfaulty _ _ c.fault_of.ensures c.in_default.is in
    let b = bounds t clean c.leave_of-leave.ensures c.only_if-stays.ensures in
    omega (arith, b.there)

pub overflow_add-leaving : goal.overflow_add-leaving
overflow_add-leaving c =
    let t = at_turn c.loop-i.last c.in-Ok.row c.requires c.loop-i.invariant c.loop-i-test.true c.row_at.ensures c.in-Ok.is in
    let clean = unfaulty _ _ c.fault_of.ensures c.in_default.is in
    let b = bounds t clean c.leave_of-leave.ensures c.only_if-stays.ensures in
    omega (arith, b.here, b.stay, b.count_there)

pub overflow_cast-held : goal.overflow_cast-held
overflow_cast-held c =
    let t = at_turn c.loop-i.last c.in-Ok.row c.requires c.loop-i.invariant c.loop-i-test.true c.row_at.ensures c.in-Ok.is in
    let clean = unfaulty _ _ c.fault_of.ensures c.in_default.is in
    let b = bounds t clean c.leave_of-leave.ensures c.only_if-stays.ensures in
    let held = turn.held_le t in
    omega (arith, b.here, b.stay, held)

pub faulty-requires-then-room-held : goal.faulty-requires-then-room-held
faulty-requires-then-room-held c = omega (arith, c.requires.few, c.loop-i-test.true)

pub returns-then-room-held : goal.returns-then-room-held
returns-then-room-held c =
    let t = at_turn c.loop-i.last c.in-Ok.row c.requires c.loop-i.invariant c.loop-i-test.true c.row_at.ensures c.in-Ok.is in
    let clean = unfaulty _ _ c.fault_of.ensures c.in_default.is in
    rw c.faulty-then-room-held.ensures (turn.on_over t clean c.leave_of-leave.ensures c.only_if-stays.ensures c.if-room-held.true)

pub loop-i-preserved : goal.loop-i-preserved
loop-i-preserved c =
    let t = at_turn c.loop-i.last c.in-Ok.row c.requires c.loop-i.invariant c.loop-i-test.true c.row_at.ensures c.in-Ok.is in
    let clean = unfaulty _ _ c.fault_of.ensures c.in_default.is in
    turn.on_clear t clean c.leave_of-leave.ensures c.only_if-stays.ensures c.if-room-held.false (search rules) c.last_of-last.ensures

pub returns : goal.returns
returns c =
    let a = c.args in
    let l = c.loop-i in
    kept_end a.slots.now a.values.now a.room (lists_of a.fates.now a.whens.now a.bys.now) l.i l.held l.most l.last.0 l.leaving l.invariant c.loop-i-test.false
