-- Rows laid over an accepted trace give the trace back, and their values are in range.
use Prim.Native.Nat.{ℕ, suc, ◌≤◌}
use mathlib.Core.Path.{◌≡◌, refl, ap, ◌∙◌, sym}
use mathlib.Core.Bool.{and-eq-true_iff}
use mathlib.Core.List.{List, [], ◌∷◌}
use native.Mathlib.Omega.{arith}
use lib.ListN.{length}
use lib.Dec.{leb}
use borrow.Author.Tests.{leb-true, not-false}
use Rattle.model.specs.declared.Slot.{Slot}
use Rattle.model.specs.Limits.{record_limits, within}
use Rattle.model.specs.Packets.{Arrival, arrivals, arrivals_from}
use Rattle.model.specs.Record.{Row, Lists, rows_of, rows}
use Rattle.model.specs.Refusals.{value_ok, packet_refusal_from, plain_refusal}
use Rattle.laws.specs.Recorded.{Sized}
use Rattle.laws.proofs.FirstFault.{or_else_zero, verdict_if_zero}
use Rattle.laws.proofs.Lists.{arrivals_length}
use Rattle.theorems.proofs.Lines.{ValuesTo}
use Rattle.theorems.proofs.Each.{Each}

-- the packet that a row is about
abbrev pub arrival_of : Row → Arrival
arrival_of r = record { slot = r.slot; packet = record { number = r.number; value = r.value } }

-- the trace under some rows
abbrev pub trace_of : List Row → List Arrival
trace_of [] = []
trace_of (r ∷ rows) = arrival_of r ∷ trace_of rows

pub trace_rows : (trace : List Arrival) (fates whens bys : List ℕ)
    → length fates ≡ length trace → length whens ≡ length trace → length bys ≡ length trace
    → trace_of (rows_of trace fates whens bys) ≡ trace
unfolding rows_of
trace_rows [] fates whens bys ef ew eb = refl
trace_rows (a ∷ trace) [] whens bys ef ew eb = absurd (omega arith)
trace_rows (a ∷ trace) (f ∷ fates) [] bys ef ew eb = absurd (omega arith)
trace_rows (a ∷ trace) (f ∷ fates) (w ∷ whens) [] ef ew eb = absurd (omega arith)
trace_rows (a ∷ trace) (f ∷ fates) (w ∷ whens) (b ∷ bys) ef ew eb =
    ap (λ (l : List Arrival). a ∷ l) (trace_rows trace fates whens bys (omega arith) (omega arith) (omega arith))

-- the rows of lists as long as the trace lie over it
pub over_trace : (slots values : List ℕ) (lists : Lists) → length values ≡ length slots → Sized (length slots) lists
    → trace_of (rows (arrivals slots values) lists) ≡ arrivals slots values
over_trace slots values lists l s =
    let long = arrivals_length 1 slots values l in
    trace_rows (arrivals slots values) lists.fates lists.whens lists.bys
    (s.fates ∙ sym long) (s.whens ∙ sym long) (s.bys ∙ sym long)

abbrev pub InRange : Arrival → Type 0
InRange a = a.packet.value ≤ record_limits.value

-- a trace that is not refused has its values in range
in_range_from : (n : ℕ) (before : Slot) (slots values : List ℕ) → (packet_refusal_from value_ok before (arrivals_from n slots values)).number ≡ 0
    → Each InRange (arrivals_from n slots values)
unfolding arrivals_from packet_refusal_from within
in_range_from n before [] values e = tt
in_range_from n before (s ∷ slots) [] e = tt
in_range_from n before (s ∷ slots) (v ∷ values) e =
    let later = or_else_zero _ _ (or_else_zero _ _ e).1 in
    let ok = (and-eq-true_iff (leb 1 v) (leb v record_limits.value)).0 (not-false _ (verdict_if_zero _ 5 _ later.0)) in
    (leb-true v record_limits.value ok.1, in_range_from (suc n) (record { 0 = s }) slots values later.1)

pub in_range : (slots values : List ℕ) (room : ℕ) (lists : Lists) → (plain_refusal slots values room lists).number ≡ 0
    → Each InRange (arrivals slots values)
unfolding plain_refusal
in_range slots values room lists e =
    in_range_from 1 (record { 0 = 0 }) slots values
    (or_else_zero _ _ (or_else_zero _ _ (or_else_zero _ _ (or_else_zero _ _ e).1).1).1).1

-- whatever a record says, its rows have the trace's values
pub values_rows : (trace : List Arrival) (fates whens bys : List ℕ) → Each InRange trace
    → ValuesTo record_limits.value (rows_of trace fates whens bys)
unfolding rows_of
values_rows [] fates whens bys h = tt
values_rows (a ∷ trace) [] whens bys h = tt
values_rows (a ∷ trace) (f ∷ fates) [] bys h = tt
values_rows (a ∷ trace) (f ∷ fates) (w ∷ whens) [] h = tt
values_rows (a ∷ trace) (f ∷ fates) (w ∷ whens) (b ∷ bys) h = (h.0, values_rows trace fates whens bys h.1)
