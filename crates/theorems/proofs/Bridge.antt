-- From a run to the rows of its record: at every line the record of a fair rule's run has no fewer sent packets than the run sends. Each packet is
-- entered once, so its row has the fate of that entry, and each packet that is sent is one of the trace.
use Prim.Native.Nat.{ℕ, suc, ◌+◌, ◌≤◌, ◌<◌}
use mathlib.Core.Path.{◌≡◌, refl, ◌∙◌}
use mathlib.Core.Bool.{Bool, true, false, cond, ◌&&◌}
use mathlib.Core.List.{List, [], ◌∷◌}
use native.Mathlib.Omega.{arith}
use lib.ListN.{length}
use lib.Dec.{leb, eqb}
use borrow.Author.Tests.{eq-eqb}
use Rattle.model.specs.declared.Packet.{Packet}
use Rattle.model.specs.Packets.{Arrival, arrivals}
use Rattle.model.specs.Record.{Entry, fate_number}
use Rattle.model.specs.Rules.{has_fate, count_of}
use Rattle.model.specs.Course.{Decided, run_by, first}
use Rattle.laws.specs.Times.{times, times_entered, times_held}
use Rattle.laws.specs.Accepted.{Comes}
use Rattle.laws.proofs.Fifo.{Fair, fifo_by_rule}
use Rattle.laws.proofs.Conserving.{conserving}
use Rattle.laws.proofs.Cases.{eqb_cases}
use Rattle.laws.proofs.Entered.{entry_of, rows_by, rows_said}
use Rattle.laws.proofs.WellFormed.{course_once}
use Rattle.laws.proofs.Lists.{arrivals_length}
use Rattle.theorems.specs.Demand3.{sent_at_least, rows_run}
use Rattle.theorems.proofs.Each.{Each, each_map}
use Rattle.theorems.proofs.Queue.{hi, hi_in}
use Rattle.theorems.proofs.SentBy.{sent_by, times_sent, course_sent, each_sent}

sent_entered : (n : ℕ) (entries : List Entry) → times_sent n entries ≤ times_entered n entries
unfolding times_sent times
sent_entered n [] = omega arith
sent_entered n (e ∷ entries) = go (eqb e.number.0 n) (eqb (fate_number e.fate) 1) (sent_entered n entries)
  where
    go : (s t : Bool) → times_sent n entries ≤ times_entered n entries
        → cond (s && t) 1 0 + times_sent n entries ≤ cond s 1 0 + times_entered n entries
    go true true h = omega arith
    go true false h = omega arith
    go false t h = omega arith

-- a packet that is entered once is sent as often as its entry says
once_sent : (n : ℕ) (entries : List Entry) → times_entered n entries ≡ 1
    → cond (eqb (fate_number (entry_of n entries).fate) 1) 1 0 ≡ times_sent n entries
unfolding times_sent times entry_of
once_sent n [] h = absurd (omega arith)
once_sent n (e ∷ entries) h =
    eqb_cases e.number.0 n _
    (λ t q. rw t (omega (arith, rw t at h, sent_entered n entries)))
    (λ t q. rw t (omega (arith, once_sent n entries (omega (arith, rw t at h)))))

module _ (w : ℕ) where
  -- how often a packet's number stands in a trace at a value at least w
  unfoldable found : Packet → List Arrival → ℕ
  found p [] = 0
  found p (a ∷ trace) = cond (leb w a.packet.value) (cond (eqb p.number.0 a.packet.number.0) 1 0) 0 + found p trace

  -- how often the packets of a trace with a value at least w stand in a queue
  unfoldable found_all : List Packet → List Arrival → ℕ
  found_all queue [] = 0
  found_all queue (a ∷ trace) = cond (leb w a.packet.value) (times_held a.packet.number.0 queue) 0 + found_all queue trace

  found_more : (p : Packet) (queue : List Packet) (trace : List Arrival) → found_all (p ∷ queue) trace ≡ found p trace + found_all queue trace
  unfolding found_all found times
  found_more p queue [] = refl
  found_more p queue (a ∷ trace) = go (leb w a.packet.value) (found_more p queue trace)
    where
      go : (t : Bool) → found_all (p ∷ queue) trace ≡ found p trace + found_all queue trace
          → cond t (cond (eqb p.number.0 a.packet.number.0) 1 0 + times_held a.packet.number.0 queue) 0 + found_all (p ∷ queue) trace
          ≡ cond t (cond (eqb p.number.0 a.packet.number.0) 1 0) 0 + found p trace
          + (cond t (times_held a.packet.number.0 queue) 0 + found_all queue trace)
      go true h = omega arith
      go false h = omega arith

  hi_found : (queue : List Packet) (trace : List Arrival) → Each (λ p. hi w p ≤ found p trace) queue → hi_in w queue ≤ found_all queue trace
  unfolding hi_in
  hi_found [] trace h = omega arith
  hi_found (p ∷ queue) trace h = omega (arith, hi_found queue trace h.1, found_more p queue trace)

  -- each packet of a trace is found there
  all_found : (trace : List Arrival) → Each (λ a. hi w a.packet ≤ found a.packet trace) trace
  unfolding found
  all_found [] = tt
  all_found (a ∷ trace) = (
    rw (eq-eqb a.packet.number.0 a.packet.number.0 refl) (omega arith),
    each_map (λ b. hi w b.packet ≤ found b.packet trace) (λ b. hi w b.packet ≤ found b.packet (a ∷ trace))
        (λ b h. omega arith) trace (all_found trace),
  )

  -- where each packet is entered once, the rows have all that stand in the queue of sent packets
  rows_found_all : (entries : List Entry) (queue : List Packet) (slots : List ℕ) (k now : ℕ) (trace : List Arrival) → Comes slots now k trace
      → ((i : ℕ) → i < k + length trace → times_entered (suc i) entries ≡ 1)
      → ((n : ℕ) → times_sent n entries ≡ times_held n queue)
      → found_all queue trace ≤ sent_at_least w (rows_by entries trace)
  unfolding found_all sent_at_least count_of has_fate
  rows_found_all entries queue slots k now [] a once same = omega arith
  rows_found_all entries queue slots k now (b ∷ trace) a once same =
      rw a.0.number
      (go (leb w b.packet.value) (eqb (fate_number (entry_of (suc k) entries).fate) 1)
      (once_sent (suc k) entries (once k (omega arith)) ∙ same (suc k))
      (rows_found_all entries queue slots (suc k) b.slot.0 trace a.1 (λ i h. once i (omega arith)) same))
    where
      go : (t u : Bool) → cond u 1 0 ≡ times_held (suc k) queue → found_all queue trace ≤ sent_at_least w (rows_by entries trace)
          → cond t (times_held (suc k) queue) 0 + found_all queue trace ≤ cond (u && t) 1 0 + sent_at_least w (rows_by entries trace)
      go false u e h = omega arith
      go true true e h = omega arith
      go true false e h = omega arith

  module _ (rule : List Packet → Packet → Decided) (fair : (queue : List Packet) (p : Packet) → Fair queue p (rule queue p)) where
    pub rows_sent : (slots values : List ℕ) → length values ≡ length slots → Comes slots 1 0 (arrivals slots values)
        → hi_in w (sent_by rule first [] (arrivals slots values)) ≤ sent_at_least w (rows_run slots values (run_by rule (arrivals slots values)))
    rows_sent slots values l a =
        let trace = arrivals slots values in
        let entries = run_by rule trace in
        let once = course_once (conserving (fifo_by_rule rule fair)) slots values l first [] refl in
        let queue = sent_by rule first [] trace in
        rw (rows_said slots values entries l once)
        (omega (
          arith,
          hi_found queue trace (each_sent (λ p. hi w p ≤ found p trace) rule fair first [] trace tt (all_found trace)),
          rows_found_all entries queue slots 0 1 trace a (λ i h. once.once i (omega (arith, arrivals_length 1 slots values l)))
              (λ n. course_sent rule n first [] trace),
        ))
