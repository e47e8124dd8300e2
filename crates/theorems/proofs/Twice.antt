-- No record that obeys the rules sends more than twice as many packets of value at least w as a rule that pushes out the lowest. With g sent by the
-- rule, h held and c in the run at its head, and of the record `arrived` so far and `gone` already sent, either arrived is at most 2 g + h, or it is at
-- most 2 g + h + c and gone is at most 2 g + c.
use Prim.Native.Nat.{ℕ, zero, suc, ◌+◌, ◌-◌, ◌*◌, ◌≤◌}
use mathlib.Core.Path.{◌≡◌, refl, sym, ap, subst}
use mathlib.Core.Bool.{Bool, true, false, cond, ◌&&◌}
use mathlib.Core.List.{List, [], ◌∷◌, ◌++◌}
use native.Mathlib.Omega.{arith}
use lib.ListN.{length, take, drop, length-append}
use lib.Dec.{leb, ltb}
use borrow.Author.Tests.{leb-true, ltb-true, ltb-false}
use Rattle.model.specs.declared.Slot.{Slot}
use Rattle.model.specs.declared.Packet.{Packet}
use Rattle.model.specs.declared.Fate.TheVariants.{Sent}
use Rattle.model.specs.Record.{Row}
use Rattle.model.specs.Course.{Decided, first}
use Rattle.model.specs.Rules.{Buffer, Obeys, ObeysFrom, has_fate, count_of, buffer_of}
use Rattle.theorems.specs.Demand3.{sent_at_least}
use Rattle.laws.specs.Accepted.{Comes}
use Rattle.theorems.proofs.Trace.{arrival_of, trace_of}
use Rattle.theorems.proofs.Sending.{is_sent_hi, sent_before, SoFar, InOrder, before_sent, one_more, before_arrival, so_far}
use Rattle.theorems.proofs.Queue.{hi, hi_in, hi_run, hi_append, hi_length, run_hi, run_append, run_without, run_all}
use Rattle.theorems.proofs.Lowest.{LosesLowest, PushesOut}
use Rattle.theorems.proofs.SentBy.{sent_by}

-- the invariant
data Twice (arrived gone g h c : ℕ) : Type 0 where
  level : arrived ≤ g + g + h → Twice arrived gone g h c
  ahead : arrived ≤ g + g + h + c → gone ≤ g + g + c → Twice arrived gone g h c

-- the ends of n slots from t on
ends : (w n t u g e : ℕ) (queue : List Packet) (older : List Row) → InOrder older → u ≡ t + n → e ≡ g + hi_in w (take n queue)
    → Twice (sent_at_least w older) (sent_before w t older) g (hi_in w queue) (hi_run w queue)
    → Twice (sent_at_least w older) (sent_before w u older) e (hi_in w (drop n queue)) (hi_run w (drop n queue))
unfolding hi_in hi_run
ends w zero t u g e queue older o hu he j =
    let eu : u ≡ t = omega arith in
    let ee : e ≡ g = omega arith in
    rw (eu, ee) j
ends w (suc n) t u g e [] older o hu he (level h) = level (omega arith)
ends w (suc n) t u g e [] older o hu he (ahead h k) = level (omega arith)
ends w (suc n) t u g e (p ∷ queue) older o hu he j =
    ends w n (suc t) u (hi w p + g) e queue older o (omega arith) (omega arith) (go (leb w p.value) (one_more w t older o) j)
  where
    go : (b : Bool) → sent_before w (suc t) older ≤ suc (sent_before w t older)
        → Twice (sent_at_least w older) (sent_before w t older) g (cond b 1 0 + hi_in w queue) (cond b (suc (hi_run w queue)) 0)
        → Twice (sent_at_least w older) (sent_before w (suc t) older) (cond b 1 0 + g) (hi_in w queue) (hi_run w queue)
    go true m (level h) = level (omega arith)
    go true m (ahead h k) = ahead (omega arith) (omega arith)
    go false m (level h) = level (omega arith)
    go false m (ahead h k) = level (omega arith)

-- an arrival at which no packet of value at least w is lost
gained : (arrived gone g h c takes comes h' c' : ℕ) → takes ≤ comes → h' ≡ h + comes → c ≤ c'
    → Twice arrived gone g h c → Twice (takes + arrived) gone g h' c'
gained arrived gone g h c takes comes h' c' ht hh hc (level j) = level (omega arith)
gained arrived gone g h c takes comes h' c' ht hh hc (ahead j k) = ahead (omega arith) (omega arith)

-- an arrival that finds no room and no packet below w
full : (arrived gone g h c room n takes h' c' : ℕ) → gone ≤ arrived → c ≤ h → h ≤ n → room ≤ n → takes + arrived ≤ gone + room
    → n ≤ h' → n ≤ c' → Twice arrived gone g h c → Twice (takes + arrived) gone g h' c'
full arrived gone g h c room n takes h' c' e1 e2 e3 e4 e5 e6 e7 (level j) = ahead (omega arith) (omega arith)
full arrived gone g h c room n takes h' c' e1 e2 e3 e4 e5 e6 e7 (ahead j k) = ahead (omega arith) (omega arith)

-- a record takes no more than comes
takes_hi : (w : ℕ) (r : Row) → cond (is_sent_hi w r) 1 0 ≤ hi w (arrival_of r).packet
takes_hi w r = go (has_fate Sent r) (leb w r.value)
  where
    go : (s v : Bool) → cond (s && v) 1 0 ≤ cond v 1 0
    go true v = omega arith
    go false v = omega arith

module _ (w room : ℕ) (rule : List Packet → Packet → Decided) (pushes : PushesOut room rule) where
  -- an arrival that finds no room
  overflows : (arrived gone g takes : ℕ) (queue : List Packet) (p : Packet) (after : List Packet) → LosesLowest (queue ++ p ∷ []) after
      → room ≤ length queue → gone ≤ arrived → takes ≤ hi w p → takes + arrived ≤ gone + room
      → Twice arrived gone g (hi_in w queue) (hi_run w queue)
      → Twice (takes + arrived) gone g (hi_in w after) (hi_run w after)
  unfolding hi_in
  overflows arrived gone g takes queue p after l e0 e1 e2 e3 j = rw l.stay (go (leb w l.lost.value) refl)
    where
      were_hi : hi_in w queue + (hi w p + 0) ≡ hi_in w l.front + (hi w l.lost + hi_in w l.back)
      were_hi = omega (arith, simp (hi_append w) at (ap (hi_in w) l.were))

      go : (t : Bool) → leb w l.lost.value ≡ t
          → Twice (takes + arrived) gone g (hi_in w (l.front ++ l.back)) (hi_run w (l.front ++ l.back))
      go true e =
          let all = run_all w l.lost.value (l.front ++ l.back) (leb-true w l.lost.value e) l.low in
          let long : length queue ≡ length (l.front ++ l.back) =
          omega (arith, simp length-append at (ap length l.were), length-append l.front l.back) in
          full arrived gone g (hi_in w queue) (hi_run w queue) room (length queue) takes _ _
          e1 (run_hi w queue) (hi_length w queue) e0 e3
          (omega (arith, run_hi w (l.front ++ l.back))) (omega arith) j
      go false e =
          let none : ◌≡◌ {A = ℕ} (hi w l.lost) 0 = rw e in
          gained arrived gone g (hi_in w queue) (hi_run w queue) takes (hi w p) _ _ e2
          (omega (arith, were_hi, hi_append w l.front l.back))
          (omega (
            arith,
            run_append w queue (p ∷ []),
            subst (λ (q : List Packet). hi_run w q ≤ hi_run w (l.front ++ l.back)) (sym l.were)
                (run_without w l.front l.lost l.back e),
          )) j

  arrives : (arrived gone g takes : ℕ) (queue : List Packet) (p : Packet) → gone ≤ arrived → takes ≤ hi w p → takes + arrived ≤ gone + room
      → Twice arrived gone g (hi_in w queue) (hi_run w queue)
      → Twice (takes + arrived) gone g (hi_in w (rule queue p).queue) (hi_run w (rule queue p).queue)
  unfolding hi_in
  arrives arrived gone g takes queue p e1 e2 e3 j = go (ltb (length queue) room) refl
    where
      go : (t : Bool) → ltb (length queue) room ≡ t
          → Twice (takes + arrived) gone g (hi_in w (rule queue p).queue) (hi_run w (rule queue p).queue)
      go true e =
          rw (pushes.holds queue p (ltb-true (length queue) room e))
          (gained arrived gone g (hi_in w queue) (hi_run w queue) takes (hi w p) _ _ e2
          (omega (arith, hi_append w queue (p ∷ []))) (run_append w queue (p ∷ [])) j)
      go false e =
          let none : room ≤ length queue = ltb-false (length queue) room e in
          overflows arrived gone g takes queue p (rule queue p).queue (pushes.loses queue p none) none e1 e2 e3 j

  -- the whole walk
  twice_walk : (slots : List ℕ) (k g : ℕ) (now : Slot) (queue : List Packet) (older rows : List Row)
      → Comes slots now.0 k (trace_of rows)
      → ObeysFrom (buffer_of slots room) older rows
      → SoFar w room now.0 older
      → Twice (sent_at_least w older) (sent_before w now.0 older) g (hi_in w queue) (hi_run w queue)
      → sent_at_least w older + sent_at_least w rows ≤ 2 * (g + hi_in w (sent_by rule now queue (trace_of rows)))
  unfolding sent_by sent_at_least count_of
  twice_walk slots k g now queue older [] a o s (level j) = omega arith
  twice_walk slots k g now queue older [] a o s (ahead j i) = omega (arith, run_hi w queue)
  twice_walk slots k g now queue older (r ∷ rows) a o s j =
      let B : Buffer = buffer_of slots room in
      let gap = r.slot.0 - now.0 in
      let left = drop gap queue in
      let e = g + hi_in w (take gap queue) in
      let same = before_arrival w B older r o.0 in
      let here = so_far w B older r o.0 s.order in
      let j1 = ends w gap now.0 r.slot.0 g e queue older s.order (omega (arith, a.0.later)) refl j in
      let j2 = arrives (sent_at_least w older) (sent_before w r.slot.0 older) e (cond (is_sent_hi w r) 1 0) left (arrival_of r).packet
      (before_sent w r.slot.0 older) (takes_hi w r) (omega (arith, here.held)) j1 in
      omega (
        arith,
        twice_walk slots (suc k) e r.slot (rule left (arrival_of r).packet).queue (r ∷ older) rows a.1 o.1 here (rw same j2),
        hi_append w (take gap queue) (sent_by rule r.slot (rule left (arrival_of r).packet).queue (trace_of rows)),
      )

  pub sent_twice : (slots : List ℕ) (rows : List Row) → Comes slots 1 0 (trace_of rows) → Obeys (buffer_of slots room) rows
      → sent_at_least w rows ≤ 2 * hi_in w (sent_by rule first [] (trace_of rows))
  unfolding sent_at_least sent_before count_of hi_in
  sent_twice slots rows a o =
      omega (arith, twice_walk slots 0 0 first [] [] rows a o (record { order = tt; held = omega arith }) (level (omega arith)))
