-- What keeping packets in turn needs and gives. Whether packets fit is a matter of slots: it is stated for packets of whatever values.
use Rattle.std.specs.Prelude.{ℕ, suc, min, ◌+◌, ◌-◌, ◌≤◌, ◌<◌, ◌≡◌, ⊤, Result, Bool, false, ◌&&◌, cond, List, length, get_or, set, eqb}
use Rattle.model.specs.Limits.{port_limits}
use Rattle.model.specs.Packets.{arrivals}
use Rattle.model.specs.Refusals.{plain_refusal}
use Rattle.model.specs.Policies.Plan.{fits, keep_in_turn, plan_kept}
use Rattle.model.specs.Rules.{Verdict}
use Rattle.model.specs.Record.{Lists}
use Rattle.model.specs.Lent.{LentList, was, left}
use Rattle.model.specs.declared.Refusal.{Refusal}
use Rattle.trace.specs.Checked.{verdict_of}
use Rattle.steps.specs.Places.{packets_at}

-- one entry for each packet, a room in range, and slots from 1 that never go down
pub record Keepable (slots : List ℕ) (room : ℕ) (kept : List ℕ) : Type 0 where
  pub same : length kept ≡ length slots
  pub room_to : room ≤ port_limits.room
  pub slot_from : (k : ℕ) → k < length slots → 1 ≤ get_or slots k 0
  pub sorted : (p q : ℕ) → p ≤ q → q < length slots → get_or slots p 0 ≤ get_or slots q 0

-- whether the kept packets fit
abbrev pub Fitting : List ℕ → ℕ → List ℕ → Bool → Type 0
Fitting slots room kept r = (values : List ℕ) → length values ≡ length slots → r ≡ fits room (arrivals slots values) kept

-- the packets at these places are taken in turn
abbrev pub TakenInTurn : List ℕ → ℕ → List ℕ → List ℕ → List ℕ → Type 0
TakenInTurn slots room places kept kept' =
    (values : List ℕ) → length values ≡ length slots → kept' ≡ keep_in_turn room (arrivals slots values) kept (packets_at slots values places)

-- how many slots end between the arrival at a place and the next
abbrev pub pause : List ℕ → ℕ → ℕ
pause slots k = get_or slots (k + 1) 0 - get_or slots k 0

-- how many kept packets are held just after each arrival: never more than room, so the kept packets fit
pub record HeldAs (slots : List ℕ) (room : ℕ) (kept held : List ℕ) : Type 0 where
  pub same : length held ≡ length slots
  pub single : (k : ℕ) → k < length slots → get_or kept k 0 ≤ 1
  pub roomy : (k : ℕ) → k < length slots → get_or held k 0 ≤ room
  pub first : 0 < length slots → get_or held 0 0 ≡ get_or kept 0 0
  pub next : (k : ℕ) → k + 1 < length slots → get_or held (k + 1) 0 ≡ (get_or held k 0 - pause slots k) + get_or kept (k + 1) 0

-- a place of the trace, a count for each packet, and slots that never go down
pub record Triable (slots held : List ℕ) (place : ℕ) : Type 0 where
  pub same : length held ≡ length slots
  pub inside : place < length slots
  pub sorted : (p q : ℕ) → p ≤ q → q < length slots → get_or slots p 0 ≤ get_or slots q 0

-- one packet more at a place is still there at the arrival at `end`: no pause before that is longer than what was held without it
abbrev pub Staying : List ℕ → List ℕ → ℕ → ℕ → Type 0
Staying slots held place end = (k : ℕ) → place ≤ k → k < end → pause slots k ≤ get_or held k 0

-- there is room for one packet more at a place: at each arrival from there on that finds it held, and it is gone by the arrival at `end`
pub record Spanning (slots : List ℕ) (room : ℕ) (held : List ℕ) (place end : ℕ) : Type 0 where
  pub inside : end ≤ length slots
  pub roomy : (k : ℕ) → place ≤ k → k < end → get_or held k 0 < room
  pub staying : (k : ℕ) → place ≤ k → k + 1 < end → pause slots k ≤ get_or held k 0
  pub gone : (k : ℕ) → k + 1 ≡ end → end < length slots → get_or held k 0 < pause slots k

-- one packet more at a place does not fit with kept packets that are held so
abbrev pub NoRoom : List ℕ → ℕ → List ℕ → ℕ → Type 0
NoRoom slots room held place =
    (kept : List ℕ) → Keepable slots room kept → HeldAs slots room kept held → get_or kept place 0 ≡ 0 → Fitting slots room (set kept place 1) false

-- how far one packet more at a place reaches
pub record Reach (slots : List ℕ) (room : ℕ) (held : List ℕ) (place end : ℕ) : Type 0 where
  pub spans : place < end → Spanning slots room held place end
  pub none : end ≤ place → NoRoom slots room held place

-- 1 from a place on up to an end, else 0
unfoldable pub within : ℕ → ℕ → ℕ → ℕ
within place end k = min (suc k - place) (min 1 (end - k))

-- counts that may grow by one
pub record Raisable (held : List ℕ) (place end : ℕ) : Type 0 where
  pub some : place ≤ end
  pub inside : end ≤ length held
  pub low : (k : ℕ) → place ≤ k → k < end → get_or held k 0 < port_limits.room

-- counts that are one more from a place on up to an end
pub record Raised (place end : ℕ) (held held' : List ℕ) : Type 0 where
  pub same : length held' ≡ length held
  pub raised : (k : ℕ) → get_or held' k 0 ≡ get_or held k 0 + within place end k

-- what becomes of `kept` where the test of the trace has this verdict: 1 for each packet that the plan keeps, 0 for every other; where the trace is refused,
-- or `kept` has not an entry for each packet, it is as before
unfoldable pub kept_after : Verdict → List ℕ → List ℕ → ℕ → List ℕ → List ℕ
kept_after verdict slots values room kept =
    cond (eqb verdict.number 0 && eqb (length kept) (length slots)) (plan_kept room (arrivals slots values)) kept

-- the answer is the test of the plan's trace, and `kept` follows it
abbrev pub TestsAndKeeps : List ℕ → List ℕ → Lists → LentList → ℕ → Result ⊤ Refusal → Type 0
TestsAndKeeps slots values lists kept room answer =
    let verdict = plain_refusal slots values room lists in
    (verdict_of answer ≡ verdict) × (left kept ≡ kept_after verdict slots values room (was kept))
