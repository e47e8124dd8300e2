-- 01, 'Numbers to check by hand': P1 to P12. A row is a call with its arguments and its full answer: the reply, and what the three lists hold afterwards.
-- Before each call of a policy the lists hold 7 throughout. One computed test over the table proves all rows. How a row is written serves Idle.antt too.
use Rattle.std.specs.Prelude.{ℕ, ◌≡◌, refl, List, [], ◌∷◌, map, length, replicate}
use Rattle.model.specs.declared.Beta.{Beta}
use Rattle.model.specs.declared.Tally.{Tally}
use Rattle.model.specs.Limits.{within}
use Rattle.model.specs.Packets.{arrivals_from}
use Rattle.model.specs.Record.{Lists, entered, rows_of}
use Rattle.model.specs.Course.{slot_ends, course}
use Rattle.model.specs.Policies.Greedy.{below_all, loser_at, greedy_rule}
use Rattle.model.specs.Policies.PG.{preempted_at, pg_rule}
use Rattle.model.specs.declared.Marking.{Marking}
use Rattle.model.specs.Policies.MF.{mark_down, mark_from, flushed, unflushed}
use Rattle.model.specs.Policies.Plan.{insert, by_falling_value, fits_from, keep_in_turn, kept_rule}
use Rattle.model.specs.Rules.{has_fate, at_fate, count_of, fate_outside, by_wrong, when_wrong, not_after_last, not_later, is_held_at, over_room, or_else, fault_at, first_fault_from}
use Rattle.model.specs.Totals.{value_of, most_held_from, nothing, no_totals}
use Rattle.model.specs.Refusals.{packet_refusal_from, plain_refusal, pg_refusal, mf_refusal}
use Rattle.model.specs.Calls.{Outcome, run_unless, greedy_call, pg_call, mf_call, plan_call, audit_call}

-- a call: its slots, its values, its room and its own parameters
pub data Call : Type 0 where
  greedy : List ℕ → List ℕ → ℕ → Call
  pg : List ℕ → List ℕ → ℕ → Beta → Call
  mf : List ℕ → List ℕ → ℕ → Marking → Call
  plan : List ℕ → List ℕ → ℕ → Call
  audit : List ℕ → List ℕ → ℕ → Lists → Call

-- what the lists of n packets hold before a call
unfoldable pub before : ℕ → Lists
before n = record { fates = replicate n 7; whens = replicate n 7; bys = replicate n 7 }

unfoldable pub answer : Call → Outcome
answer (greedy slots values room) = greedy_call slots values room (before (length slots))
answer (pg slots values room beta) = pg_call slots values room beta (before (length slots))
answer (mf slots values room M) = mf_call slots values room M (before (length slots))
answer (plan slots values room) = plan_call slots values room (before (length slots))
answer (audit slots values room lists) = record { reply = audit_call slots values room lists; lists = lists }

pub record Example : Type 0 where
  pub call : Call
  pub gives : Outcome

-- fate/when/by
pub record Said : Type 0 where
  pub fate : ℕ
  pub when : ℕ
  pub by : ℕ

infix 80 ◌/◌/◌
unfoldable pub ◌/◌/◌ : ℕ → ℕ → ℕ → Said
f / w / b = record { fate = f; when = w; by = b }

unfoldable pub said_lists : List Said → Lists
said_lists said =
    record {
      fates = map (λ (s : Said). s.fate) said;
      whens = map (λ (s : Said). s.when) said;
      bys = map (λ (s : Said). s.by) said;
    }

-- so many packets, worth so much
infix 80 ◌#◌
unfoldable pub ◌#◌ : ℕ → ℕ → Tally
n # v = record { count = n; value = v }

-- an accepted run: its record, then arrived, sent, rejected, pushed out, preempted, flushed, most held
unfoldable pub accepted : List Said → Tally → Tally → Tally → Tally → Tally → Tally → ℕ → Outcome
accepted said arrived sent rejected pushedOut preempted flushed most =
    record {
      reply = record {
        number = 0;
        place = 0;
        totals = record {
          arrived = arrived;
          sent = sent;
          rejected = rejected;
          pushed_out = pushedOut;
          preempted = preempted;
          flushed = flushed;
          most_held = most;
        };
      };
      lists = said_lists said;
    }

-- a refusal or a fault: the lists are as before
stopped : ℕ → ℕ → Lists → Outcome
stopped number place lists =
    record { reply = record { number = number; place = place; totals = no_totals }; lists = lists }

-- an empty trace: accepted, totals 0
empty : Outcome
empty = accepted [] nothing nothing nothing nothing nothing nothing 0

ones : List ℕ
ones = 1 ∷ 1 ∷ 1 ∷ []

threes : List ℕ
threes = 3 ∷ 3 ∷ 3 ∷ []

-- the bench trace
bench_slots : List ℕ
bench_slots = 1 ∷ 1 ∷ 2 ∷ 2 ∷ []

bench_values : List ℕ
bench_values = 1 ∷ 9 ∷ 9 ∷ 9 ∷ []

-- P2's record but for one packet
p10 : Lists
p10 = said_lists (1 / 1 / 0 ∷ 1 / 2 / 0 ∷ 1 / 3 / 0 ∷ [])

p11 : Lists
p11 = said_lists (1 / 1 / 0 ∷ 1 / 1 / 0 ∷ 2 / 1 / 3 ∷ [])

infix 10 ◌gives◌
unfoldable pub ◌gives◌ : Call → Outcome → Example
c gives o = record { call = c; gives = o }

-- every row of a table holds
abbrev pub AllHold : List Example → Type 0
AllHold rows = map (λ (e : Example). answer e.call) rows ≡ map (λ (e : Example). e.gives) rows

table : List Example
table =
    -- P1 empty trace, any policy
    (greedy [] [] 2 gives empty)
    ∷ (pg [] [] 2 (record { num = 9; den = 1 }) gives empty)
    ∷ (mf [] [] 2 (record { lo = 1; hi = 4; r = 1 }) gives empty)
    ∷ (plan [] [] 2 gives empty)
    -- P2
    ∷ (greedy ones threes 2 gives
    accepted (1 / 1 / 0 ∷ 1 / 2 / 0 ∷ 2 / 1 / 3 ∷ []) (3 # 9) (2 # 6) (1 # 3) nothing nothing nothing 2)
    -- P3
    ∷ (greedy ones (1 ∷ 2 ∷ 3 ∷ []) 2 gives
    accepted (3 / 1 / 3 ∷ 1 / 1 / 0 ∷ 1 / 2 / 0 ∷ []) (3 # 6) (2 # 5) nothing (1 # 1) nothing nothing 2)
    -- P4
    ∷ (greedy ones (2 ∷ 2 ∷ 5 ∷ []) 2 gives
    accepted (1 / 1 / 0 ∷ 3 / 1 / 3 ∷ 1 / 2 / 0 ∷ []) (3 # 9) (2 # 7) nothing (1 # 2) nothing nothing 2)
    -- P5
    ∷ (pg (1 ∷ 1 ∷ []) (2 ∷ 6 ∷ []) 4 (record { num = 3; den = 1 }) gives
    accepted (4 / 1 / 2 ∷ 1 / 1 / 0 ∷ []) (2 # 8) (1 # 6) nothing nothing (1 # 2) nothing 1)
    -- P6
    ∷ (pg (1 ∷ 1 ∷ []) (2 ∷ 5 ∷ []) 4 (record { num = 3; den = 1 }) gives
    accepted (1 / 1 / 0 ∷ 1 / 2 / 0 ∷ []) (2 # 7) (2 # 7) nothing nothing nothing nothing 2)
    -- P7
    ∷ (pg ones (2 ∷ 1 ∷ 4 ∷ []) 3 (record { num = 2; den = 1 }) gives
    accepted (4 / 1 / 3 ∷ 1 / 1 / 0 ∷ 1 / 2 / 0 ∷ []) (3 # 7) (2 # 5) nothing nothing (1 # 2) nothing 2)
    -- P8
    ∷ (mf (1 ∷ 1 ∷ []) (1 ∷ 4 ∷ []) 3 (record { lo = 1; hi = 4; r = 1 }) gives
    accepted (5 / 1 / 2 ∷ 1 / 1 / 0 ∷ []) (2 # 5) (1 # 4) nothing nothing nothing (1 # 1) 2)
    -- P9 greedy sends value 19, the offline plan 27
    ∷ (greedy bench_slots bench_values 2 gives
    accepted (1 / 1 / 0 ∷ 1 / 2 / 0 ∷ 1 / 3 / 0 ∷ 2 / 2 / 4 ∷ []) (4 # 28) (3 # 19) (1 # 9) nothing nothing nothing 2)
    ∷ (plan bench_slots bench_values 2 gives
    accepted (2 / 1 / 1 ∷ 1 / 1 / 0 ∷ 1 / 2 / 0 ∷ 1 / 3 / 0 ∷ []) (4 # 28) (3 # 27) (1 # 1) nothing nothing nothing 2)
    -- P10 and P11
    ∷ (audit ones threes 2 p10 gives stopped 15 3 p10)
    ∷ (audit ones threes 2 p11 gives stopped 14 2 p11)
    -- P12
    ∷ (greedy (2 ∷ 1 ∷ []) (3 ∷ 3 ∷ []) 2 gives stopped 5 2 (before 2))
    ∷ []

by_hand : AllHold table
unfolding table answer before ◌/◌/◌ said_lists ◌#◌ accepted stopped empty ones threes bench_slots bench_values p10 p11 ◌gives◌
    within arrivals_from entered rows_of slot_ends course below_all loser_at greedy_rule preempted_at pg_rule mark_down mark_from flushed unflushed
    insert by_falling_value fits_from keep_in_turn kept_rule has_fate at_fate count_of fate_outside by_wrong when_wrong not_after_last not_later is_held_at over_room
    or_else fault_at first_fault_from value_of most_held_from packet_refusal_from plain_refusal pg_refusal mf_refusal run_unless greedy_call pg_call mf_call
    plan_call audit_call
by_hand = refl
