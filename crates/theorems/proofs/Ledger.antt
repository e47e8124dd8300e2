-- A history is one call after another, and of each the port keeps its books: so what was given out is held or gone, and since an arrival gives out the number
-- after the last, the numbers given out are those from 1 to the last, once each. A made port begins with nothing given out and nothing held.
use Prim.Native.Nat.{ℕ, suc, ◌+◌, ◌≤◌, ◌<◌}
use native.Mathlib.Omega.{arith}
use mathlib.Core.Path.{◌≡◌, refl, sym, ap, ◌∙◌}
use mathlib.Core.Logic.{◌⊎◌, inl, inr}
use mathlib.Core.Bool.{true}
use mathlib.Core.List.{List, [], ◌∷◌, ◌++◌}
use lib.ListN.{length, length-append}
use lib.Dec.{eqb}
use Rattle.model.specs.declared.Beta.{Beta}
use Rattle.model.specs.declared.Cause.TheVariants.{Unsound}
use Rattle.model.specs.declared.LossKind.{LossKind}
use Rattle.model.specs.declared.LossKind.TheVariants.{PushedOut, Preempted}
use Rattle.model.specs.declared.Packet.{Packet}
use Rattle.model.specs.declared.PacketNumber.{PacketNumber}
use Rattle.model.specs.Limits.{within}
use Rattle.model.specs.Course.{Decision, held, rejected, losing}
use Rattle.model.specs.Policies.PG.{pg_rule}
use Rattle.model.specs.Refusals.{making_refusal, arrival_refusal}
use Rattle.model.specs.Answers.{cause_number}
use Rattle.model.specs.Port.{PortState, PortOutcome, sound, packets_of, queue_of, says_of, next_packet, unless_refused, zero_port, make_call, arrive_call}
use Rattle.theorems.proofs.SoundPort.{made_sound}
use Rattle.laws.specs.Times.{times, times_held}
use Rattle.laws.proofs.Cases.{eqb_cases, cond_cases}
use Rattle.laws.proofs.Times.{times_append}
use Rattle.theorems.specs.Ledger.{Event, arrival, call_on, port_after, told, reply_number, given_by, gone_by, times_in, LedgerKept, RefusedKeeps, RefusedMaking}
use Rattle.theorems.proofs.Within.{counts_within}
use Rattle.theorems.proofs.Turns.{Gives, none, next, turn, stays_sound, no_8}

pub refused_making : RefusedMaking
unfolding sound within make_call unless_refused
refused_making = (
  refl,
  λ room beta.
      cond_cases (λ (o : PortOutcome). (o.reply.number ≡ 0 → ⊥) → o.port ≡ zero_port) (eqb (making_refusal room beta).number 0) _ _
      (λ e h. absurd (h refl)) (λ e h. refl),
)

-- each number above low, up to high, stands once in a list, and no other
record OnceUpTo (low high : ℕ) (numbers : List ℕ) : Type 0 where
  below : (n : ℕ) → n ≤ low → times_in n numbers ≡ 0
  among : (n : ℕ) → low < n → n ≤ high → times_in n numbers ≡ 1
  above : (n : ℕ) → high < n → times_in n numbers ≡ 0

-- what one more call before them gives out
gives_more : {low next_low high : ℕ} {given : List ℕ} (more : List ℕ) → Gives low next_low given → next_low ≤ high → OnceUpTo next_low high more
    → OnceUpTo low high (given ++ more)
unfolding times
gives_more more none rises O = O
gives_more {low} {next_low} {high} more next rises O =
    record {
      below = λ n h. eqb_cases (suc low) n _ (λ t q. absurd (omega arith)) λ t q. rw t (omega (arith, O.below n (omega arith)));
      among = λ n h k.
          eqb_cases (suc low) n _
          (λ t q. rw t (omega (arith, O.below n (omega arith))))
          λ t q. rw t (omega (arith, O.among n (omega arith) k));
      above = λ n h. eqb_cases (suc low) n _ (λ t q. absurd (omega arith)) λ t q. rw t (omega (arith, O.above n h));
    }

gives_rises : {low high : ℕ} {given : List ℕ} → Gives low high given → low ≤ high
gives_rises none = omega arith
gives_rises next = omega arith

-- the same of a whole history, from any sound port
record Went (before : PortState) (events : List Event) (after : PortState) : Type 0 where
  is_sound : sound after ≡ true
  held_is : after.held ≡ length (queue_of after)
  never_8 : times_in (cause_number Unsound) (told reply_number before events) ≡ 0
  rises : before.last.0 ≤ after.last.0
  given_once : OnceUpTo before.last.0 after.last.0 (told given_by before events)
  balance : (n : ℕ) → times_held n (queue_of before) + times_in n (told given_by before events)
      ≡ times_held n (queue_of after) + times_in n (told gone_by before events)
  so_many : length (queue_of before) + length (told given_by before events) ≡ length (queue_of after) + length (told gone_by before events)

went : (port : PortState) (events : List Event) → sound port ≡ true → port.held ≡ length (queue_of port) → Went port events (port_after port events)
unfolding port_after told times
went port [] s h =
    record {
      is_sound = s;
      held_is = h;
      never_8 = refl;
      rises = omega arith;
      given_once = record { below = λ n h. refl; among = λ n h k. absurd (omega arith); above = λ n h. refl };
      balance = λ n. refl;
      so_many = refl;
    }
went port (e ∷ events) s h =
    let done = call_on port e in
    let T = turn port e s h in
    let W = went done.port events (stays_sound port e s) T.held_is in
    let given = given_by e done.reply in
    let gone = gone_by e done.reply in
    let more = told given_by done.port events in
    let lost = told gone_by done.port events in
    record {
      is_sound = W.is_sound;
      held_is = W.held_is;
      never_8 =
          eqb_cases done.reply.number (cause_number Unsound) _ (λ t q. absurd (no_8 port e s q)) λ t q. rw t (omega (arith, W.never_8));
      rises = omega (arith, gives_rises T.turned.gives, W.rises);
      given_once = gives_more more T.turned.gives W.rises W.given_once;
      balance = λ n.
          omega (arith, times_append (λ n. n) n given more, times_append (λ n. n) n gone lost, T.turned.balance n, W.balance n);
      so_many = omega (arith, length-append given more, length-append gone lost, T.turned.so_many, W.so_many);
    }

-- nothing was given out and nothing is held
record Empty (port : PortState) : Type 0 where
  last_is : port.last.0 ≡ 0
  held_is : port.held ≡ 0
  queue_is : queue_of port ≡ []

made_empty : (room : ℕ) (beta : Beta) → Empty (make_call room beta).port
unfolding make_call unless_refused packets_of
made_empty room beta =
    cond_cases (λ (o : PortOutcome). Empty o.port) (eqb (making_refusal room beta).number 0) _ _
    (λ e. record { last_is = refl; held_is = refl; queue_is = refl })
    (λ e. record { last_is = refl; held_is = refl; queue_is = refl })

pub ledger_kept : LedgerKept
unfolding times
ledger_kept room beta events made =
    let port = (make_call room beta).port in
    let E = made_empty room beta in
    let W = went port events (made_sound room beta made) (E.held_is ∙ ap length (sym E.queue_is)) in
    record {
      is_sound = W.is_sound;
      never_8 = omega (arith, W.never_8);
      given_once = λ n.
          counts_within _ _ n _ _
          (λ h. W.given_once.below n (omega (arith, E.last_is)))
          (λ h k. W.given_once.among n (omega (arith, E.last_is)) (omega arith))
          (λ h. W.given_once.above n (omega arith));
      held_or_gone = λ n. omega (arith, rw E.queue_is at (W.balance n));
      so_many = omega (arith, W.so_many, W.held_is, ap length E.queue_is);
    }

-- an arrival that is decided gives its number out
given_out : (value : ℕ) (n : PacketNumber) (decision : Decision) → given_by (arrival value) (says_of n decision) ≡ n.0 ∷ []
given_out value n held = refl
given_out value n rejected = refl
given_out value n (losing l) = by_kind l.packet l.kind
  where
    by_kind : (p : Packet) (kind : LossKind) → given_by (arrival value) (says_of n (losing (record { packet = p; kind = kind }))) ≡ n.0 ∷ []
    by_kind p PushedOut = refl
    by_kind p Preempted = refl

-- an arrival leaves the port as it was or gives its number out
same_or_given : (port : PortState) (value : ℕ)
    → ((arrive_call port value).port ≡ port) ⊎ (given_by (arrival value) (arrive_call port value).reply ≡ (next_packet port value).number.0 ∷ [])
unfolding arrive_call unless_refused
same_or_given port value =
    let p = next_packet port value in
    let decision = (pg_rule port.room port.beta (queue_of port) p).decision in
    cond_cases
    (λ (o : PortOutcome). (o.port ≡ port) ⊎ (given_by (arrival value) o.reply ≡ (next_packet port value).number.0 ∷ []))
    (eqb (arrival_refusal (sound port) port.last.0 value).number 0) _ _ (λ e. inr (given_out value p.number decision)) (λ e. inl refl)

pub refused_keeps : RefusedKeeps
refused_keeps port value h = go (same_or_given port value)
  where
    go : ((arrive_call port value).port ≡ port) ⊎ (given_by (arrival value) (arrive_call port value).reply ≡ (next_packet port value).number.0 ∷ [])
        → (arrive_call port value).port ≡ port
    go (inl same) = same
    go (inr given) = absurd (omega (arith, ap length (sym given ∙ h)))
