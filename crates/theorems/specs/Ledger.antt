-- 01, 'The live PG port': the ledger can't leak, over any history. From a made port, after any list of arrivals and ends of slots, the port is sound, no call
-- gave 8, and the packets held are the numbers given out less those answered rejected, lost or sent. The proofs are in proofs/Ledger.antt.
use Rattle.std.specs.Prelude.{ℕ, ◌+◌, ◌≡◌, Bool, true, false, cond, ◌||◌, List, [], ◌∷◌, ◌++◌, length, eqb}
use Rattle.model.specs.declared.Beta.{Beta}
use Rattle.model.specs.declared.Cause.{Cause}
use Rattle.model.specs.declared.Cause.TheVariants.{Value, Spent, Unsound}
use Rattle.model.specs.declared.Fate.{Fate}
use Rattle.model.specs.declared.Fate.TheVariants.{Sent, Rejected, PushedOut, Preempted}
use Rattle.model.specs.Limits.{within}
use Rattle.model.specs.Record.{fate_number}
use Rattle.model.specs.Answers.{PortReply, cause_number}
use Rattle.model.specs.Port.{PortState, PortOutcome, sound, queue_of, zero_port, make_call, arrive_call, end_of_slot_call}
use Rattle.laws.specs.Times.{times, times_held}

-- what happens at a port: a packet arrives, of any value, or a slot ends
pub data Event : Type 0 where
  arrival : ℕ → Event
  end_of_slot : Event

-- the call that this event makes
abbrev pub call_on : PortState → Event → PortOutcome
call_on port (arrival value) = arrive_call port value
call_on port end_of_slot = end_of_slot_call port

-- the port after a list of events
unfoldable pub port_after : PortState → List Event → PortState
port_after port [] = port
port_after port (e ∷ events) = port_after (call_on port e).port events

-- the numbers that the replies to a list of events tell, each reply read beside its event
unfoldable pub told : (Event → PortReply → List ℕ) → PortState → List Event → List ℕ
told reads port [] = []
told reads port (e ∷ events) = reads e (call_on port e).reply ++ told reads (call_on port e).port events

-- a reply's own number
abbrev pub reply_number : Event → PortReply → List ℕ
reply_number e reply = reply.number ∷ []

-- a reply says that this refusal was made
abbrev pub refused_for : Cause → PortReply → Bool
refused_for cause reply = eqb reply.number (cause_number cause)

-- a reply says that a packet has this fate
abbrev pub says_fate : Fate → PortReply → Bool
says_fate fate reply = eqb reply.number (fate_number fate)

-- the number given out: the arrival's, unless it was refused
abbrev pub given_by : Event → PortReply → List ℕ
given_by (arrival value) reply =
    cond (refused_for Value reply || refused_for Spent reply || refused_for Unsound reply) [] (reply.given.0 ∷ [])
given_by end_of_slot reply = []

-- the number answered rejected, lost or sent: the arrival's own, or that of the packet in the reply
abbrev pub gone_by : Event → PortReply → List ℕ
gone_by e reply =
    cond (says_fate Rejected reply) (reply.given.0 ∷ [])
    (cond (says_fate PushedOut reply || says_fate Preempted reply || says_fate Sent reply) (reply.packet.number.0 ∷ []) [])

-- how often a number stands in a list
abbrev pub times_in : ℕ → List ℕ → ℕ
times_in = times (λ n. n)

-- a port after events that began at another: every number from 1 to the last was given out once and no other; each that was given out is held or gone
pub record Kept (before : PortState) (events : List Event) (after : PortState) : Type 0 where
  pub is_sound : sound after ≡ true
  pub never_8 : times_in (cause_number Unsound) (told reply_number before events) ≡ 0
  pub given_once : (n : ℕ) → times_in n (told given_by before events) ≡ cond (within 1 after.last.0 n) 1 0
  pub held_or_gone : (n : ℕ) → times_in n (told given_by before events) ≡ times_held n (queue_of after) + times_in n (told gone_by before events)
  pub so_many : length (told given_by before events) ≡ after.held + length (told gone_by before events)

abbrev pub LedgerKept : Type 0
LedgerKept =
    (room : ℕ) (beta : Beta) (events : List Event)
    → (make_call room beta).reply.number ≡ 0
    → Kept (make_call room beta).port events (port_after (make_call room beta).port events)

-- an arrival that gives no number out, so a refused one, leaves the port as it was
abbrev pub RefusedKeeps : Type 0
RefusedKeeps =
    (port : PortState) (value : ℕ) → given_by (arrival value) (arrive_call port value).reply ≡ [] → (arrive_call port value).port ≡ port

-- the zero port isn't sound, and a refused making hands it back
abbrev pub RefusedMaking : Type 0
RefusedMaking =
    (sound zero_port ≡ false)
    × ((room : ℕ) (beta : Beta) → ((make_call room beta).reply.number ≡ 0 → ⊥) → (make_call room beta).port ≡ zero_port)
