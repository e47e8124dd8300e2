-- Each test that a live call makes has its own cause, and the first that fails is the answer. Where all hold there is no refusal to see.
use Prim.Native.Nat.{ℕ}
use mathlib.Core.Path.{◌≡◌, refl, ap, sym}
use mathlib.Core.Bool.{Bool, true, false}
use lib.Dec.{ltb}
use borrow.Author.Tests.{ltb-false}
use Rattle.model.specs.declared.Beta.{Beta}
use Rattle.model.specs.declared.Cause.{Cause}
use Rattle.model.specs.declared.Cause.TheVariants.{Room, Parameters, Value, Spent, Unsound}
use Rattle.model.specs.Limits.{port_limits}
use Rattle.model.specs.Rules.{or_else}
use Rattle.model.specs.Answers.{cause_number}
use Rattle.model.specs.Refusals.{value_ok, room_ok, beta_ok, making_refusal, arrival_refusal, sound_refusal}
use Rattle.model.specs.Port.{PortState, PortOutcome, sound, make_call, arrive_call, end_of_slot_call}
use Rattle.port.specs.State.{refusing}
use Rattle.port.proofs.Calls.{making_room, making_beta, arrival_unsound, arrival_value, arrival_spent, slot_unsound}
use Rattle.theorems.specs.Fed.{Refuses, RefusalSeen}

-- a call that refuses for a cause is seen to
seen : (cause : Cause) (port : PortState) {outcome : PortOutcome} → refusing (cause_number cause) port ≡ outcome → Refuses outcome.reply
seen cause port e = (cause, (0, ap (λ (o : PortOutcome). o.reply) (sym e)))

making_seen : (room : ℕ) (beta : Beta) → ((making_refusal room beta).number ≡ 0 → ⊥) → Refuses (make_call room beta).reply
unfolding making_refusal or_else
making_seen room beta refused = go (room_ok room) refl (beta_ok beta) refl
  where
    go : (r : Bool) → room_ok room ≡ r → (b : Bool) → beta_ok beta ≡ b → Refuses (make_call room beta).reply
    go false r b e = seen Room _ (making_room room beta r)
    go true r false b = seen Parameters _ (making_beta room beta r b)
    go true r true b = absurd (refused (rw (r, b) refl))

module _ (port : PortState) where
  arrival_seen : (value : ℕ) → ((arrival_refusal (sound port) port.last.0 value).number ≡ 0 → ⊥) → Refuses (arrive_call port value).reply
  unfolding arrival_refusal or_else
  arrival_seen value refused = go (sound port) refl (value_ok value) refl (ltb port.last.0 port_limits.number) refl
    where
      go : (s : Bool) → sound port ≡ s → (v : Bool) → value_ok value ≡ v → (n : Bool) → ltb port.last.0 port_limits.number ≡ n
          → Refuses (arrive_call port value).reply
      go false s v e n f = seen Unsound port (arrival_unsound port value s)
      go true s false v n f = seen Value port (arrival_value port value s v)
      go true s true v false n = seen Spent port (arrival_spent port value s v (ltb-false _ _ n))
      go true s true v true n = absurd (refused (rw (s, v, n) refl))

  end_seen : ((sound_refusal (sound port)).number ≡ 0 → ⊥) → Refuses (end_of_slot_call port).reply
  end_seen refused = go (sound port) refl
    where
      go : (s : Bool) → sound port ≡ s → Refuses (end_of_slot_call port).reply
      go false s = seen Unsound port (slot_unsound port s)
      go true s = absurd (refused (rw s refl))

pub refusal_seen : RefusalSeen
refusal_seen room beta port value = (making_seen room beta, (arrival_seen port value, end_seen port))
