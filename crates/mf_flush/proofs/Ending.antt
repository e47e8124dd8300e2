-- The ends of slots under any policy: what is left of them, done on the lists as they are now, gives what all of them give on the lists as they were.
use Prim.Native.Nat.{ℕ, zero, suc, ◌+◌, ◌-◌, ◌≤◌, ◌<◌}
use mathlib.Core.Path.{◌≡◌, refl, sym, ap, ap₂, ◌∙◌}
use mathlib.Core.List.{List, [], ◌∷◌}
use native.Mathlib.Numerals.{add-one}
use native.Mathlib.Omega.{arith}
use lib.ListN.{length}
use Rattle.model.specs.declared.Packet.{Packet}
use Rattle.model.specs.Packets.{slots_until}
use Rattle.model.specs.Record.{Lists, entered}
use Rattle.model.specs.Course.{Step, Policy, and_then, unless_held, slot_ends}
use Rattle.steps.proofs.Turning.{entered_both}

module _ {S : Type 0} where
  idle_is : (queue : List Packet) (quiet busy : Step S) → length queue ≡ 0 → unless_held queue quiet busy ≡ quiet
  idle_is [] quiet busy h = refl
  idle_is (p ∷ queue) quiet busy h = absurd (omega arith)

  busy_is : (queue : List Packet) (quiet busy : Step S) → 0 < length queue → unless_held queue quiet busy ≡ busy
  busy_is [] quiet busy h = absurd (omega arith)
  busy_is (p ∷ queue) quiet busy h = refl

  module _ (P : Policy S) (until : ℕ) where
    abbrev pub ends : ℕ → S → Step S
    ends slot s = slot_ends P (slots_until (record { 0 = slot }) (record { 0 = until })) (record { 0 = slot }) s

    abbrev nothing : S → Step S
    nothing s = record { entries = []; next = s }

    ends_past : (slot : ℕ) (s : S) → until ≤ slot → ends slot s ≡ nothing s
    unfolding slot_ends
    ends_past slot s h =
        let none : until - slot ≡ 0 = omega arith in
        rw none refl

    ends_idle : (slot : ℕ) (s : S) → length (P.held s) ≡ 0 → ends slot s ≡ nothing s
    unfolding slot_ends
    ends_idle slot s h = go (until - slot)
      where
        go : (n : ℕ) → slot_ends P n (record { 0 = slot }) s ≡ nothing s
        go zero = refl
        go (suc n) = idle_is (P.held s) _ _ h

    ends_turn : (slot : ℕ) (s : S) → slot < until → 0 < length (P.held s)
        → ends slot s ≡ and_then (P.finish (record { 0 = slot }) s).entries (ends (slot + 1) (P.finish (record { 0 = slot }) s).next)
    unfolding slot_ends
    ends_turn slot s h some =
        let more : until - slot ≡ suc (until - (slot + 1)) = omega arith in
        rw (more, add-one slot) (busy_is (P.held s) _ _ some)

    module _ (slot₀ : ℕ) (s₀ : S) (before : Lists) where
      -- the ends from slot₀ on come to those from `slot` on
      pub record Ending (slot : ℕ) (s : S) (now : Lists) : Type 0 where
        pub next : (ends slot s).next ≡ (ends slot₀ s₀).next
        pub written : entered (ends slot s).entries now ≡ entered (ends slot₀ s₀).entries before

      -- they are done
      pub record Ended (s : S) (now : Lists) : Type 0 where
        pub state : s ≡ (ends slot₀ s₀).next
        pub written : now ≡ entered (ends slot₀ s₀).entries before

      pub ending_all : Ending slot₀ s₀ before
      ending_all = record { next = refl; written = refl }

      module _ (slot : ℕ) (s : S) (now : Lists) (E : Ending slot s now) where
        done : ends slot s ≡ nothing s → Ended s now
        unfolding entered
        done e =
            record {
              state = sym (ap (λ (step : Step S). step.next) e) ∙ E.next;
              written = sym (ap (λ (step : Step S). entered step.entries now) e) ∙ E.written;
            }

        pub ending_past : until ≤ slot → Ended s now
        ending_past h = done (ends_past slot s h)

        pub ending_idle : length (P.held s) ≡ 0 → Ended s now
        ending_idle h = done (ends_idle slot s h)

        pub ending_turn : slot < until → 0 < length (P.held s)
            → (s' : S) (now' : Lists) → s' ≡ (P.finish (record { 0 = slot }) s).next → now' ≡ entered (P.finish (record { 0 = slot }) s).entries now
            → Ending (slot + 1) s' now'
        ending_turn h some s' now' e w =
            let end = P.finish (record { 0 = slot }) s in
            let turn = ends_turn slot s h some in
            let rest = ends (slot + 1) end.next in
            record {
              next = ap (λ (t : S). (ends (slot + 1) t).next) e ∙ sym (ap (λ (step : Step S). step.next) turn) ∙ E.next;
              written =
                  ap₂ (λ (t : S) (ls : Lists). entered (ends (slot + 1) t).entries ls) e w
                  ∙ sym (entered_both end.entries rest.entries now)
                  ∙ sym (ap (λ (step : Step S). entered step.entries now) turn)
                  ∙ E.written;
            }
