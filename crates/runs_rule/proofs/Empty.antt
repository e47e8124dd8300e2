-- A packet that finds nothing held is held under either rule, where there is room for one.
use Prim.Native.Nat.{ℕ, ◌≤◌}
use mathlib.Core.Path.{◌≡◌, refl, ap, ◌∙◌}
use mathlib.Core.List.{List, [], ◌∷◌}
use native.Mathlib.Omega.{arith}
use lib.ListN.{length}
use borrow.Author.Tests.{lt-ltb}
use Rattle.model.specs.declared.Packet.{Packet}
use Rattle.model.specs.Policies.PG.{preempted_at}
use Rattle.model.specs.declared.Rule.{Rule}
use Rattle.model.specs.declared.Rule.TheVariants.{Greedy, PG}
use Rattle.queue.specs.declared.Choice.{Choice}
use Rattle.queue.specs.declared.Choice.TheVariants.{Hold}
use Rattle.queue.specs.Choose.{applied, choose, greedy_choice}
use Rattle.laws.specs.AtOnce.{at_once}
use Rattle.queue.proofs.Choose.{decided}

chosen : (room : ℕ) (rule : Rule) (arrival : ℕ) → 1 ≤ room → choose room rule [] arrival ≡ Hold
unfolding choose greedy_choice preempted_at
chosen room Greedy arrival h = rw (lt-ltb 0 room h) refl
chosen room (PG beta) arrival h = rw (lt-ltb 0 room h) refl

pub holds_at_once : (room : ℕ) (rule : Rule) (queue : List Packet) (p : Packet) → 1 ≤ room → length queue ≡ 0 → at_once room rule queue p ≡ applied Hold queue p
holds_at_once room rule [] p h e = decided room rule [] p ∙ ap (λ (k : Choice). applied k [] p) (chosen room rule p.value h)
holds_at_once room rule (x ∷ queue) p h e = absurd (omega arith)
