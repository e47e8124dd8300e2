-- Why what is kept is the plan's: nothing is kept and nothing held before the first packet is taken, and the packets are taken in the plan's order.
use Prim.Native.Nat.{ℕ, ◌≤◌}
use mathlib.Core.Path.{◌≡◌, refl, sym, ap, ◌∙◌}
use mathlib.Core.Bool.{Bool, true, false, ◌&&◌, cond}
use mathlib.Core.List.{List, ◌++◌}
use native.Mathlib.Omega.{arith}
use lib.ListN.{length, replicate, length-append}
use lib.Dec.{eqb}
use borrow.Author.Tests.{eq-eqb, ne_eqb}
use Rattle.model.specs.declared.Refusal.{Refusal}
use Rattle.model.specs.Packets.{arrivals}
use Rattle.model.specs.Record.{Lists, lists_of}
use Rattle.model.specs.Rules.{Verdict, clear}
use Rattle.model.specs.Refusals.{value_ok, plain_refusal}
use Rattle.model.specs.Answers.{cause_number}
use Rattle.model.specs.Policies.Plan.{keep_in_turn, plan_kept}
use Rattle.laws.specs.Accepted.{Accepted}
use Rattle.laws.proofs.Accepted.{accepted}
use Rattle.laws.proofs.Lists.{arrivals_length}
use Rattle.steps.specs.Guarded.{Guarded}
use Rattle.steps.specs.Places.{packets_at}
use Rattle.trace.proofs.Laws.{cause_refuses}
use Rattle.plan_order.specs.Order.{Inside, entry_for_each, OrderedFrom}
use Rattle.plan_order.proofs.Merging.{each_has_entry}
use Rattle.plan_kept.specs.Keep.{TakenInTurn, kept_after}

-- the part of a list that was written is within it
pub part_fits : (n : ℕ) (part rest : List ℕ) → length part ≡ n → n ≤ length (part ++ rest)
part_fits n part rest long = simp length-append (omega arith)

module _ (slots values : List ℕ) (room : ℕ) where
  -- a trace that is accepted with its own slots as the record's lists
  abbrev pub AcceptedAlone : Type 0
  AcceptedAlone = Accepted value_ok slots values room (lists_of slots slots slots)

  pub clear_accepted : (lists : Lists) → clear ≡ plain_refusal slots values room lists → AcceptedAlone
  unfolding plain_refusal
  clear_accepted lists e =
      let A = accepted clear value_ok slots values room lists (ap (λ (v : Verdict). v.number) (sym e)) in
      record {
        lengths = A.lengths;
        sized = record { fates = refl; whens = refl; bys = refl };
        few = A.few;
        room_from = A.room_from;
        room_to = A.room_to;
        packets = A.packets;
        comes = A.comes;
      }

  module _ (A : AcceptedAlone) where
    -- what `by_falling_value` made of a list as long as the trace, and is lent to be taken in turn
    module _ (zeros part order : List ℕ) (same : length zeros ≡ length slots) (lent : order ≡ part)
        (G : Guarded (entry_for_each values zeros) (OrderedFrom 0 values part) (part ≡ zeros)) where
      ordered : OrderedFrom 0 values order
      ordered =
          rw lent (G.passed (each_has_entry values zeros (record { same = same ∙ sym A.lengths; few = omega (arith, A.lengths, A.few) })))

      pub order_inside : Inside (length slots) order
      order_inside k h = omega (arith, ordered.inside k h, A.lengths)

      pub plan_kept_lem : (kept kept' : List ℕ) → kept ≡ replicate (length slots) 0 → TakenInTurn slots room order kept kept' → kept' ≡ plan_kept room (arrivals slots values)
      plan_kept_lem kept kept' none T =
          T values A.lengths
          ∙ ap (λ (k : List ℕ). keep_in_turn room (arrivals slots values) k (packets_at slots values order)) (none ∙ ap (λ (n : ℕ). replicate n 0) (sym (arrivals_length 1 slots values A.lengths)))
          ∙ ap (keep_in_turn room (arrivals slots values) (replicate (length (arrivals slots values)) 0)) (ordered.by_value slots (sym A.lengths))

-- what becomes of `kept`
module _ (slots values : List ℕ) (room : ℕ) (kept : List ℕ) where
  pub short_same : (v : Verdict) → (length kept ≡ length slots → ⊥) → kept ≡ kept_after v slots values room kept
  unfolding kept_after
  short_same v n = rw (ne_eqb _ _ n) (either (eqb v.number 0))
    where
      either : (t : Bool) → kept ≡ cond (t && false) (plan_kept room (arrivals slots values)) kept
      either true = refl
      either false = refl

  pub accepted_kept : (v : Verdict) → clear ≡ v → length kept ≡ length slots → kept_after v slots values room kept ≡ plan_kept room (arrivals slots values)
  unfolding kept_after
  accepted_kept v e same = rw (← e, eq-eqb _ _ same)

  pub refused_same : (f : Refusal) {v : Verdict} → record { number = cause_number f.cause; place = f.place } ≡ v → kept ≡ kept_after v slots values room kept
  unfolding kept_after
  refused_same f e = rw (← e, cause_refuses f.cause) refl
