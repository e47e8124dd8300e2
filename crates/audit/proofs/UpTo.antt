-- The front of a trace that is not after a slot. Where the slots never go down it ends at the first slot that is after it, which halving finds.
use Prim.Native.Nat.{ℕ, zero, suc, ◌+◌, ◌≤◌, ◌<◌, zero-le, suc-le-suc}
use native.Mathlib.Nat.{le_of_suc-le-suc}
use native.Mathlib.Omega.{arith}
use mathlib.Core.Path.{◌≡◌, refl}
use mathlib.Core.Bool.{Bool, true, false, cond}
use mathlib.Core.List.{List, [], ◌∷◌}
use lib.ListN.{length, get_or}
use lib.Dec.{leb}
use borrow.Author.Tests.{leb-true, leb-false}
use Rattle.laws.specs.Accepted.{NeverDown}
use Rattle.audit.specs.Sweep.{up_to}

-- every slot of the front is not after `when`
pub in_front_lem : (slots : List ℕ) (when k : ℕ) → k < up_to slots when → get_or slots k 0 ≤ when
unfolding up_to
in_front_lem [] when k h = absurd (omega arith)
in_front_lem (s ∷ slots) when k h = go (in_front_lem slots when) (leb s when) refl k h
  where
    go : ((k : ℕ) → k < up_to slots when → get_or slots k 0 ≤ when)
        → (t : Bool) → leb s when ≡ t → (k : ℕ) → k < cond t (suc (up_to slots when)) 0 → get_or (s ∷ slots) k 0 ≤ when
    go rest true e zero h = leb-true _ _ e
    go rest true e (suc k) h = rest k (le_of_suc-le-suc h)
    go rest false e k h = absurd (omega arith)

-- the slots after the front are after `when`
pub past_front : (slots : List ℕ) (when : ℕ) → NeverDown slots → (k : ℕ) → up_to slots when ≤ k → k < length slots → when < get_or slots k 0
unfolding up_to
past_front [] when rising k h l = absurd (omega arith)
past_front (s ∷ slots) when rising k h l =
    go (past_front slots when (λ p q i j. rising (suc p) (suc q) (suc-le-suc i) (suc-le-suc j))) (leb s when) refl k h l
  where
    go : ((k : ℕ) → up_to slots when ≤ k → k < length slots → when < get_or slots k 0)
        → (t : Bool) → leb s when ≡ t → (k : ℕ) → cond t (suc (up_to slots when)) 0 ≤ k → k < length (s ∷ slots) → when < get_or (s ∷ slots) k 0
    go rest true e zero h l = absurd (omega arith)
    go rest true e (suc k) h l = rest k (le_of_suc-le-suc h) (le_of_suc-le-suc l)
    go rest false e k h l = omega (arith, leb-false s when e, rising 0 k zero-le l)

pub front_le : (slots : List ℕ) (when : ℕ) → up_to slots when ≤ length slots
unfolding up_to
front_le [] when = zero-le
front_le (s ∷ slots) when = go (front_le slots when) (leb s when)
  where
    go : up_to slots when ≤ length slots → (t : Bool) → cond t (suc (up_to slots when)) 0 ≤ suc (length slots)
    go rest true = suc-le-suc rest
    go rest false = zero-le

-- low and high bracket the end of the front
pub record Bracket (slots : List ℕ) (when low high : ℕ) : Type 0 where
  pub ordered : low ≤ high
  pub high_le : high ≤ length slots
  pub below : (k : ℕ) → k < low → get_or slots k 0 ≤ when
  pub above : (k : ℕ) → high ≤ k → k < length slots → when < get_or slots k 0

-- a slot that is not after `when` is in the front
pub reaches : (slots : List ℕ) (when near : ℕ) → NeverDown slots → near < length slots → get_or slots near 0 ≤ when → near + 1 ≤ up_to slots when
reaches slots when near rising inside h = go (leb (up_to slots when) near) refl
  where
    go : (t : Bool) → leb (up_to slots when) near ≡ t → near + 1 ≤ up_to slots when
    go true e = absurd (omega (arith, past_front slots when rising near (leb-true (up_to slots when) near e) inside))
    go false e = omega (arith, leb-false (up_to slots when) near e)

-- any part of the front will do to start from
pub bracket_start : (slots : List ℕ) (when low : ℕ) → low ≤ up_to slots when → Bracket slots when low (length slots)
bracket_start slots when low h =
    record {
      ordered = omega (arith, front_le slots when);
      high_le = omega arith;
      below = λ k l. in_front_lem slots when k (omega arith);
      above = λ k l m. absurd (omega arith);
    }

-- a slot between the two settles all on one side of it
module _ (slots : List ℕ) (when low high : ℕ) (rising : NeverDown slots) (b : Bracket slots when low high) (m : ℕ) (lm : low ≤ m) (mh : m < high) where
  pub bracket_up : get_or slots m 0 ≤ when → Bracket slots when (m + 1) high
  bracket_up h =
      record {
        ordered = omega arith;
        high_le = b.high_le;
        below = λ k l. omega (arith, rising k m (omega arith) (omega (arith, b.high_le)));
        above = b.above;
      }

  pub bracket_down : when < get_or slots m 0 → Bracket slots when low m
  bracket_down h =
      record {
        ordered = lm;
        high_le = omega (arith, b.high_le);
        below = b.below;
        above = λ k l l'. omega (arith, rising m k l l');
      }

-- where they meet is the end
pub met : (slots : List ℕ) (when low high : ℕ) → NeverDown slots → Bracket slots when low high → high ≤ low → low ≡ up_to slots when
met slots when low high rising b h = go (leb low (up_to slots when)) refl (leb (up_to slots when) low) refl
  where
    go : (s : Bool) → leb low (up_to slots when) ≡ s → (t : Bool) → leb (up_to slots when) low ≡ t → low ≡ up_to slots when
    go true e true f = let l = leb-true low _ e in let l' = leb-true _ low f in omega arith
    go true e false f =
        let l = leb-false _ low f in
        absurd (omega (arith, in_front_lem slots when low l, b.above low h (omega (arith, front_le slots when))))
    go false e t f =
        let l = leb-false low _ e in
        absurd
        (omega (
          arith,
          b.below (up_to slots when) l,
          past_front slots when rising (up_to slots when) (omega arith) (omega (arith, b.high_le, b.ordered)),
        ))
