-- The flush: what is held so far and what still stays of the packets to come is all that stays; what still goes, entered in the lists as they are now, gives
-- what all that goes gives in the lists as they were.
use Prim.Native.Nat.{ℕ, zero, suc, ◌+◌, ◌-◌, ◌≤◌, ◌<◌}
use mathlib.Core.Path.{◌≡◌, refl, sym, ap, ap₂, ◌∙◌}
use mathlib.Core.Bool.{Bool, true, false, not, cond, ◌&&◌}
use mathlib.Core.List.{List, [], ◌∷◌, ◌++◌, append-nil, append_assoc}
use native.Mathlib.Omega.{arith}
use lib.ListN.{length, take, set, length-set}
use lib.Seq.{drop-set-lt}
use lib.Dec.{eqb, leb}
use borrow.Author.Tests.{eq-eqb, ne_eqb, lt-leb}
use Rattle.model.specs.declared.PacketNumber.{PacketNumber}
use Rattle.model.specs.declared.Packet.{Packet}
use Rattle.model.specs.declared.Slot.{Slot}
use Rattle.model.specs.declared.Fate.TheVariants as fates
use Rattle.model.specs.Port.{packets_of}
use Rattle.model.specs.Record.{Lists, Entry, enter, entered, flushed_at}
use Rattle.model.specs.Policies.MF.{mark_of, goes_with, flushed, unflushed}
use Rattle.steps.specs.declared.Window.{Window}
use Rattle.entry.specs.Entry.{entry}
use Rattle.steps.specs.Window.{window_of, Within}
use Rattle.steps.specs.Step.{Stepped}
use Rattle.model.specs.Packets.{packet_in}
use Rattle.mf_flush.specs.Flush.{flushing}
use Rattle.steps.specs.Lent.{lent, placed}
use Rattle.steps.proofs.Windows.{window, window_cons, window_none, stored}
use Rattle.steps.proofs.Placing.{placed_none, placed_own, placed_behind}

module _ (m : PacketNumber) (marks : List ℕ) (p : Packet) (queue : List Packet) where
  goes_on : (t : Bool) → goes_with m marks p ≡ t → unflushed m marks (p ∷ queue) ≡ cond t (unflushed m marks queue) (p ∷ unflushed m marks queue)
  unfolding unflushed
  goes_on t e = rw e refl

  goes_in : (slot : Slot) (t : Bool) → goes_with m marks p ≡ t
      → flushed slot m marks (p ∷ queue) ≡ cond t (flushed_at slot (mark_of marks p) p ∷ flushed slot m marks queue) (flushed slot m marks queue)
  unfolding flushed
  goes_in slot t e = rw e refl

module _ (m : PacketNumber) (marks : List ℕ) (slot : Slot) (head tail : ℕ) (numbers₀ values₀ : List ℕ) (before : Lists) where
  pub record Sifting (numbers values : List ℕ) (from to : ℕ) (now : Lists) : Type 0 where
    pub ordered : head ≤ to
    pub behind : to ≤ from
    pub inside : from ≤ tail
    pub within : tail ≤ length values
    pub same : length numbers ≡ length values
    pub numbers_kept : length numbers ≡ length numbers₀
    pub values_kept : length values ≡ length values₀
    pub stays : window_of (window head to) numbers values ++ unflushed m marks (window_of (window from tail) numbers values)
        ≡ unflushed m marks (window_of (window head tail) numbers₀ values₀)
    pub goes : entered (flushed slot m marks (window_of (window from tail) numbers values)) now
        ≡ entered (flushed slot m marks (window_of (window head tail) numbers₀ values₀)) before
    pub covers : lent (window head to) numbers values
        ≡ placed head (window_of (window head to) numbers values) (lent (window head tail) numbers₀ values₀)

  pub sifting_all : Within (window head tail) numbers₀ values₀ → Sifting numbers₀ values₀ head head before
  sifting_all W =
      let H : Within (window head head) numbers₀ values₀ = record { ordered = omega arith; inside = omega (arith, W.ordered, W.inside); same = W.same } in
      let none = window_none head head numbers₀ values₀ H (omega arith) in
      record {
        ordered = omega arith;
        behind = omega arith;
        inside = W.ordered;
        within = W.inside;
        same = W.same;
        numbers_kept = refl;
        values_kept = refl;
        stays = ap (λ (queue : List Packet). queue ++ unflushed m marks (window_of (window head tail) numbers₀ values₀)) none;
        goes = refl;
        covers = placed_none head (window head tail) numbers₀ values₀ ∙ ap (λ (queue : List Packet). placed head queue (lent (window head tail) numbers₀ values₀)) (sym none);
      }

  module _ (numbers values : List ℕ) (from to : ℕ) (now : Lists) (S : Sifting numbers values from to now) where
    left : Within (window from tail) numbers values
    left = record { ordered = S.inside; inside = S.within; same = S.same }

    held : Within (window head to) numbers values
    held = record { ordered = S.ordered; inside = omega (arith, S.behind, S.inside, S.within); same = S.same }

    pub sifting_none : tail ≤ from
        → Stepped (flushing slot m marks (window_of (window head tail) numbers₀ values₀)) before (window head to) numbers values now
        × (lent (window head to) numbers values ≡ placed head (unflushed m marks (window_of (window head tail) numbers₀ values₀)) (lent (window head tail) numbers₀ values₀))
    unfolding entered flushed unflushed
    sifting_none h =
        let none = window_none from tail numbers values left h in
        let all_stay : window_of (window head to) numbers values ≡ unflushed m marks (window_of (window head tail) numbers₀ values₀) =
        sym (append-nil (window_of (window head to) numbers values))
        ∙ sym (ap (λ (queue : List Packet). window_of (window head to) numbers values ++ unflushed m marks queue) none)
        ∙ S.stays in (
          record {
            within = held;
            queue = all_stay;
            written = sym (ap (λ (queue : List Packet). entered (flushed slot m marks queue) now) none) ∙ S.goes;
          },
          S.covers ∙ ap (λ (queue : List Packet). placed head queue (lent (window head tail) numbers₀ values₀)) all_stay,
        )

    abbrev next : Packet
    next = packet_in numbers values from

    module _ (some : from < tail) where
      abbrev behind : List Packet
      behind = window_of (window (from + 1) tail) numbers values

      cons : window_of (window from tail) numbers values ≡ next ∷ behind
      cons = window_cons from tail numbers values left some

      pub sifting_goes : goes_with m marks next ≡ true → (after : Lists)
          → after ≡ enter (entry next.number fates.Flushed slot (mark_of marks next)) now
          → Sifting numbers values (from + 1) to after
      unfolding entered
      sifting_goes t after e =
          record {
            ordered = S.ordered;
            behind = omega (arith, S.behind);
            inside = omega arith;
            within = S.within;
            same = S.same;
            numbers_kept = S.numbers_kept;
            values_kept = S.values_kept;
            stays = sym (ap (λ (queue : List Packet). window_of (window head to) numbers values ++ queue) (ap (unflushed m marks) cons ∙ goes_on m marks next behind true t))
                ∙ S.stays;
            goes = ap (entered (flushed slot m marks behind)) e
                ∙ sym (ap (λ (es : List Entry). entered es now) (ap (flushed slot m marks) cons ∙ goes_in m marks next behind slot true t))
                ∙ S.goes;
            covers = S.covers;
          }

      pub sifting_stays : goes_with m marks next ≡ false
          → Sifting (set numbers to next.number.0) (set values to next.value) (from + 1) (to + 1) now
      unfolding window_of
      sifting_stays t =
          let more = stored (window head to) numbers values next held (omega (arith, S.behind, S.within)) in
          let rest : window_of (window (from + 1) tail) (set numbers to next.number.0) (set values to next.value) ≡ behind =
          ap₂ (λ (ns vs : List ℕ). packets_of (take (tail - (from + 1)) ns) (take (tail - (from + 1)) vs))
          (drop-set-lt (from + 1) numbers to next.number.0 (omega (arith, S.behind)))
          (drop-set-lt (from + 1) values to next.value (omega (arith, S.behind)))
          in
          record {
            ordered = omega (arith, S.ordered);
            behind = omega (arith, S.behind);
            inside = omega arith;
            within = rw length-set S.within;
            same = simp length-set S.same;
            numbers_kept = rw length-set S.numbers_kept;
            values_kept = rw length-set S.values_kept;
            stays = ap₂ (λ (first second : List Packet). first ++ unflushed m marks second) more.is rest
                ∙ append_assoc (window_of (window head to) numbers values) (next ∷ []) (unflushed m marks behind)
                ∙ sym (ap (λ (queue : List Packet). window_of (window head to) numbers values ++ queue) (ap (unflushed m marks) cons ∙ goes_on m marks next behind false t))
                ∙ S.stays;
            goes = ap (λ (queue : List Packet). entered (flushed slot m marks queue) now) rest
                ∙ sym (ap (λ (es : List Entry). entered es now) (ap (flushed slot m marks) cons ∙ goes_in m marks next behind slot false t))
                ∙ S.goes;
            covers = placed_behind head (window_of (window head to) numbers values) (lent (window head tail) numbers₀ values₀) next (lent (window head to) numbers values) S.covers
                ∙ ap (λ (queue : List Packet). placed head queue (lent (window head tail) numbers₀ values₀)) (sym more.is);
          }

-- no mark
abbrev none : PacketNumber
none = record { 0 = 0 }

-- under a head with no mark nothing goes
never_goes : (marks : List ℕ) (p : Packet) → goes_with none marks p ≡ false
never_goes marks p = go (mark_of marks p).0
  where
    go : (mark : ℕ) → (not (eqb mark 0) && leb mark 0) ≡ false
    go zero = refl
    go (suc mark) = rw (ne_eqb (suc mark) 0 (λ e. omega arith), lt-leb (suc mark) 0 (omega arith)) refl

unflushed_none : (marks : List ℕ) (queue : List Packet) → unflushed none marks queue ≡ queue
unfolding unflushed
unflushed_none marks [] = refl
unflushed_none marks (p ∷ queue) = rw (never_goes marks p) (ap (λ (rest : List Packet). p ∷ rest) (unflushed_none marks queue))

flushed_none : (slot : Slot) (marks : List ℕ) (queue : List Packet) → flushed slot none marks queue ≡ []
unfolding flushed
flushed_none slot marks [] = refl
flushed_none slot marks (p ∷ queue) = rw (never_goes marks p) (flushed_none slot marks queue)

pub nothing_goes : (m : PacketNumber) (marks : List ℕ) (slot : Slot) (w : Window) (numbers values : List ℕ) (now : Lists) → Within w numbers values → m.0 ≡ 0
    → Stepped (flushing slot m marks (window_of w numbers values)) now w numbers values now
    × (lent w numbers values ≡ placed w.head (unflushed m marks (window_of w numbers values)) (lent w numbers values))
unfolding entered
nothing_goes m marks slot w numbers values now W e =
    let queue = window_of w numbers values in
    let all_stay : queue ≡ unflushed m marks queue = sym (ap (λ (k : ℕ). unflushed (record { 0 = k }) marks queue) e ∙ unflushed_none marks queue) in (
      record {
        within = W;
        queue = all_stay;
        written = sym (ap (λ (es : List Entry). entered es now) (ap (λ (k : ℕ). flushed slot (record { 0 = k }) marks queue) e ∙ flushed_none slot marks queue));
      },
      sym (placed_own w numbers values W) ∙ ap (λ (q : List Packet). placed w.head q (lent w numbers values)) all_stay,
    )
