-- The loop that sends: what is left to send, done on the lists as they are now, gives what the whole sending gives on the lists as they were.
use Prim.Native.Nat.{ℕ, zero, suc, ◌+◌, ◌-◌, ◌≤◌, ◌<◌}
use mathlib.Core.Path.{◌≡◌, refl, sym, ap, ◌∙◌}
use mathlib.Core.List.{List, [], ◌∷◌}
use native.Mathlib.Numerals.{add-one}
use native.Mathlib.Omega.{arith}
use Rattle.model.specs.declared.Packet.{Packet}
use Rattle.model.specs.declared.Slot.{Slot}
use Rattle.std.specs.Prelude.{Some}
use Rattle.model.specs.declared.Fate.TheVariants as fates
use Rattle.model.specs.Record.{Lists, enter, entered, sent_at}
use Rattle.model.specs.Course.{Step, Decided, and_then, by_rule, slot_ends}
use Rattle.entry.specs.Entry.{entry}
use Rattle.steps.specs.Window.{Within, window_of, oldest_of}
use Rattle.steps.specs.Step.{Stepped, any_rule, sending}
use Rattle.steps.proofs.Windows.{window, oldest_sent, oldest_none}

-- where nothing is held nothing happens
ends_idle : (rule : List Packet → Packet → Decided) (n : ℕ) (now : Slot) → slot_ends (by_rule rule) n now [] ≡ record { entries = []; next = [] }
unfolding slot_ends
ends_idle rule zero now = refl
ends_idle rule (suc n) now = refl

module _ (slot until : ℕ) where
  abbrev sends : List Packet → Step (List Packet)
  sends queue = sending (record { 0 = slot }) (record { 0 = until }) queue

  sending_done : (queue : List Packet) → until ≤ slot → sends queue ≡ record { entries = []; next = queue }
  unfolding sending slot_ends
  sending_done queue h =
      let none : until - slot ≡ 0 = omega arith in
      rw none refl

  sending_idle : sends [] ≡ record { entries = []; next = [] }
  unfolding sending
  sending_idle = ends_idle any_rule (until - slot) (record { 0 = slot })

  sending_turn : (p : Packet) (queue : List Packet) → slot < until
      → sends (p ∷ queue) ≡ and_then (sent_at (record { 0 = slot }) p ∷ []) (sending (record { 0 = slot + 1 }) (record { 0 = until }) queue)
  unfolding sending slot_ends
  sending_turn p queue h =
      let more : until - slot ≡ suc (until - (slot + 1)) = omega arith in
      rw (more, add-one slot) refl

-- the sending from `slot₀` with `head₀` on the lists `before` comes to what is left of it from `slot` with `head` on the lists `now`
pub record Left (numbers values : List ℕ) (tail until head₀ slot₀ : ℕ) (before : Lists) (head slot : ℕ) (now : Lists) : Type 0 where
  pub within : Within (window head tail) numbers values
  pub next : (sends slot until (window_of (window head tail) numbers values)).next ≡ (sends slot₀ until (window_of (window head₀ tail) numbers values)).next
  pub written : entered (sends slot until (window_of (window head tail) numbers values)).entries now
      ≡ entered (sends slot₀ until (window_of (window head₀ tail) numbers values)).entries before

module _ (numbers values : List ℕ) (tail until head₀ slot₀ : ℕ) (before : Lists) where
  abbrev Leaves : ℕ → ℕ → Lists → Type 0
  Leaves head slot now = Left numbers values tail until head₀ slot₀ before head slot now

  pub left_all : Within (window head₀ tail) numbers values → Leaves head₀ slot₀ before
  left_all W = record { within = W; next = refl; written = refl }

  module _ (head slot : ℕ) (now : Lists) (L : Leaves head slot now) where
    -- nothing is left to send
    finished : (step : Step (List Packet)) → sends slot until (window_of (window head tail) numbers values) ≡ step
        → step.entries ≡ [] → step.next ≡ window_of (window head tail) numbers values
        → Stepped (sends slot₀ until (window_of (window head₀ tail) numbers values)) before (window head tail) numbers values now
    unfolding entered
    finished step e none same =
        record {
          within = L.within;
          queue = sym same ∙ sym (ap (λ (s : Step (List Packet)). s.next) e) ∙ L.next;
          written = sym (ap (λ (s : Step (List Packet)). entered s.entries now) e ∙ ap (λ es. entered es now) none) ∙ L.written;
        }

    pub left_none : until ≤ slot → Stepped (sends slot₀ until (window_of (window head₀ tail) numbers values)) before (window head tail) numbers values now
    left_none h = finished _ (sending_done slot until (window_of (window head tail) numbers values) h) refl refl

    pub left_idle : ((p : Packet) → oldest_of (window_of (window head tail) numbers values) ≡ Some p → ⊥)
        → Stepped (sends slot₀ until (window_of (window head₀ tail) numbers values)) before (window head tail) numbers values now
    left_idle h =
        let none = oldest_none head tail numbers values L.within h in
        finished _ (ap (sends slot until) none ∙ sending_idle slot until) refl (sym none)

    pub left_turn : (p : Packet) (after : Lists) → slot < until → oldest_of (window_of (window head tail) numbers values) ≡ Some p
        → after ≡ enter (entry p.number fates.Sent (record { 0 = slot }) (record { 0 = 0 })) now
        → (head < tail) × Leaves (head + 1) (slot + 1) after
    unfolding entered
    left_turn p after h sent e =
        let first = oldest_sent head tail numbers values L.within p sent in
        let some : head < tail = first.0 in
        let turn = ap (sends slot until) first.1 ∙ sending_turn slot until p (window_of (window (head + 1) tail) numbers values) h in
        let rest = sends (slot + 1) until (window_of (window (head + 1) tail) numbers values) in (
          some,
          record {
            within = record { ordered = omega arith; inside = L.within.inside; same = L.within.same };
            next = sym (ap (λ (s : Step (List Packet)). s.next) turn) ∙ L.next;
            written = ap (entered rest.entries) e ∙ sym (ap (λ (s : Step (List Packet)). entered s.entries now) turn) ∙ L.written;
          },
        )
