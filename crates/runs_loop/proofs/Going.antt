-- One packet of a trace takes a run that is going one place further, and the ends of slots after the last packet complete it.
use Rattle.std.proofs.Common.{◌≡◌, ℕ, ◌+◌, ◌-◌, ◌*◌, ◌<◌, ◌≤◌, ◌++◌, max, List, [], length, get_or, sym, ap, subst, ◌∙◌, arith}
use Rattle.model.specs.declared.Packet.{Packet}
use Rattle.model.specs.declared.Slot.{Slot}
use Rattle.model.specs.Course.{Policy, slot_ends}
use Rattle.model.specs.Limits.{port_limits}
use Rattle.model.specs.Packets.{Arrival, packet_of, slots_until}
use Rattle.model.specs.Record.{Lists, entered}
use Rattle.steps.specs.declared.Window.{Window}
use Rattle.steps.specs.Run.{Runnable, Ran}
use Rattle.steps.specs.Step.{arrival}
use Rattle.steps.specs.Window.{window_of}
use Rattle.steps.proofs.Windows.{window}
use Rattle.steps.proofs.Coursing.{at}
use Rattle.steps.proofs.Turning.{entered_both}
use Rattle.steps.proofs.Running.{Going, going_start, going_turn, going_end}
use Rattle.runs_loop.specs.Done.{Done}

-- before the first packet nothing is held
pub started : {S : Type 0} (P : Policy S) (slots values : List ℕ) (before : Lists) (state : List Packet → S) → ((queue : List Packet) → P.held (state queue) ≡ queue)
    → (numbers held : List ℕ) → length numbers ≡ 2 * port_limits.room → length held ≡ 2 * port_limits.room
    → Going P (state []) slots values before (state (window_of (window 0 0) numbers held)) numbers held 0 0 1 0 0 before
started P slots values before state holds numbers held n h =
    let G = going_start P (state []) slots values before (holds []) numbers held n h in
    subst (λ (queue : List Packet). Going P (state []) slots values before (state queue) numbers held 0 0 1 0 0 before) (sym (holds []) ∙ G.queue) G

-- the arrival of the packet at a place, with its slot and its value
abbrev pub arrival_at : ℕ × (ℕ × ℕ) → Arrival
arrival_at x = arrival (at x.1.0) (packet_of (x.0 + 1) x.1.1)

module _ {S : Type 0} {P : Policy S} {s₀ : S} {slots values : List ℕ} {before : Lists} (R : Runnable P s₀ slots values)
    {s : S} {numbers held : List ℕ} {head tail last most n : ℕ} {now : Lists} (G : Going P s₀ slots values before s numbers held head tail last most n now)
    {Q : Policy S} (same : Q ≡ P) where
  -- the ends of the slots before an arrival, and the arrival, are one turn
  pub turn_taken : (x : ℕ × (ℕ × ℕ)) → (n < length slots) × (x ≡ (n, (get_or slots n 0, get_or values n 0)))
      → (state : List Packet → S) → ((queue : List Packet) → P.held (state queue) ≡ queue)
      → {left w : Window} {numbers' held' numbers'' held'' : List ℕ} {between after : Lists} {most' : ℕ} {Q' : Policy S} → Q' ≡ Q
      → Done state (slot_ends Q (slots_until (at last) (at x.1.0)) (at last) s) now left numbers' held' between
      → Done state (Q'.arrive (arrival_at x) (state (window_of left numbers' held'))) between w numbers'' held'' after
      → length held'' ≡ length held → most' ≡ max most (w.tail - w.head)
      → Going P s₀ slots values before (state (window_of w numbers'' held'')) numbers'' held'' w.head w.tail x.1.0 most' (n + 1) after
  turn_taken x (inside, is) state holds {left} {w} {numbers'} {held'} {numbers''} {held''} {between} {after} {most'} still E A long m =
      let here : ℕ × (ℕ × ℕ) = (n, (get_or slots n 0, get_or values n 0)) in
      let ends = slot_ends P (slots_until (at last) (at here.1.0)) (at last) s in
      let E' : Done state ends now left numbers' held' between = rw (same, is) at E in
      let A' : Done state (P.arrive (arrival_at here) ends.next) between w numbers'' held'' after = rw (still, same, is, E'.held) at A in
      let written : after ≡ entered (ends.entries ++ (P.arrive (arrival_at here) ends.next).entries) now =
      A'.written
      ∙ ap (entered (P.arrive (arrival_at here) ends.next).entries) E'.written
      ∙ sym (entered_both ends.entries (P.arrive (arrival_at here) ends.next).entries now) in
      let G' = going_turn P s₀ slots values before R s numbers held head tail last most n now G inside
      (state (window_of w numbers'' held'')) w numbers'' held'' after most' A'.within (holds _) A'.held written long m in
      subst (λ (y : ℕ × (ℕ × ℕ)). Going P s₀ slots values before (state (window_of w numbers'' held'')) numbers'' held'' w.head w.tail y.1.0 most' (n + 1) after) (sym is) G'

  pub ends_taken : length slots ≤ n → (until : Slot) → until.0 ≡ last + (tail - head)
      → (state : List Packet → S) {w : Window} {numbers' held' : List ℕ} {after : Lists}
      → Done state (slot_ends Q (slots_until (at last) until) (at last) s) now w numbers' held' after
      → Ran P s₀ slots values before after most
  ends_taken done until u state {w} {numbers'} {held'} {after} D =
      let k : slots_until (at last) until ≡ tail - head = omega arith in
      let D' : Done state (slot_ends P (tail - head) (at last) s) now w numbers' held' after = rw (same, k) at D in
      going_end P s₀ slots values before R s numbers held head tail last most n now G done after D'.written
