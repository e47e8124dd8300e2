-- A queue that a sound port can hold: no longer than the room, with values in range and rising numbers. It stays so when a packet is taken out of it and when
-- the next packet goes behind it.
use Prim.Native.Nat.{ℕ, zero, suc, ◌≤◌, ◌<◌}
use mathlib.Core.Path.{◌≡◌, refl, ap, ◌∙◌}
use mathlib.Core.Bool.{Bool, true, ◌&&◌}
use mathlib.Core.List.{List, [], ◌∷◌, ◌++◌}
use native.Mathlib.Omega.{arith}
use lib.ListN.{length, take, drop, length-append, length-take, length-drop}
use lib.Dec.{leb, ltb}
use borrow.Author.Tests.{ltb-true, leb-true, lt-ltb, le-leb}
use Rattle.model.specs.declared.Packet.{Packet}
use Rattle.model.specs.Packets.{packet_of, values_of, numbers_of}
use Rattle.model.specs.Policies.Greedy.{without}
use Rattle.model.specs.Refusals.{value_ok}
use Rattle.model.specs.Port.{PortState, packets_of, queue_of, all, rises_from}
use Rattle.queue.specs.declared.Choice.{Choice}
use Rattle.queue.specs.declared.Choice.TheVariants.{Hold, Reject, Lose}
use Rattle.queue.specs.Choose.{applied}
use Rattle.port.proofs.Padded.{both}
use Rattle.queue.proofs.Packets.{map_without, map_behind}
use Rattle.port.proofs.Parts.{Sound, queue_short}
use Rattle.port.proofs.Choices.{Allowed}

-- every entry passes a test
module _ (test : ℕ → Bool) where
  all_append : (list more : List ℕ) → all test list ≡ true → all test more ≡ true → all test (list ++ more) ≡ true
  unfolding all
  all_append [] more a b = b
  all_append (n ∷ list) more a b =
      let t = both (test n) _ a in
      rw t.0 (all_append list more t.1 b)

  all_take : (k : ℕ) (list : List ℕ) → all test list ≡ true → all test (take k list) ≡ true
  unfolding all
  all_take zero list a = refl
  all_take (suc k) [] a = refl
  all_take (suc k) (n ∷ list) a =
      let t = both (test n) _ a in
      rw t.0 (all_take k list t.1)

  all_drop : (k : ℕ) (list : List ℕ) → all test list ≡ true → all test (drop k list) ≡ true
  unfolding all
  all_drop zero list a = a
  all_drop (suc k) [] a = refl
  all_drop (suc k) (n ∷ list) a = all_drop k list (both (test n) _ a).1

  packets_all : (numbers values : List ℕ) → all test values ≡ true → all test (values_of (packets_of numbers values)) ≡ true
  unfolding all packets_of
  packets_all [] values a = refl
  packets_all (k ∷ numbers) [] a = refl
  packets_all (k ∷ numbers) (v ∷ values) a =
      let t = both (test v) _ a in
      rw t.0 (packets_all numbers values t.1)

-- the first of numbers that rise, and those that follow it
rises_parts : (before last n : ℕ) (list : List ℕ) → rises_from before last (n ∷ list) ≡ true → (before < n) × (n ≤ last) × (rises_from n last list ≡ true)
unfolding rises_from
rises_parts before last n list r =
    let t = both (ltb before n && leb n last) _ r in
    let s = both (ltb before n) (leb n last) t.0 in
    (ltb-true _ _ s.0, leb-true _ _ s.1, t.1)

rises_cons : (before last n : ℕ) (list : List ℕ) → before < n → n ≤ last → rises_from n last list ≡ true → rises_from before last (n ∷ list) ≡ true
unfolding rises_from
rises_cons before last n list above below r = rw (lt-ltb _ _ above, le-leb _ _ below) r

rises_none : (before last : ℕ) → rises_from before last [] ≡ true
unfolding rises_from
rises_none before last = refl

-- from a lower number on, and to a higher one
rises_wide : (before' before last last' : ℕ) (list : List ℕ) → before' ≤ before → last ≤ last' → rises_from before last list ≡ true
    → rises_from before' last' list ≡ true
rises_wide before' before last last' [] low high r = rises_none before' last'
rises_wide before' before last last' (n ∷ list) low high r =
    let t = rises_parts before last n list r in
    rises_cons before' last' n list (omega (arith, t.0)) (omega (arith, t.1)) (rises_wide n n last last' list (omega arith) high t.2)

rises_without : (before last place : ℕ) (list : List ℕ) → rises_from before last list ≡ true → rises_from before last (take place list ++ drop (suc place) list) ≡ true
rises_without before last zero [] r = r
rises_without before last zero (n ∷ list) r =
    let t = rises_parts before last n list r in
    rises_wide before n last last list (omega (arith, t.0)) (omega arith) t.2
rises_without before last (suc place) [] r = r
rises_without before last (suc place) (n ∷ list) r =
    let t = rises_parts before last n list r in
    rises_cons before last n _ t.0 t.1 (rises_without n last place list t.2)

rises_behind : (before last : ℕ) (list : List ℕ) → before ≤ last → rises_from before last list ≡ true → rises_from before (suc last) (list ++ suc last ∷ []) ≡ true
rises_behind before last [] low r = rises_cons before (suc last) (suc last) [] (omega arith) (omega arith) (rises_none (suc last) (suc last))
rises_behind before last (n ∷ list) low r =
    let t = rises_parts before last n list r in
    rises_cons before (suc last) n _ t.0 (omega (arith, t.1)) (rises_behind n last list t.1 t.2)

packets_rise : (before last : ℕ) (numbers values : List ℕ) → rises_from before last numbers ≡ true → rises_from before last (numbers_of (packets_of numbers values)) ≡ true
unfolding packets_of
packets_rise before last [] values r = r
packets_rise before last (n ∷ numbers) [] r = rises_none before last
packets_rise before last (n ∷ numbers) (v ∷ values) r =
    let t = rises_parts before last n numbers r in
    rises_cons before last n _ t.0 t.1 (packets_rise n last numbers values t.2)

pub record Holdable (room last : ℕ) (queue : List Packet) : Type 0 where
  pub short : length queue ≤ room
  pub values_ok : all value_ok (values_of queue) ≡ true
  pub numbers_rise : rises_from 0 last (numbers_of queue) ≡ true

pub sound_queue : (port : PortState) → Sound port → Holdable port.room port.last.0 (queue_of port)
sound_queue port S =
    let ns = take port.held port.numbers in
    let vs = take port.held port.values in
    record {
      short = queue_short port S;
      values_ok = packets_all value_ok ns vs S.values_ok;
      numbers_rise = packets_rise 0 port.last.0 ns vs S.numbers_rise;
    }

module _ (room last : ℕ) (queue : List Packet) (H : Holdable room last queue) where
  pub holdable_without : (place : ℕ) → Holdable room last (without place queue)
  holdable_without place =
      record {
        short = simp (length-append, length-take, length-drop) (omega (arith, H.short));
        values_ok =
            ap (all value_ok) (map_without (λ (p : Packet). p.value) place queue)
            ∙ all_append value_ok (take place (values_of queue)) (drop (suc place) (values_of queue)) (all_take value_ok place (values_of queue) H.values_ok)
            (all_drop value_ok (suc place) (values_of queue) H.values_ok);
        numbers_rise =
            ap (rises_from 0 last) (map_without (λ (p : Packet). p.number.0) place queue)
            ∙ rises_without 0 last place (numbers_of queue) H.numbers_rise;
      }

  pub holdable_later : Holdable room (suc last) queue
  holdable_later =
      record {
        short = H.short;
        values_ok = H.values_ok;
        numbers_rise = rises_wide 0 0 last (suc last) (numbers_of queue) (omega arith) (omega arith) H.numbers_rise;
      }

  pub holdable_behind : (value : ℕ) → value_ok value ≡ true → length queue < room
      → Holdable room (suc last) (queue ++ packet_of (suc last) value ∷ [])
  unfolding all
  holdable_behind value ok free =
      let p : Packet = packet_of (suc last) value in
      record {
        short = simp length-append (omega arith);
        values_ok =
            ap (all value_ok) (map_behind (λ (q : Packet). q.value) queue p)
            ∙ all_append value_ok (values_of queue) (value ∷ []) H.values_ok (rw ok refl);
        numbers_rise =
            ap (rises_from 0 (suc last)) (map_behind (λ (q : Packet). q.number.0) queue p)
            ∙ rises_behind 0 last (numbers_of queue) (omega arith) H.numbers_rise;
      }

-- what a choice leaves can be held
pub holdable_applied : (room last : ℕ) (queue : List Packet) → Holdable room last queue → (value : ℕ) → value_ok value ≡ true → (choice : Choice)
    → Allowed room (length queue) choice → Holdable room (suc last) (applied choice queue (packet_of (suc last) value)).queue
holdable_applied room last queue H value ok Hold free = holdable_behind room last queue H value ok free
holdable_applied room last queue H value ok Reject free = holdable_later room last queue H
holdable_applied room last queue H value ok (Lose place kind) inside =
    holdable_behind room last (without place queue) (holdable_without room last queue H place) value ok
    (simp (length-append, length-take, length-drop) (omega (arith, inside, H.short)))
