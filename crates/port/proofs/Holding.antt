-- A port whose places hold its queue: what a store behind the queue and what taking a packet out make of it, as `holding` says.
use Prim.Native.Nat.{ℕ, ◌+◌, ◌-◌, ◌≤◌, ◌<◌}
use mathlib.Core.Path.{◌≡◌, refl, sym, ap, ap₂, ◌∙◌}
use mathlib.Core.Bool.{true}
use mathlib.Core.List.{List, [], ◌∷◌, ◌++◌, map}
use native.Mathlib.Omega.{arith}
use lib.ListN.{length, get_or, take, drop, set, length-append, length-take, length-map}
use lib.Seq.{take_at, drop_at, get_or-take}
use lib.Dec.{eqb}
use Rattle.model.specs.declared.Packet.{Packet}
use Rattle.model.specs.declared.PacketNumber.{PacketNumber}
use Rattle.model.specs.Limits.{port_limits}
use Rattle.model.specs.Packets.{packet_of, nobody, values_of, numbers_of}
use Rattle.model.specs.Policies.Greedy.{without}
use Rattle.model.specs.Port.{PortState, packets_of, queue_of, in_places, holding, all}
use Rattle.laws.proofs.Lists.{length_without}
use Rattle.queue.specs.Slide.{slid}
use Rattle.queue.proofs.Packets.{packets_values, packets_length, packets_at_lem, packets_numbers, packets_both, map_without, map_behind}
use Rattle.port.specs.State.{Placed, TakenOut}
use Rattle.port.proofs.Padded.{zeros_pass, padded_length, stored, taken_out}

-- the port with other contents
abbrev pub filled : PortState → PacketNumber → ℕ → List ℕ → List ℕ → PortState
filled port last held values numbers =
    record { room = port.room; beta = port.beta; last = last; held = held; values = values; numbers = numbers }

filled_same : (port : PortState) (last : PacketNumber) {held held' : ℕ} {values values' numbers numbers' : List ℕ}
    → held ≡ held' → values ≡ values' → numbers ≡ numbers' → filled port last held values numbers ≡ filled port last held' values' numbers'
filled_same port last h v n = cc

-- a queue in its places, and what is behind it
module _ (queue : List Packet) (f : Packet → ℕ) where
  pub front : take (length queue) (in_places (map f queue)) ≡ map f queue
  front = take_at (map f queue) _ (length queue) (length-map queue f)

  pub behind : all (eqb 0) (drop (length queue) (in_places (map f queue))) ≡ true
  behind = ap (all (eqb 0)) (drop_at (map f queue) _ (length queue) (length-map queue f)) ∙ zeros_pass (port_limits.room - length (map f queue))

-- a port with its queue in its places
module _ (port : PortState) (last : PacketNumber) (queue : List Packet) (fits : length queue ≤ port_limits.room) where
  pub queue_held : queue_of (holding port last queue) ≡ queue
  unfolding holding
  queue_held = ap₂ packets_of (front queue (λ (p : Packet). p.number.0)) (front queue (λ (p : Packet). p.value)) ∙ packets_both queue

  pub holding_placed : Placed (holding port last queue)
  unfolding holding
  holding_placed = ap (λ (q : List Packet). holding port last q) (sym queue_held)

-- the last queue that a port is made to hold is the one that it holds
pub holding_again : (port : PortState) (last next : PacketNumber) (queue more : List Packet)
    → holding (holding port last queue) next more ≡ holding port next more
unfolding holding
holding_again port last next queue more = refl

-- a packet is put behind what a loss has left
pub held_again : (port : PortState) (last next : PacketNumber) (queue : List Packet) (p : Packet) → length queue ≤ port_limits.room
    → (rest after : PortState) → rest ≡ holding port last queue → after ≡ holding rest next (queue_of rest ++ p ∷ []) → after ≡ holding port next (queue ++ p ∷ [])
held_again port last next queue p fits rest after left held =
    held
    ∙ ap (λ (s : PortState). holding s next (queue_of s ++ p ∷ [])) left
    ∙ ap (λ (q : List Packet). holding (holding port last queue) next (q ++ p ∷ [])) (queue_held port last queue fits)
    ∙ holding_again port last next queue (queue ++ p ∷ [])

-- a port with its queue in the first places, and zero in the others
pub places_hold : (port : PortState) → port.held ≤ port_limits.room → length port.values ≡ port_limits.room → length port.numbers ≡ port_limits.room
    → port.values ≡ in_places (take port.held port.values) → port.numbers ≡ in_places (take port.held port.numbers)
    → Placed port
unfolding holding
places_hold port fits lv ln values numbers =
    let vs = take port.held port.values in
    let ns = take port.held port.numbers in
    let v : length vs ≡ port.held = simp length-take (omega arith) in
    let n : length ns ≡ port.held = simp length-take (omega arith) in
    filled_same port port.last (sym v ∙ sym (packets_length ns vs (n ∙ sym v)))
    (values ∙ ap in_places (sym (packets_values ns vs (n ∙ sym v))))
    (numbers ∙ ap in_places (sym (packets_numbers ns vs (n ∙ sym v))))

module _ (port : PortState) (P : Placed port) where
  abbrev queue : List Packet
  queue = queue_of port

  pub held_length : port.held ≡ length queue
  unfolding holding
  held_length = ap (λ (s : PortState). s.held) P

  values_places : port.values ≡ in_places (values_of queue)
  unfolding holding
  values_places = ap (λ (s : PortState). s.values) P

  numbers_places : port.numbers ≡ in_places (numbers_of queue)
  unfolding holding
  numbers_places = ap (λ (s : PortState). s.numbers) P

  entries : (f : Packet → ℕ) → length (map f queue) ≡ port.held
  entries f = length-map queue f ∙ sym held_length

  pub values_fit : port.held ≤ port_limits.room → port.held ≤ length port.values
  values_fit fits =
      omega (arith, ap length values_places, padded_length port_limits.room (values_of queue) (omega (arith, entries (λ (p : Packet). p.value))))

  pub numbers_fit : port.held ≤ port_limits.room → port.held ≤ length port.numbers
  numbers_fit fits =
      omega (arith, ap length numbers_places, padded_length port_limits.room (numbers_of queue) (omega (arith, entries (λ (p : Packet). p.number.0))))

  -- the packet at a place
  pub packet_at_lem : port.held ≤ port_limits.room → (place : ℕ) → place < port.held → {v n : ℕ} → v ≡ get_or port.values place 0 → n ≡ get_or port.numbers place 0
      → packet_of n v ≡ get_or queue place nobody
  packet_at_lem fits place inside v n =
      let ns = take port.held port.numbers in
      let vs = take port.held port.values in
      let all-values : length vs ≡ port.held = simp length-take (omega (arith, values_fit fits)) in
      let all-numbers : length ns ≡ port.held = simp length-take (omega (arith, numbers_fit fits)) in
      ap₂ packet_of
      (n ∙ sym (get_or-take port.held port.numbers place 0 inside))
      (v ∙ sym (get_or-take port.held port.values place 0 inside))
      ∙ sym (packets_at_lem ns vs place (all-numbers ∙ sym all-values) (omega arith))

  -- another number is the last given
  pub holds_same : (last : PacketNumber) → filled port last port.held port.values port.numbers ≡ holding port last queue
  unfolding holding
  holds_same last = ap (λ (s : PortState). filled port last s.held s.values s.numbers) P

  -- a packet is put behind the others
  module _ (p : Packet) (free : port.held < port_limits.room) where
    one_more : (f : Packet → ℕ) (list : List ℕ) → list ≡ in_places (map f queue) → set list port.held (f p) ≡ in_places (map f (queue ++ p ∷ []))
    one_more f list e =
        ap₂ (λ (l : List ℕ) (k : ℕ). set l k (f p)) e (sym (entries f))
        ∙ stored port_limits.room (map f queue) (f p) (omega (arith, entries f))
        ∙ ap in_places (sym (map_behind f queue p))

    pub holds_more : filled port p.number (port.held + 1) (set port.values port.held p.value) (set port.numbers port.held p.number.0)
        ≡ holding port p.number (queue ++ p ∷ [])
    unfolding holding
    holds_more =
        filled_same port p.number (simp length-append (omega (arith, held_length)))
        (one_more (λ (q : Packet). q.value) port.values values_places)
        (one_more (λ (q : Packet). q.number.0) port.numbers numbers_places)

  -- the packet at a place is taken out
  module _ (place : ℕ) (fits : port.held ≤ port_limits.room) (inside : place < port.held) where
    one_less : (f : Packet → ℕ) (before after : List ℕ) (entry : ℕ) → before ≡ in_places (map f queue) → TakenOut port.held place before after entry
        → after ≡ in_places (map f (without place queue))
    one_less f before after entry e T =
        T.left
        ∙ ap₂ (λ (l : List ℕ) (k : ℕ). set (slid (place + 1) k place l) (k - 1) 0) e (sym (entries f))
        ∙ taken_out port_limits.room (map f queue) place (omega (arith, entries f)) (omega (arith, entries f))
        ∙ ap in_places (sym (map_without f place queue))

    pub holds_less : (values numbers : List ℕ) (v n : ℕ) → TakenOut port.held place port.values values v
        → TakenOut port.held place port.numbers numbers n
        → filled port port.last (port.held - 1) values numbers ≡ holding port port.last (without place queue)
    unfolding holding
    holds_less values numbers v n of_values of-numbers =
        filled_same port port.last (omega (arith, held_length, length_without place queue (omega (arith, held_length))))
        (one_less (λ (q : Packet). q.value) port.values values v values_places of_values)
        (one_less (λ (q : Packet). q.number.0) port.numbers numbers n numbers_places of-numbers)
