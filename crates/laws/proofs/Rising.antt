-- The numbers of a queue rise from its oldest packet to its newest, above one number and up to the last that arrived. Arrivals enter at the back and have
-- the next number, so whatever else leaves, the numbers go on rising.
use Prim.Native.Nat.{ℕ, zero, suc, ◌≤◌, ◌<◌}
use native.Mathlib.Omega.{arith}
use mathlib.Core.Path.{◌≡◌}
use mathlib.Core.List.{List, [], ◌∷◌, ◌++◌}
use lib.ListN.{length, get_or, take}
use Rattle.model.specs.declared.Packet.{Packet}
use Rattle.model.specs.declared.Slot.{Slot}
use Rattle.model.specs.Packets.{nobody}
use Rattle.model.specs.Record.{Entry}
use Rattle.model.specs.Course.{Decided, send_oldest}
use Rattle.model.specs.Policies.Greedy.{without}
use Rattle.laws.proofs.Fifo.{Fair, holds, rejects, loses, Parted, none, goes, stays}

-- the numbers rise, above `low` and up to `last`
abbrev pub Rising : ℕ → ℕ → List Packet → Type 0
Rising low last [] = low ≤ last
Rising low last (p ∷ queue) = (low < p.number.0) × Rising p.number.0 last queue

pub rising_bounds : (low last : ℕ) (queue : List Packet) → Rising low last queue → low ≤ last
rising_bounds low last [] h = h
rising_bounds low last (p ∷ queue) h = omega (arith, h.0, rising_bounds p.number.0 last queue h.1)

pub rising_wider : (low low' last last' : ℕ) (queue : List Packet) → low' ≤ low → last ≤ last' → Rising low last queue → Rising low' last' queue
rising_wider low low' last last' [] a b h = omega arith
rising_wider low low' last last' (p ∷ queue) a b h = (omega arith, rising_wider p.number.0 p.number.0 last last' queue (omega arith) b h.1)

rising_append : (low last : ℕ) (queue : List Packet) (p : Packet) → p.number.0 ≡ suc last → Rising low last queue → Rising low (suc last) (queue ++ p ∷ [])
rising_append low last [] p e h = omega arith
rising_append low last (q ∷ queue) p e h = (h.0, rising_append q.number.0 last queue p e h.1)

rising_without : (low last place : ℕ) (queue : List Packet) → Rising low last queue → Rising low last (without place queue)
rising_without low last zero [] h = h
rising_without low last (suc place) [] h = h
rising_without low last zero (p ∷ queue) h = rising_wider p.number.0 low last last queue (omega arith) (omega arith) h.1
rising_without low last (suc place) (p ∷ queue) h = (h.0, rising_without p.number.0 last place queue h.1)

-- a packet at a place has a number within the bounds
pub rising_at : (low last place : ℕ) (queue : List Packet) → place < length queue → Rising low last queue →
    (low < (get_or queue place nobody).number.0) × ((get_or queue place nobody).number.0 ≤ last)
rising_at low last place [] b h = absurd (omega arith)
rising_at low last zero (p ∷ queue) b h = (h.0, rising_bounds p.number.0 last queue h.1)
rising_at low last (suc place) (p ∷ queue) b h =
    let there = rising_at p.number.0 last place queue (omega arith) h.1 in
    (omega arith, there.1)

-- after an arrival
pub rising_fair : {queue : List Packet} {p : Packet} {d : Decided} (low last : ℕ) → p.number.0 ≡ suc last → Fair queue p d → Rising low last queue →
    Rising low (suc last) d.queue
rising_fair {queue} {p} low last e holds h = rising_append low last queue p e h
rising_fair {queue} low last e rejects h = rising_wider low low last (suc last) queue (omega arith) (omega arith) h
rising_fair {queue} {p} low last e (loses place kind b) h = rising_append low last (without place queue) p e (rising_without low last place queue h)

-- after a flush
pub rising_parted : {now : Slot} {queue left : List Packet} {entries : List Entry} (low last : ℕ) → Parted now queue entries left → Rising low last queue →
    Rising low last left
rising_parted low last none h = h
rising_parted low last (goes {p = p} {left = left} parted) h =
    rising_wider p.number.0 low last last left (omega arith) (omega arith) (rising_parted p.number.0 last parted h.1)
rising_parted low last (stays {p = p} parted) h = (h.0, rising_parted p.number.0 last parted h.1)

-- after a sending
pub rising_sent : (low last : ℕ) (now : Slot) (queue : List Packet) → Rising low last queue → Rising low last (send_oldest now queue).next
rising_sent low last now [] h = h
rising_sent low last now (p ∷ queue) h = rising_wider p.number.0 low last last queue (omega arith) (omega arith) h.1

-- the oldest of a queue
pub rising_take : (low last n : ℕ) (queue : List Packet) → Rising low last queue → Rising low last (take n queue)
rising_take low last zero queue h = rising_bounds low last queue h
rising_take low last (suc n) [] h = h
rising_take low last (suc n) (p ∷ queue) h = (h.0, rising_take p.number.0 last n queue h.1)
