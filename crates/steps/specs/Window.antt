-- What a window of two lists holds.
use Rattle.std.specs.Prelude.{ℕ, ◌-◌, ◌≤◌, ◌≡◌, Option, Some, None, Ok, List, [], ◌∷◌, length, take, drop}
use Rattle.model.specs.declared.Packet.{Packet}
use Rattle.model.specs.declared.Fate.TheVariants as fates
use Rattle.model.specs.Numbers.{fate_number}
use Rattle.model.specs.Packets.{nobody}
use Rattle.model.specs.Answers.{PortReply, port_says, of_slot}
use Rattle.model.specs.Port.{packets_of}
use Rattle.steps.specs.declared.Window.{Window}

-- the entries of a list from `head` up to `tail`
abbrev pub part : Window → List ℕ → List ℕ
part w list = take (w.tail - w.head) (drop w.head list)

-- the packets of a window, oldest first
unfoldable pub window_of : Window → List ℕ → List ℕ → List Packet
window_of w numbers values = packets_of (part w numbers) (part w values)

-- a window lies within its two lists, which are equally long
pub record Within (w : Window) (numbers values : List ℕ) : Type 0 where
  pub ordered : w.head ≤ w.tail
  pub inside : w.tail ≤ length values
  pub same : length numbers ≡ length values

-- a window within its lists, and the queue that it holds
pub record Holds (w : Window) (numbers values : List ℕ) (queue : List Packet) : Type 0 where
  pub within : Within w numbers values
  pub is : window_of w numbers values ≡ queue

-- what the end of a slot answers of a queue: the oldest packet, or none, which is idle
abbrev pub oldest_of : List Packet → Option Packet
oldest_of [] = None
oldest_of (p ∷ queue) = Some p

-- and what that says in 01's numbers: 1 sent and the packet, or 0
abbrev pub oldest_says : List Packet → PortReply
oldest_says [] = port_says 0 (record { 0 = 0 }) nobody
oldest_says (p ∷ queue) = port_says (fate_number fates.Sent) (record { 0 = 0 }) p

-- the answer of the end of a slot, told of a queue
pub record Oldest (queue : List Packet) (r : Option Packet) : Type 0 where
  pub says : of_slot (Ok r) ≡ oldest_says queue
  pub is : r ≡ oldest_of queue
