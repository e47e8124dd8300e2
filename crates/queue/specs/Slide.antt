-- A list in which a part has moved down: how a packet is taken out of the middle of a queue, and how a queue is moved to the start of its list.
use Rattle.std.specs.Prelude.{ℕ, ◌-◌, cond, ◌&&◌, List, length, drop, leb}
use Rattle.std.proofs.Math.Seq.{paste}

-- the entries from place `from` up to place `end` stand from place `to` on; all others are as before. Where these are no such places all are
unfoldable pub slid : ℕ → ℕ → ℕ → List ℕ → List ℕ
slid from end to list =
    cond (leb to from && leb from end && leb end (length list)) (paste list to (drop from list) (end - from)) list
