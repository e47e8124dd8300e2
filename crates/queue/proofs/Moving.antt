-- Where a part of a list moves down, and where nothing moves.
use Prim.Native.Nat.{ℕ, ◌-◌, ◌≤◌, ◌<◌}
use mathlib.Core.Path.{◌≡◌, refl}
use mathlib.Core.Bool.{◌&&◌, and-false}
use mathlib.Core.List.{List}
use lib.ListN.{length, drop}
use lib.Seq.{paste}
use lib.Dec.{leb}
use borrow.Author.Tests.{le-leb, lt-leb}
use Rattle.queue.specs.Slide.{slid}

module _ (from end to : ℕ) (list : List ℕ) where
  pub slid_moved : to ≤ from → from ≤ end → end ≤ length list → slid from end to list ≡ paste list to (drop from list) (end - from)
  unfolding slid
  slid_moved a b c = rw (le-leb _ _ a, le-leb _ _ b, le-leb _ _ c) refl

  pub slid_up : from < to → slid from end to list ≡ list
  unfolding slid
  slid_up a = rw (lt-leb _ _ a) refl

  pub slid_back : end < from → slid from end to list ≡ list
  unfolding slid
  slid_back a = rw (lt-leb _ _ a, and-false) refl

  pub slid_past : length list < end → slid from end to list ≡ list
  unfolding slid
  slid_past a = rw (lt-leb _ _ a, and-false (leb to from && leb from end)) refl
