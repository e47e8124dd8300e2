-- Lists that are lent to a call, in its promise: as they were, and as it leaves them.
use Rattle.std.specs.Prelude.{ℕ, List}
use Rattle.std.specs.Borrow.{MutBor}
use denote.Triple.Both.{Both}
use Rattle.model.specs.Record.{Lists, lists_of}

-- a lent list
abbrev pub LentList : Type 0
LentList = Both (MutBor (List ℕ)) (MutBor (List ℕ))

-- a list before a call, and after it
abbrev pub was : LentList → List ℕ
was list = list.entry.now

abbrev pub left : LentList → List ℕ
left list = list.exit.now

-- the record's three lists before a call, and after it
abbrev pub lists_before : LentList → LentList → LentList → Lists
lists_before fates whens bys = lists_of (was fates) (was whens) (was bys)

abbrev pub lists_after : LentList → LentList → LentList → Lists
lists_after fates whens bys = lists_of (left fates) (left whens) (left bys)
