-- What the parser's definitions say, case by case: the form in which the code goes by its cases.
use Prim.Native.Nat.{ℕ, ◌+◌, ◌≤◌, ◌<◌}
use mathlib.Core.Path.{◌≡◌, refl, ap, ap₂}
use mathlib.Core.Bool.{Bool}
use mathlib.Core.List.{List}
use native.Mathlib.Numerals.{add-one}
use lib.ListN.{length, get_or, drop, drop_of_length-le}
use lib.Seq.{drop-cons}
use Rattle.rows.specs.Reading.{State, at_start, after, after_by, after_all, finished, finished_by}

module _ (header : List ℕ) where
  pub after_by_lem : (st : State) (t : Bool) → st.parser.after_cr ≡ t → (b : ℕ) → after header b st ≡ after_by t header b st
  unfolding after
  after_by_lem st t is b = ap (λ (u : Bool). after_by u header b st) is

  pub finished_by_lem : (st : State) (t : Bool) → st.parser.after_cr ≡ t → (u : Bool) → at_start st.parser ≡ u
      → finished header st ≡ finished_by t u header st
  unfolding finished
  finished_by_lem st t is u at = ap₂ (λ (r start : Bool). finished_by r start header st) is at

  -- the loop over the bytes: what is left of them, read from the present state, gives what all of them give
  pub fed_turn : (bytes : List ℕ) (i : ℕ) → i < length bytes → (st st' : State) → st' ≡ after header (get_or bytes i 0) st
      → after_all header (drop (i + 1) bytes) st' ≡ after_all header (drop i bytes) st
  unfolding after_all
  fed_turn bytes i inside st st' e = rw (add-one, drop-cons bytes i 0, e) refl

  pub fed_done : (bytes : List ℕ) (i : ℕ) → length bytes ≤ i → (st : State) → st ≡ after_all header (drop i bytes) st
  unfolding after_all
  fed_done bytes i done st = rw (drop_of_length-le bytes done) refl
