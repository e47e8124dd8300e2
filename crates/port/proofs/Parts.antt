-- Soundness taken apart into its seven tests and put together from them; and what a live call is when its tests are known.
use Prim.Native.Nat.{ℕ, ◌≤◌}
use mathlib.Core.Path.{◌≡◌, sym}
use mathlib.Core.Bool.{Bool, true, ◌&&◌}
use mathlib.Core.List.{List, [], ◌∷◌}
use native.Mathlib.Omega.{arith}
use lib.ListN.{length, take, drop, length-take}
use lib.Dec.{leb, eqb}
use borrow.Author.Tests.{leb-true, le-leb}
use Rattle.model.specs.Limits.{port_limits, within}
use Rattle.model.specs.Refusals.{value_ok, room_ok, beta_ok}
use Rattle.model.specs.Port.{PortState, packets_of, queue_of, all, rises_from, sound}
use Rattle.port.specs.State.{Placed}
use Rattle.port.proofs.Padded.{both, is_padded}
use Rattle.port.proofs.Holding.{places_hold}

pub sound_is : (port : PortState) {r b h v n z w : Bool} → room_ok port.room ≡ r → beta_ok port.beta ≡ b → leb port.held port.room ≡ h
    → all value_ok (take port.held port.values) ≡ v → rises_from 0 port.last.0 (take port.held port.numbers) ≡ n
    → all (eqb 0) (drop port.held port.values) ≡ z → all (eqb 0) (drop port.held port.numbers) ≡ w
    → r && b && h && v && n && z && w ≡ sound port
unfolding sound
sound_is port r b h v n z w = cc

pub record Sound (port : PortState) : Type 0 where
  pub room_is_ok : room_ok port.room ≡ true
  pub beta_is_ok : beta_ok port.beta ≡ true
  pub held_fits : port.held ≤ port.room
  pub values_ok : all value_ok (take port.held port.values) ≡ true
  pub numbers_rise : rises_from 0 port.last.0 (take port.held port.numbers) ≡ true
  pub values_zero : all (eqb 0) (drop port.held port.values) ≡ true
  pub numbers_zero : all (eqb 0) (drop port.held port.numbers) ≡ true

pub sound_parts : (port : PortState) → sound port ≡ true → Sound port
unfolding sound
sound_parts port e =
    let w = both _ _ e in
    let z = both _ _ w.0 in
    let n = both _ _ z.0 in
    let v = both _ _ n.0 in
    let h = both _ _ v.0 in
    let b = both _ _ h.0 in
    record {
      room_is_ok = b.0;
      beta_is_ok = b.1;
      held_fits = leb-true _ _ h.1;
      values_ok = v.1;
      numbers_rise = n.1;
      values_zero = z.1;
      numbers_zero = w.1;
    }

packets_fewer : (numbers values : List ℕ) → length (packets_of numbers values) ≤ length numbers
unfolding packets_of
packets_fewer [] values = omega arith
packets_fewer (n ∷ numbers) [] = omega arith
packets_fewer (n ∷ numbers) (v ∷ values) = omega (arith, packets_fewer numbers values)

-- a sound port's queue is within its room
pub queue_short : (port : PortState) → Sound port → length (queue_of port) ≤ port.room
queue_short port S =
    omega (
      arith,
      S.held_fits,
      packets_fewer (take port.held port.numbers) (take port.held port.values),
      length-take port.held port.numbers,
    )

pub parts_sound : (port : PortState) → Sound port → sound port ≡ true
parts_sound port S =
    sym
    (sound_is port S.room_is_ok S.beta_is_ok (le-leb _ _ S.held_fits) S.values_ok S.numbers_rise S.values_zero S.numbers_zero)

pub room_fits : (room : ℕ) → room_ok room ≡ true → room ≤ port_limits.room
unfolding within
room_fits room e = leb-true _ _ (both (leb 1 room) (leb room port_limits.room) e).1

pub room_some : (room : ℕ) → room_ok room ≡ true → 1 ≤ room
unfolding within
room_some room e = leb-true _ _ (both (leb 1 room) (leb room port_limits.room) e).0

-- a sound port's places hold its queue
pub sound_placed : (port : PortState) → sound port ≡ true → length port.values ≡ port_limits.room → length port.numbers ≡ port_limits.room
    → (port.held ≤ port_limits.room) × Placed port
sound_placed port e values numbers =
    let S = sound_parts port e in
    let fits : port.held ≤ port_limits.room = omega (arith, S.held_fits, room_fits port.room S.room_is_ok) in (
      fits,
      places_hold port fits values numbers
          (is_padded port_limits.room port.held port.values values fits S.values_zero)
          (is_padded port_limits.room port.held port.numbers numbers fits S.numbers_zero),
    )
