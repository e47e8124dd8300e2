-- `port::Port::is_sound` meets its contract: at each return the tests that led there are the first of the seven, and decide. Held is at most room and room
-- at most 256 before a part of the places is lent.
use mathlib.Core.Path.{◌≡◌, refl, sym, ◌∙◌}
use mathlib.Core.Bool.{true}
use native.Mathlib.Omega.{arith}
use lib.ListN.{take, length-take}
use lib.Dec.{eqb}
use borrow.Author.Tests.{lt-leb, le-leb}
use Rattle.model.specs.Refusals.{value_ok, room_ok, beta_ok}
use Rattle.model.specs.Port.{all, rises_from}
use Rattle.port.specs.State.{state_of}
use Rattle.checks.proofs.Tests.{all_behind}
use Rattle.port.proofs.Whole.{values_whole, numbers_whole}
use Rattle.port.proofs.Parts.{sound_is, room_fits}
use Rattle.port.proofs.Port.is_sound.Goals as goal

pub returns-then-not-room_ok : goal.returns-then-not-room_ok
returns-then-not-room_ok c =
    sound_is (state_of c.args.self) (sym c.room_ok.ensures ∙ c.if-not-room_ok.true) refl refl refl refl refl refl

pub returns-then-not-beta_ok : goal.returns-then-not-beta_ok
returns-then-not-beta_ok c =
    let room : room_ok c.args.self.room ≡ true = sym c.room_ok.ensures ∙ c.if-not-room_ok.false in
    sound_is (state_of c.args.self) room (sym c.beta_ok.ensures ∙ c.if-not-beta_ok.true) refl refl refl refl refl

pub returns-then-self : goal.returns-then-self
returns-then-self c =
    let room : room_ok c.args.self.room ≡ true = sym c.room_ok.ensures ∙ c.if-not-room_ok.false in
    let beta : beta_ok c.args.self.beta ≡ true = sym c.beta_ok.ensures ∙ c.if-not-beta_ok.false in
    sound_is (state_of c.args.self) room beta (lt-leb _ _ c.if-self.true) refl refl refl refl

pub slice_bounds-values-end : goal.slice_bounds-values-end
slice_bounds-values-end c =
    omega (arith, room_fits c.args.self.room (sym c.room_ok.ensures ∙ c.if-not-room_ok.false), values_whole c.args.self c.well_formed.0)

pub slice_bounds-values_ok-end : goal.slice_bounds-values_ok-end
slice_bounds-values_ok-end c =
    simp length-take (omega (arith, room_fits c.args.self.room (sym c.room_ok.ensures ∙ c.if-not-room_ok.false), values_whole c.args.self c.well_formed.0))

pub returns-then-not-values_ok : goal.returns-then-not-values_ok
returns-then-not-values_ok c =
    let room : room_ok c.args.self.room ≡ true = sym c.room_ok.ensures ∙ c.if-not-room_ok.false in
    let beta : beta_ok c.args.self.beta ≡ true = sym c.beta_ok.ensures ∙ c.if-not-beta_ok.false in
    sound_is (state_of c.args.self) room beta (le-leb _ _ c.if-self.false) (sym c.values_ok.ensures ∙ c.if-not-values_ok.true) refl refl refl

pub slice_bounds-numbers-end : goal.slice_bounds-numbers-end
slice_bounds-numbers-end c =
    omega (arith, room_fits c.args.self.room (sym c.room_ok.ensures ∙ c.if-not-room_ok.false), numbers_whole c.args.self c.well_formed.0)

pub slice_bounds-numbers_rise-end : goal.slice_bounds-numbers_rise-end
slice_bounds-numbers_rise-end c =
    simp length-take (omega (arith, room_fits c.args.self.room (sym c.room_ok.ensures ∙ c.if-not-room_ok.false), numbers_whole c.args.self c.well_formed.0))

pub returns-then-not-numbers_rise : goal.returns-then-not-numbers_rise
returns-then-not-numbers_rise c =
    let room : room_ok c.args.self.room ≡ true = sym c.room_ok.ensures ∙ c.if-not-room_ok.false in
    let beta : beta_ok c.args.self.beta ≡ true = sym c.beta_ok.ensures ∙ c.if-not-beta_ok.false in
    let values : all value_ok (take c.args.self.held c.args.self.values) ≡ true = sym c.values_ok.ensures ∙ c.if-not-values_ok.false in
    sound_is (state_of c.args.self) room beta (le-leb _ _ c.if-self.false) values (sym c.numbers_rise.ensures ∙ c.if-not-numbers_rise.true) refl refl

pub offset_bounds-values-held : goal.offset_bounds-values-held
offset_bounds-values-held c =
    omega (arith, room_fits c.args.self.room (sym c.room_ok.ensures ∙ c.if-not-room_ok.false))

pub slice_bounds-all_zero-count : goal.slice_bounds-all_zero-count
slice_bounds-all_zero-count c =
    omega (arith, room_fits c.args.self.room (sym c.room_ok.ensures ∙ c.if-not-room_ok.false))

pub slice_bounds-all_zero-start : goal.slice_bounds-all_zero-start
slice_bounds-all_zero-start c =
    omega (arith, room_fits c.args.self.room (sym c.room_ok.ensures ∙ c.if-not-room_ok.false))

pub offset_bounds-numbers-held : goal.offset_bounds-numbers-held
offset_bounds-numbers-held c =
    omega (arith, room_fits c.args.self.room (sym c.room_ok.ensures ∙ c.if-not-room_ok.false))

pub slice_bounds-all_zero-count-then-all_zero : goal.slice_bounds-all_zero-count-then-all_zero
slice_bounds-all_zero-count-then-all_zero c =
    omega (arith, room_fits c.args.self.room (sym c.room_ok.ensures ∙ c.if-not-room_ok.false))

pub slice_bounds-all_zero-start-then-all_zero : goal.slice_bounds-all_zero-start-then-all_zero
slice_bounds-all_zero-start-then-all_zero c =
    omega (arith, room_fits c.args.self.room (sym c.room_ok.ensures ∙ c.if-not-room_ok.false))

pub returns-then-all_zero : goal.returns-then-all_zero
returns-then-all_zero c =
    let room : room_ok c.args.self.room ≡ true = sym c.room_ok.ensures ∙ c.if-not-room_ok.false in
    let beta : beta_ok c.args.self.beta ≡ true = sym c.beta_ok.ensures ∙ c.if-not-beta_ok.false in
    let values : all value_ok (take c.args.self.held c.args.self.values) ≡ true = sym c.values_ok.ensures ∙ c.if-not-values_ok.false in
    let numbers : rises_from 0 c.args.self.last.0 (take c.args.self.held c.args.self.numbers) ≡ true = sym c.numbers_rise.ensures ∙ c.if-not-numbers_rise.false in
    let zero_values = sym (all_behind c.args.self.values c.args.self.held (eqb 0) _ (values_whole c.args.self c.well_formed.0)) ∙ sym c.all_zero.ensures ∙ c.if-all_zero.true in
    let zero_numbers = sym (all_behind c.args.self.numbers c.args.self.held (eqb 0) _ (numbers_whole c.args.self c.well_formed.0)) ∙ sym c.all_zero-then-all_zero.ensures in
    sound_is (state_of c.args.self) room beta (le-leb _ _ c.if-self.false) values numbers zero_values zero_numbers

pub returns-else-all_zero : goal.returns-else-all_zero
returns-else-all_zero c =
    let room : room_ok c.args.self.room ≡ true = sym c.room_ok.ensures ∙ c.if-not-room_ok.false in
    let beta : beta_ok c.args.self.beta ≡ true = sym c.beta_ok.ensures ∙ c.if-not-beta_ok.false in
    let values : all value_ok (take c.args.self.held c.args.self.values) ≡ true = sym c.values_ok.ensures ∙ c.if-not-values_ok.false in
    let numbers : rises_from 0 c.args.self.last.0 (take c.args.self.held c.args.self.numbers) ≡ true = sym c.numbers_rise.ensures ∙ c.if-not-numbers_rise.false in
    let zero_values = sym (all_behind c.args.self.values c.args.self.held (eqb 0) _ (values_whole c.args.self c.well_formed.0)) ∙ sym c.all_zero.ensures ∙ c.if-all_zero.false in
    c.if-all_zero.false ∙ sound_is (state_of c.args.self) room beta (le-leb _ _ c.if-self.false) values numbers zero_values refl
