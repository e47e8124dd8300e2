-- What is counted of the fate and what is left come to what there is. So no count is above the number of packets, and no value above what they are worth.
use Rattle.std.proofs.Common.{rules, ◌≡◌, ◌∷◌, refl, arith}
use Rattle.std.specs.Slice.Iter.{iter_rest}
use Rattle.std.specs.Iterator.Adapters.{zip_first, zip_second}
use Rattle.std.proofs.lemmas.Slice.Zip.{either_empty_from_Zip}
use Rattle.totals.proofs.Counting.{counted_none, counted_more, counted_all, count_le, worth_le}
use Rattle.totals.proofs.tally_of.Goals as goal

pub loop-worth-init : goal.loop-worth-init
loop-worth-init c =
    let worths : iter_rest (zip_first c.into_iter-worth-iterator.result) ≡ c.args.values.now = search rules in
    let left : iter_rest (zip_second c.into_iter-worth-iterator.result) ≡ c.args.fates.now = search rules in
    counted_none c.from-number.result c.args.values.now c.args.fates.now c.requires.same _ _ worths left

pub overflow_add-count : goal.overflow_add-count
overflow_add-count c =
    let left : iter_rest (zip_second c.loop-worth.worth-iterator) ≡ c.in-Some.fate.now ∷ iter_rest (zip_second c.next.new.self) = search rules in
    let worths : iter_rest (zip_first c.loop-worth.worth-iterator) ≡ c.in-Some.worth.now ∷ iter_rest (zip_first c.next.new.self) = search rules in
    let more = counted_more _ _ _ _ _ _ _ c.loop-worth.invariant _ _ _ _ worths left _ _ c.only_if-count.ensures refl in
    omega (arith, more.counted, count_le c.from-number.result c.args.fates.now, c.requires.few)

pub overflow_add-value : goal.overflow_add-value
overflow_add-value c =
    let left : iter_rest (zip_second c.loop-worth.worth-iterator) ≡ c.in-Some.fate.now ∷ iter_rest (zip_second c.next.new.self) = search rules in
    let worths : iter_rest (zip_first c.loop-worth.worth-iterator) ≡ c.in-Some.worth.now ∷ iter_rest (zip_first c.next.new.self) = search rules in
    let more = counted_more _ _ _ _ _ _ _ c.loop-worth.invariant _ _ _ _ worths left _ _ c.only_if-count.ensures c.only_if-value.ensures in
    omega (arith, more.summed, worth_le c.from-number.result c.args.values.now c.args.fates.now c.requires.values_fit, c.requires.few)

pub loop-worth-preserved : goal.loop-worth-preserved
loop-worth-preserved c =
    let left : iter_rest (zip_second c.loop-worth.worth-iterator) ≡ c.in-Some.fate.now ∷ iter_rest (zip_second c.next.new.self) = search rules in
    let worths : iter_rest (zip_first c.loop-worth.worth-iterator) ≡ c.in-Some.worth.now ∷ iter_rest (zip_first c.next.new.self) = search rules in
    counted_more _ _ _ _ _ _ _ c.loop-worth.invariant _ _ _ _ worths left _ _ c.only_if-count.ensures c.only_if-value.ensures

pub returns : goal.returns
returns c =
    let done = either_empty_from_Zip c.loop-worth.worth-iterator c.next.new.self _ c.in-None.is c.next.ensures.steps in
    rw (← c.from-number.ensures) (counted_all _ _ _ _ _ _ _ c.loop-worth.invariant done)
