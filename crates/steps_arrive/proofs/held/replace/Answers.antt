-- The loss leaves a free place behind the window, so the arrival is held where the lost packet's successors have closed up.
use Rattle.model.specs.Record.{lists_of}
use Rattle.steps.specs.Lent.{lent}
use Rattle.steps_arrive.proofs.Deciding.{lost_holds, lost_free, replaced_in}
use Rattle.steps_arrive.proofs.held.replace.Goals as goal

pub hold-requires : goal.hold-requires
hold-requires c = let start = c in
    let a = start.args in
    let lost = c.lose-rest in
    let rest = lent lost.result lost.new.numbers lost.new.values in record { within = (lost_holds a.w a.numbers.now a.values.now start.requires.within a.place start.requires.place_bound rest lost.ensures).within; head_in_bounds = lost_free a.w a.numbers.now a.values.now start.requires.within a.place start.requires.place_bound rest lost.ensures }

pub returns : goal.returns
returns c = let start = c in
    let a = start.args in
    let held = c.hold in
    let lost = c.lose-rest in
    let entered = c.enter in
    let fate = c.into in
    replaced_in a.w a.numbers.now a.values.now start.requires.within a.slot a.p (lists_of a.fates.now a.whens.now a.bys.now) a.place a.kind start.requires.place_bound
    fate.result fate.ensures (lists_of entered.new.fates entered.new.whens entered.new.bys) entered.ensures
    (lent lost.result lost.new.numbers lost.new.values) lost.ensures
    (lent held.result held.new.numbers held.new.values) held.ensures
