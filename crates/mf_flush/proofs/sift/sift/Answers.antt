-- The invariant: what is held so far and what still stays is all that stays; what still goes completes what has gone.
use mathlib.Core.Path.{sym, ap, ◌∙◌}
use mathlib.Core.Bool.{not, ◌&&◌}
use lib.ListN.{get_or}
use lib.Dec.{eqb, leb}
use Rattle.model.specs.declared.PacketNumber.{PacketNumber}
use Rattle.model.specs.declared.Fate.TheVariants.{Flushed}
use Rattle.model.specs.Record.{enter, lists_of}
use Rattle.entry.specs.Entry.{entry}
use Rattle.mf_flush.proofs.Flushing.{sifting_all, sifting_none, sifting_goes, sifting_stays}
use Rattle.mf_flush.proofs.sift.sift.Goals as goal

pub loop-from-init : goal.loop-from-init
loop-from-init c = let a = c.args in
    sifting_all a.m a.marks.now a.slot a.w.head a.w.tail a.numbers.now a.values.now (lists_of a.fates.now a.whens.now a.bys.now) c.requires

pub loop-from-preserved-then-goes_with : goal.loop-from-preserved-then-goes_with
loop-from-preserved-then-goes_with c = let a = c.args in
    let loop = c.loop-from in
    let entered = c.enter in
    let mark = c.mark_of-mark in
    let goes = sym (ap (λ (k : PacketNumber). not (eqb k.0 0) && leb k.0 a.m.0) mark.ensures) ∙ sym c.goes_with.ensures ∙ c.if-goes_with.true in
    sifting_goes a.m a.marks.now a.slot a.w.head a.w.tail a.numbers.now a.values.now (lists_of a.fates.now a.whens.now a.bys.now) loop.numbers loop.values loop.from loop.to (lists_of loop.fates loop.whens loop.bys) loop.invariant c.loop-from-test.true goes _
    (entered.ensures ∙ ap (λ (k : PacketNumber). enter (entry (record { 0 = get_or loop.numbers loop.from 0 }) Flushed a.slot k) (lists_of loop.fates loop.whens loop.bys)) mark.ensures)

pub loop-from-preserved : goal.loop-from-preserved
loop-from-preserved c = let a = c.args in
    let loop = c.loop-from in
    let stays = sym (ap (λ (k : PacketNumber). not (eqb k.0 0) && leb k.0 a.m.0) c.mark_of-mark.ensures) ∙ sym c.goes_with.ensures ∙ c.if-goes_with.false in
    sifting_stays a.m a.marks.now a.slot a.w.head a.w.tail a.numbers.now a.values.now (lists_of a.fates.now a.whens.now a.bys.now) loop.numbers loop.values loop.from loop.to (lists_of loop.fates loop.whens loop.bys) loop.invariant c.loop-from-test.true stays

pub returns : goal.returns
returns c = let a = c.args in
    let loop = c.loop-from in
    sifting_none a.m a.marks.now a.slot a.w.head a.w.tail a.numbers.now a.values.now (lists_of a.fates.now a.whens.now a.bys.now) loop.numbers loop.values loop.from loop.to (lists_of loop.fates loop.whens loop.bys) loop.invariant c.loop-from-test.false
