-- The marks, the flush and the sending, one after the other, are the policy's end of a slot.
use Rattle.model.specs.Record.{lists_of}
use Rattle.steps.specs.Window.{window_of}
use Rattle.steps.proofs.Guarding.{within_lies}
use Rattle.steps.specs.Lent.{lent}
use Rattle.mf_flush.proofs.Finishing.{finished}
use Rattle.mf_flush.proofs.Leaving.{end_left}
use Rattle.mf_flush.proofs.ends.end_slot.Goals as goal

pub shape_of-marks : goal.shape_of-marks
shape_of-marks c = c.mark.auto.marks

pub returns : goal.returns
returns c = let start = c in
    let a = start.args in
    let marked = c.mark in
    let flushed = c.flush-left in
    let sent = c.send in
    let head = c.head_mark-m in
    let queue = window_of a.w a.numbers.now a.values.now in
    let by_slot = marked.ensures.passed (within_lies a.w a.numbers.now a.values.now start.requires) in
    let between = lists_of flushed.new.fates flushed.new.whens flushed.new.bys in
    let after = lists_of sent.new.fates sent.new.whens sent.new.bys in (
      finished a.room a.marking a.slots.now a.slot queue a.marks.now marked.new.marks by_slot head.result head.ensures
          (lists_of a.fates.now a.whens.now a.bys.now) between after flushed.result sent.result flushed.new.numbers flushed.new.values flushed.ensures.0 sent.ensures.0,
      end_left a.room a.marking a.slots.now a.slot queue a.marks.now marked.new.marks by_slot head.result head.ensures
          (lent a.w a.numbers.now a.values.now) flushed.result sent.result flushed.new.numbers flushed.new.values flushed.ensures.1
          between after flushed.ensures.0.queue sent.ensures.0 sent.ensures.1,
    )
