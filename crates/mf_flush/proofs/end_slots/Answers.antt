-- The test of the window decides what is left.
use mathlib.Core.Path.{sym, ◌∙◌}
use borrow.Author.Tests.{not-true, not-false}
use Rattle.model.specs.Record.{lists_of}
use Rattle.steps.proofs.Guarding.{lies_within_lem}
use Rattle.mf_flush.proofs.Leaving.{ends_kept, none_ends}
use Rattle.mf_flush.proofs.end_slots.Goals as goal

pub returns-then-not-lies_within : goal.returns-then-not-lies_within
returns-then-not-lies_within c = let a = c.args in
    none_ends a.room a.marking a.slots.now a.from a.until a.w a.numbers.now a.values.now a.marks.now (lists_of a.fates.now a.whens.now a.bys.now) (sym c.lies_within.ensures ∙ not-true _ c.if-not-lies_within.true-raw)

pub end_slots-requires : goal.end_slots-requires
end_slots-requires c = let a = c.args in
    lies_within_lem a.w a.numbers.now a.values.now (sym c.lies_within.ensures ∙ not-false _ c.if-not-lies_within.false-raw)

pub returns : goal.returns
returns c = let a = c.args in
    let ended = c.end_slots in
    ends_kept a.room a.marking a.slots.now a.from a.until a.w a.numbers.now a.values.now a.marks.now (lists_of a.fates.now a.whens.now a.bys.now)
    ended.result ended.new.numbers ended.new.values ended.new.marks (lists_of ended.new.fates ended.new.whens ended.new.bys)
    (sym c.lies_within.ensures ∙ not-false _ c.if-not-lies_within.false-raw) ended.ensures.0 ended.ensures.1
