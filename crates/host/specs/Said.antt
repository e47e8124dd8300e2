-- What a call on a trace answers to the benchmark: one number, the three lists of the record, and a list of totals.
use Rattle.std.specs.Prelude.{ℕ, ◌+◌, ◌*◌, ◌^◌, ◌≡◌, Bool, cond, ◌||◌, List, set, eqb}
use Rattle.model.specs.declared.Beta.{Beta}
use Rattle.model.specs.declared.Marking.{Marking}
use Rattle.model.specs.declared.Tally.{Tally}
use Rattle.model.specs.declared.Totals.{Totals}
use Rattle.model.specs.declared.Fault.TheVariants as faults
use Rattle.model.specs.Limits.{within}
use Rattle.model.specs.Record.{Lists}
use Rattle.model.specs.Lent.{LentList, was, left, lists_before, lists_after}
use Rattle.model.specs.Answers.{Reply, fault_number}
use Rattle.model.specs.Calls.{Outcome}

abbrev pub beta_of : ℕ → ℕ → Beta
beta_of num den = record { num = num; den = den }

abbrev pub marking_of : ℕ → ℕ → ℕ → Marking
marking_of lo hi r = record { lo = lo; hi = hi; r = r }

-- 0, or a refusal's or a fault's number times 2 ^ 32 and its place
abbrev pub code_of : ℕ → ℕ → ℕ
code_of number place = number * 2 ^ 32 + place

-- a tally at two places of a list
abbrev pub tallied : ℕ → Tally → List ℕ → List ℕ
tallied place tally list = set (set list place tally.count) (place + 1) tally.value

-- the totals in the first thirteen places of a list, as far as it has them
abbrev pub told : Totals → List ℕ → List ℕ
told totals list =
    set
    (tallied 10 totals.flushed
    (tallied 8 totals.preempted
    (tallied 6 totals.pushed_out
    (tallied 4 totals.rejected
    (tallied 2 totals.sent
    (tallied 0 totals.arrived list))))))
    12
    totals.most_held

-- no number, or a fault's: a refusal gives no totals, an audit that names a fault answers them all as 0
abbrev pub gives_totals : ℕ → Bool
gives_totals number = eqb number 0 || within (fault_number faults.FateOutside) (fault_number faults.OverRoom) number

-- a reply is said by a number and in the list of totals, into which a refusal writes nothing
pub record SaidOfAudit (reply : Reply) (before : List ℕ) (answer : ℕ) (after : List ℕ) : Type 0 where
  pub number : answer ≡ code_of reply.number reply.place
  pub totals : after ≡ cond (gives_totals reply.number) (told reply.totals before) before

-- and so is an outcome, whose record stands in the three lists
pub record Said (outcome : Outcome) (before : List ℕ) (answer : ℕ) (record-lists : Lists) (after : List ℕ) : Type 0 where
  pub reply : SaidOfAudit outcome.reply before answer after
  pub lists : record-lists ≡ outcome.lists

-- what the call of these lists says
abbrev pub SaysOf : LentList → LentList → LentList → LentList → ℕ → (Lists → Outcome) → Type 0
SaysOf fates whens bys totals answer call =
    Said (call (lists_before fates whens bys)) (was totals) answer (lists_after fates whens bys) (left totals)
