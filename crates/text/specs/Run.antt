-- A policy's record or its refusal as text.
use Rattle.std.specs.Prelude.{ℕ, cond, List, [], length, ltb}
use Rattle.model.specs.Record.{Lists, blank}
use Rattle.output.specs.Output.{output_limit}
use Rattle.output.specs.Said.{said_of}
use Rattle.runs.specs.declared.Policy.{Policy}
use Rattle.runs.specs.Policy.{call_of}

-- what is said of a call, the record's lists being these before
abbrev pub called_text : Policy → ℕ → List ℕ → List ℕ → Lists → List ℕ
called_text policy room slots values lists = said_of slots values (call_of policy room slots values lists)

abbrev pub run_text : Policy → ℕ → List ℕ → List ℕ → List ℕ
run_text policy room slots values = called_text policy room slots values (blank (length slots))

-- nothing is said in a list that is too short for the longest answer
unfoldable pub run_spoken : Policy → ℕ → List ℕ → List ℕ → List ℕ → List ℕ
run_spoken policy room slots values out = cond (ltb (length out) output_limit) [] (run_text policy room slots values)
