-- A line of the table: a policy's name, what its run came to, and its sent value as a part of the plan's.
use Rattle.std.specs.Prelude.{ℕ, ◌+◌, ◌*◌, ◌/◌, ◌%◌, cond, List, [], ◌∷◌, ◌++◌, eqb}
use Rattle.model.specs.declared.Totals.{Totals}
use Rattle.signs.specs.Signs.{cr, lf, comma, slash}
use Rattle.output.specs.Output.{decimal}
use Rattle.runs.specs.declared.Policy.{Policy}
use Rattle.runs.specs.declared.Policy.TheVariants.{Greedy, PG, MF, Plan}

abbrev pub space : ℕ
space = 32

-- `greedy`, `pg NUM/DEN`, `mf LO HI R`, `plan`
abbrev pub name_of : Policy → List ℕ
name_of Greedy = 103 ∷ 114 ∷ 101 ∷ 101 ∷ 100 ∷ 121 ∷ []
name_of (PG beta) = (112 ∷ 103 ∷ space ∷ []) ++ decimal beta.num ++ (slash ∷ []) ++ decimal beta.den
name_of (MF m) = (109 ∷ 102 ∷ space ∷ []) ++ decimal m.lo ++ (space ∷ []) ++ decimal m.hi ++ (space ∷ []) ++ decimal m.r
name_of Plan = 112 ∷ 108 ∷ 97 ∷ 110 ∷ []

-- sent, value, rejected, pushed out, preempted, flushed, most held
abbrev pub counts_of : Totals → List ℕ
counts_of t =
    t.sent.count ∷ t.sent.value ∷ t.rejected.count ∷ t.pushed_out.count ∷ t.preempted.count ∷ t.flushed.count ∷ t.most_held
    ∷ []

-- each number behind a comma
unfoldable pub behind_commas : List ℕ → List ℕ
behind_commas [] = []
behind_commas (n ∷ numbers) = comma ∷ (decimal n ++ behind_commas numbers)

-- a number of thousandths, with three decimals
abbrev pub thousandths : ℕ → List ℕ
thousandths n = decimal (n / 1000) ++ (46 ∷ (48 + n / 100 % 10) ∷ (48 + n / 10 % 10) ∷ (48 + n % 10) ∷ [])

-- a value as a part of the plan's, cut off after three decimals; `-` where the plan's is 0
unfoldable pub part_of : ℕ → ℕ → List ℕ
part_of value plan = cond (eqb plan 0) (45 ∷ []) (thousandths (value * 1000 / plan))

unfoldable pub line_of : Policy → Totals → ℕ → List ℕ
line_of policy t plan = name_of policy ++ behind_commas (counts_of t) ++ (comma ∷ []) ++ part_of t.sent.value plan ++ (cr ∷ lf ∷ [])
