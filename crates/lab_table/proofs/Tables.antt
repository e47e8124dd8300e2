-- The lines of a table: those of some policies are those of the first and then those of the others, or the first refusal. A line is at most 239 bytes
-- long, so the number of lines bounds the place behind them.
use Prim.Native.Nat.{ℕ, suc, ◌+◌, ◌*◌, ◌≤◌, ◌<◌}
use mathlib.Core.Path.{◌≡◌, refl, sym, ap, ap₂, ◌∙◌}
use mathlib.Core.Bool.{Bool, true, false, cond}
use mathlib.Core.List.{List, [], ◌∷◌, append-nil}
use native.Mathlib.Numerals.{add-one}
use native.Mathlib.Omega.{arith}
use lib.ListN.{length, get_or, take, drop, length-append, length-map, drop_of_length-le}
use lib.Seq.{drop-cons, take_at, sets-eq}
use lib.Dec.{eqb}
use Rattle.laws.proofs.Cases.{cond_cases}
use Rattle.std.proofs.Common.{Result, Ok, Err}
use Rattle.model.specs.declared.Beta.{Beta}
use Rattle.model.specs.declared.Refusal.{Refusal}
use Rattle.model.specs.declared.Totals.{Totals}
use Rattle.model.specs.Numbers.{cause_number}
use Rattle.model.specs.Answers.{Reply, of_run}
use Rattle.trace.proofs.Laws.{cause_refuses}
use Rattle.output.specs.Output.{refusal_text}
use Rattle.output.specs.Writing.{Wrote}
use Rattle.output.proofs.Writing.{wrote_same, wrote_both}
use Rattle.runs.specs.declared.Policy.{Policy}
use Rattle.runs.specs.declared.Policy.TheVariants.{Greedy, PG, MF, Plan}
use Rattle.runs.specs.Policy.{reply_of}
use Rattle.lab_table.specs.Line.{line_of}
use Rattle.lab_table.specs.Table.{lowest, greatest, Lines, behind, line_unless, lines_of, betas_of, mf_line, trace_mf, table_header, table_by, table_with, table_text}
use Rattle.lab_table.specs.Writing.{Begins, LinedAs}
use Rattle.lab_table.proofs.Chain.{line_length, wrote_long}

-- a list that is written from its start on begins with the text
pub begins : {text out out' : List ℕ} {n : ℕ} → Wrote 0 text out n out' → Begins n text out'
begins {text} {out} {out'} {n} W =
    let is = W.written ∙ sets-eq text out 0 W.inside in
    record {
      inside = omega (arith, W.inside, W.behind, wrote_long W);
      is = ap (take n) is ∙ take_at text (drop (0 + length text) out) n (omega (arith, W.behind));
    }

pub begins_same : {n : ℕ} {text text' out : List ℕ} → text ≡ text' → Begins n text out → Begins n text' out
begins_same e B = record { inside = B.inside; is = B.is ∙ e }

-- what an answer says of its reply
module _ (answer : Result Totals Refusal) (reply : Reply) (is : of_run answer ≡ reply) where
  pub line_refused : (f : Refusal) → answer ≡ Err f → (policy : Policy) (plan : ℕ) (more : Lines)
      → line_unless policy reply plan more ≡ Err (cause_number f.cause, f.place)
  line_refused f e policy plan more = rw (← is, e, cause_refuses f.cause) refl

  pub line_ran : (t : Totals) → answer ≡ Ok t → (policy : Policy) (plan : ℕ) (more : Lines)
      → line_unless policy reply plan more ≡ behind (line_of policy t plan) more
  line_ran t e policy plan more = rw (← is, e) refl

module _ (room : ℕ) (slots values : List ℕ) (plan : ℕ) (policy : Policy) where
  -- a policy by itself
  pub lined_refused : (answer : Result Totals Refusal) (f : Refusal) (at : ℕ) (out out' : List ℕ) → answer ≡ Err f → of_run answer ≡ reply_of policy room slots values
      → LinedAs (Err f) (lines_of room slots values plan (policy ∷ [])) at out out'
  unfolding lines_of
  lined_refused answer f at out out' e is = rw (line_refused answer (reply_of policy room slots values) is f e policy plan (Ok [])) (refl, refl)

  pub lined_ran : (answer : Result Totals Refusal) (t : Totals) {at next : ℕ} {out out' : List ℕ} → answer ≡ Ok t → of_run answer ≡ reply_of policy room slots values
      → Wrote at (line_of policy t plan) out next out' → LinedAs (Ok next) (lines_of room slots values plan (policy ∷ [])) at out out'
  unfolding lines_of
  lined_ran answer t e is W =
      rw (line_ran answer (reply_of policy room slots values) is t e policy plan (Ok []))
      (wrote_same (sym (append-nil (line_of policy t plan))) refl W)

-- lines are at most 239 bytes each
abbrev Short : Lines → ℕ → Type 0
Short (Err (number, place)) most = Unit {0}
Short (Ok lines) most = length lines ≤ most

short_behind : (line : List ℕ) (lines : Lines) (most : ℕ) → length line ≤ 239 → Short lines most → Short (behind line lines) (239 + most)
short_behind line (Err (number, place)) most low short = tt
short_behind line (Ok lines) most low short = rw (length-append line lines) (omega arith)

module _ (room : ℕ) (slots values : List ℕ) (plan : ℕ) where
  lines_short : (policies : List Policy) → Short (lines_of room slots values plan policies) (239 * length policies)
  unfolding lines_of
  lines_short [] = omega arith
  lines_short (policy ∷ policies) =
      let reply = reply_of policy room slots values in
      let line = line_of policy reply.totals plan in
      let more = short_behind line (lines_of room slots values plan policies) (239 * length policies) (line_length policy reply.totals plan) (lines_short policies) in
      cond_cases (λ (lines : Lines). Short lines (239 * suc (length policies))) (eqb reply.number 0) _ _
      (λ t. short_more (behind line (lines_of room slots values plan policies)) more (omega arith)) (λ t. tt)
    where
      short_more : (lines : Lines) {most most' : ℕ} → Short lines most → most ≤ most' → Short lines most'
      short_more (Err (number, place)) short low = tt
      short_more (Ok lines) short low = omega arith

  pub lined_near : (policies : List Policy) (next at : ℕ) (out out' : List ℕ) → LinedAs (Ok next) (lines_of room slots values plan policies) at out out'
      → next ≤ at + 239 * length policies
  lined_near policies next at out out' L = go (lines_of room slots values plan policies) (lines_short policies) L
    where
      go : (lines : Lines) → Short lines (239 * length policies) → LinedAs (Ok next) lines at out out' → next ≤ at + 239 * length policies
      go (Err (number, place)) short L = absurd L
      go (Ok lines) short L = omega (arith, L.behind)

  -- the first policy's line, and the others' behind it
  pub lined_behind : (policy : Policy) (policies : List Policy) (r : Result ℕ Refusal) (at next : ℕ) (out between out' : List ℕ)
      → LinedAs (Ok next) (lines_of room slots values plan (policy ∷ [])) at out between
      → LinedAs r (lines_of room slots values plan policies) next between out'
      → LinedAs r (lines_of room slots values plan (policy ∷ policies)) at out out'
  unfolding lines_of
  lined_behind policy policies r at next out between out' first rest =
      go (eqb reply.number 0) (lines_of room slots values plan policies) r first rest
    where
      reply : Reply
      reply = reply_of policy room slots values

      line : List ℕ
      line = line_of policy reply.totals plan

      go : (t : Bool) (lines : Lines) (r : Result ℕ Refusal)
          → LinedAs (Ok next) (cond t (behind line (Ok [])) (Err (reply.number, reply.place))) at out between → LinedAs r lines next between out'
          → LinedAs r (cond t (behind line lines) (Err (reply.number, reply.place))) at out out'
      go false lines r L R = absurd L
      go true (Err (number, place)) (Ok n) L R = absurd R
      go true (Err (number, place)) (Err f) L R = R
      go true (Ok lines) (Ok n) L R = wrote_both (wrote_same (append-nil line) refl L) R
      go true (Ok lines) (Err f) L R = absurd R

  -- the first policy's refusal
  pub lined_first : (policy : Policy) (policies : List Policy) (f : Refusal) (at : ℕ) (out out' : List ℕ)
      → LinedAs (Err f) (lines_of room slots values plan (policy ∷ [])) at out out'
      → LinedAs (Err f) (lines_of room slots values plan (policy ∷ policies)) at out out'
  unfolding lines_of
  lined_first policy policies f at out out' first = go (eqb reply.number 0) first
    where
      reply : Reply
      reply = reply_of policy room slots values

      line : List ℕ
      line = line_of policy reply.totals plan

      go : (t : Bool) → LinedAs (Err f) (cond t (behind line (Ok [])) (Err (reply.number, reply.place))) at out out'
          → LinedAs (Err f) (cond t (behind line (lines_of room slots values plan policies)) (Err (reply.number, reply.place))) at out out'
      go true L = absurd L
      go false L = L

  pub lined_none : (at : ℕ) (out : List ℕ) → at ≤ length out → LinedAs (Ok at) (lines_of room slots values plan []) at out out
  unfolding lines_of
  lined_none at out fits = record { inside = omega arith; written = refl; behind = omega arith }

-- the loop over the betas
module _ (room : ℕ) (slots values : List ℕ) (plan : ℕ) (betas : List Beta) (i : ℕ) where
  abbrev pub betas_left : Lines
  betas_left = lines_of room slots values plan (betas_of (drop i betas))

  module _ (none : Beta) (more : i < length betas) where
    abbrev beta : Policy
    beta = PG (get_or betas i none)

    betas_next : betas_of (drop i betas) ≡ beta ∷ betas_of (drop (i + 1) betas)
    betas_next = rw (add-one i, drop-cons betas i none more) refl

    pub betas_turn : (r : Result ℕ Refusal) (at next : ℕ) (out between out' : List ℕ)
        → LinedAs (Ok next) (lines_of room slots values plan (beta ∷ [])) at out between
        → LinedAs r (lines_of room slots values plan (betas_of (drop (i + 1) betas))) next between out' → LinedAs r betas_left at out out'
    betas_turn r at next out between out' L R =
        rw betas_next (lined_behind room slots values plan beta (betas_of (drop (i + 1) betas)) r at next out between out' L R)

    pub betas_refused : (f : Refusal) (at : ℕ) (out out' : List ℕ)
        → LinedAs (Err f) (lines_of room slots values plan (beta ∷ [])) at out out' → LinedAs (Err f) betas_left at out out'
    betas_refused f at out out' L =
        rw betas_next (lined_first room slots values plan beta (betas_of (drop (i + 1) betas)) f at out out' L)

  pub betas_end : length betas ≤ i → (at : ℕ) (out : List ℕ) → at ≤ length out → LinedAs (Ok at) betas_left at out out
  betas_end done at out fits = rw (drop_of_length-le betas done) (lined_none room slots values plan at out fits)

-- MF's line
module _ (room : ℕ) (slots values : List ℕ) (plan lo hi : ℕ) (l : lo ≡ lowest values) (h : hi ≡ greatest values) (answer : Result Totals Refusal)
    (is : of_run answer ≡ reply_of (MF (record { lo = lo; hi = hi; r = 1 })) room slots values) where
  abbrev own : Policy
  own = MF (record { lo = lo; hi = hi; r = 1 })

  mf_is : cond (eqb (of_run answer).number 0) (line_of own (of_run answer).totals plan) [] ≡ mf_line room slots values plan
  unfolding mf_line
  mf_is =
      ap (λ (reply : Reply). cond (eqb reply.number 0) (line_of own reply.totals plan) []) is
      ∙ ap₂
      (λ (a b : ℕ).
      let policy = MF (record { lo = a; hi = b; r = 1 }) in
      let reply = reply_of policy room slots values in
      cond (eqb reply.number 0) (line_of policy reply.totals plan) [])
      l
      h

  pub mf_none : (f : Refusal) → answer ≡ Err f → (at : ℕ) (out : List ℕ) → at ≤ length out → Wrote at (mf_line room slots values plan) out at out
  mf_none f e at out fits =
      let none : [] ≡ mf_line room slots values plan = sym (rw (e, cause_refuses f.cause) refl) ∙ mf_is in
      wrote_same none refl (record { inside = omega arith; written = refl; behind = omega arith })

  pub mf_some : (t : Totals) → answer ≡ Ok t → {at next : ℕ} {out out' : List ℕ} → Wrote at (line_of own t plan) out next out'
      → Wrote at (mf_line room slots values plan) out next out'
  mf_some t e W = wrote_same (sym (rw e refl) ∙ mf_is) refl W

pub mf_length : (room : ℕ) (slots values : List ℕ) (plan : ℕ) → length (mf_line room slots values plan) ≤ 239
unfolding mf_line
mf_length room slots values plan =
    let reply = reply_of (trace_mf values) room slots values in
    cond_cases (λ (text : List ℕ). length text ≤ 239) (eqb reply.number 0) _ _ (λ t. line_length (trace_mf values) reply.totals plan) (λ t. omega arith)

-- a refusal instead of the table
by_refused : (lines : Lines) (last : List ℕ) (f : Refusal) (at : ℕ) (out out' : List ℕ) → LinedAs (Err f) lines at out out'
    → refusal_text (cause_number f.cause) f.place ≡ table_by lines last
by_refused (Err (number, place)) last f at out out' L = ap₂ refusal_text L.0 L.1
by_refused (Ok lines) last f at out out' L = absurd L

-- the header, the lines and the last lines
by_written : (lines : Lines) (last : List ℕ) (at next end : ℕ) (out out' out'' out''' : List ℕ) → Wrote 0 table_header out at out'
    → LinedAs (Ok next) lines at out' out'' → Wrote next last out'' end out''' → Wrote 0 (table_by lines last) out end out'''
by_written (Err (number, place)) last at next end out out' out'' out''' H L W = absurd L
by_written (Ok lines) last at next end out out' out'' out''' H L W = wrote_both H (wrote_both L W)

module _ (room : ℕ) (betas : List Beta) (slots values : List ℕ) (plan : Totals) where
  abbrev compared : Lines
  compared = lines_of room slots values plan.sent.value (Greedy ∷ betas_of betas)

  pub table_refused : (f : Refusal) (at : ℕ) (out out' : List ℕ) → LinedAs (Err f) compared at out out'
      → refusal_text (cause_number f.cause) f.place ≡ table_with room betas slots values plan
  unfolding table_with
  table_refused f at out out' L = by_refused compared _ f at out out' L

  pub table_written : {next : ℕ} (at : ℕ) {middle end : ℕ} (out out' out'' : List ℕ) {out''' last : List ℕ}
      → Wrote 0 table_header out at out' → LinedAs (Ok next) compared at out' out''
      → Wrote next (mf_line room slots values plan.sent.value) out'' middle out''' → Wrote middle (line_of Plan plan plan.sent.value) out''' end last
      → Wrote 0 (table_with room betas slots values plan) out end last
  unfolding table_with
  table_written {next} at {end = end} out out' out'' {last = last} H L M P =
      by_written compared _ at next end out out' out'' last H L (wrote_both M P)

  pub table_near : {next : ℕ} (at : ℕ) (out out' : List ℕ) → LinedAs (Ok next) compared at out out' → next ≤ at + 239 + 239 * length betas
  table_near {next} at out out' L =
      let near = lined_near room slots values plan.sent.value (Greedy ∷ betas_of betas) next at out out' L in
      let few : length (betas_of betas) ≡ length betas = length-map betas PG in
      omega arith

-- the plan's answer
module _ (room : ℕ) (betas : List Beta) (slots values : List ℕ) (answer : Result Totals Refusal) (is : of_run answer ≡ reply_of Plan room slots values) where
  text_is : cond (eqb (of_run answer).number 0) (table_with room betas slots values (of_run answer).totals) (refusal_text (of_run answer).number (of_run answer).place)
      ≡ table_text room betas slots values
  unfolding table_text
  text_is =
      ap (λ (plan : Reply). cond (eqb plan.number 0) (table_with room betas slots values plan.totals) (refusal_text plan.number plan.place)) is

  pub text_refused : (f : Refusal) → answer ≡ Err f → refusal_text (cause_number f.cause) f.place ≡ table_text room betas slots values
  text_refused f e = sym (rw (e, cause_refuses f.cause) refl) ∙ text_is

  pub text_ran : (t : Totals) → answer ≡ Ok t → table_with room betas slots values t ≡ table_text room betas slots values
  text_ran t e = sym (rw e refl) ∙ text_is
