-- With no refusal the audit answers the first fault's verdict. That verdict is of the first row whose own verdict is not clear: the rows before it have
-- clear ones, so they are faultless; and a row's own verdict is that of its first test that holds.
use Prim.Native.Nat.{ℕ, suc, ◌+◌, ◌<◌}
use native.Mathlib.Omega.{arith}
use mathlib.Core.Path.{◌≡◌, refl, sym, ap, subst, ◌∙◌}
use mathlib.Core.Bool.{Bool, true, false, cond}
use mathlib.Core.List.{List, [], ◌∷◌, ◌++◌, reverse_aux, reverse}
use lib.ListN.{length}
use lib.Dec.{eqb}
use Rattle.model.specs.declared.Fault.{Fault}
use Rattle.model.specs.declared.Fault.TheVariants.{FateOutside, ByWrong, WhenWrong, NotLater, OverRoom}
use Rattle.model.specs.Packets.{arrivals_from, arrivals}
use Rattle.model.specs.Record.{Row, Lists, rows_of, rows}
use Rattle.model.specs.Rules.{Buffer, Verdict, ObeysFrom, or_else, fault_at, first_fault_from, first_fault, buffer_of}
use Rattle.model.specs.Refusals.{plain_refusal}
use Rattle.model.specs.Answers.{Reply, fault_number}
use Rattle.model.specs.Calls.{reply_to, reply_with, audit_call}
use Rattle.laws.proofs.Cases.{eqb_cases}
use Rattle.laws.proofs.FirstFault.{obeys_iff_clear, fault_at_zero}
use Rattle.theorems.specs.Audited.{has_fault, AuditPasses, AuditNames}

-- to show something of each fault
each_fault : (Q : Fault → Type 0) → Q FateOutside → Q ByWrong → Q WhenWrong → Q NotLater → Q OverRoom → (f : Fault) → Q f
each_fault Q a b c d e FateOutside = a
each_fault Q a b c d e ByWrong = b
each_fault Q a b c d e WhenWrong = c
each_fault Q a b c d e NotLater = d
each_fault Q a b c d e OverRoom = e

module _ (B : Buffer) (older : List Row) (r : Row) where
  -- a fault that is tested before f is absent
  abbrev Before : Fault → Fault → Type 0
  Before f other = fault_number other < fault_number f → has_fault B older r other ≡ false

  -- a verdict is of the row's first fault
  record OfFirst (v : Verdict) : Type 0 where
    fault : Fault
    number_is : v.number ≡ fault_number fault
    place_is : v.place ≡ r.number.0
    has : has_fault B older r fault ≡ true
    none_before : (other : Fault) → Before fault other

  -- the test of this fault holds, and those before it fail
  of_first : (f : Fault) → fault_at B older r ≡ record { number = fault_number f; place = r.number.0 } → has_fault B older r f ≡ true →
      ((other : Fault) → Before f other) → OfFirst (fault_at B older r)
  of_first f v has none =
      record {
        fault = f;
        number_is = ap (λ (w : Verdict). w.number) v;
        place_is = ap (λ (w : Verdict). w.place) v;
        has = has;
        none_before = none;
      }

  row_first : ((fault_at B older r).number ≡ 0 → ⊥) → OfFirst (fault_at B older r)
  unfolding fault_at or_else
  row_first named =
      go (has_fault B older r FateOutside) refl (has_fault B older r ByWrong) refl (has_fault B older r WhenWrong) refl
      (has_fault B older r NotLater) refl (has_fault B older r OverRoom) refl
    where
      go : (a : Bool) → has_fault B older r FateOutside ≡ a → (b : Bool) → has_fault B older r ByWrong ≡ b → (c : Bool) → has_fault B older r WhenWrong ≡ c →
          (d : Bool) → has_fault B older r NotLater ≡ d → (e : Bool) → has_fault B older r OverRoom ≡ e → OfFirst (fault_at B older r)
      go true ha b hb c hc d hd e he =
          of_first FateOutside (rw ha) ha
          (each_fault (Before FateOutside) (λ h. absurd (omega arith)) (λ h. absurd (omega arith)) (λ h. absurd (omega arith)) (λ h. absurd (omega arith))
          (λ h. absurd (omega arith)))
      go false ha true hb c hc d hd e he =
          of_first ByWrong (rw (ha, hb)) hb
          (each_fault (Before ByWrong) (λ h. ha) (λ h. absurd (omega arith)) (λ h. absurd (omega arith)) (λ h. absurd (omega arith)) (λ h. absurd (omega arith)))
      go false ha false hb true hc d hd e he =
          of_first WhenWrong (rw (ha, hb, hc)) hc
          (each_fault (Before WhenWrong) (λ h. ha) (λ h. hb) (λ h. absurd (omega arith)) (λ h. absurd (omega arith)) (λ h. absurd (omega arith)))
      go false ha false hb false hc true hd e he =
          of_first NotLater (rw (ha, hb, hc, hd)) hd
          (each_fault (Before NotLater) (λ h. ha) (λ h. hb) (λ h. hc) (λ h. absurd (omega arith)) (λ h. absurd (omega arith)))
      go false ha false hb false hc false hd true he =
          of_first OverRoom (rw (ha, hb, hc, hd, he)) he
          (each_fault (Before OverRoom) (λ h. ha) (λ h. hb) (λ h. hc) (λ h. hd) (λ h. absurd (omega arith)))
      go false ha false hb false hc false hd false he = absurd (named (rw (ha, hb, hc, hd, he)))

-- the first row with a fault, among rows that stand after `older`
record Splits (B : Buffer) (older rows : List Row) : Type 0 where
  lower : List Row
  packet : Row
  higher : List Row
  in_order : rows ≡ lower ++ packet ∷ higher
  lower_obey : ObeysFrom B older lower
  verdict : first_fault_from B older rows ≡ fault_at B (reverse_aux lower older) packet

splits : (B : Buffer) (older rows : List Row) → ((first_fault_from B older rows).number ≡ 0 → ⊥) → Splits B older rows
unfolding first_fault_from or_else
splits B older [] named = absurd (named refl)
splits B older (r ∷ rows) named =
    eqb_cases (fault_at B older r).number 0 _
    (λ t z.
    let rest = splits B (r ∷ older) rows (rw t at named) in
    record {
      lower = r ∷ rest.lower;
      packet = rest.packet;
      higher = rest.higher;
      in_order = ap (λ (rs : List Row). r ∷ rs) rest.in_order;
      lower_obey = (fault_at_zero B older r z, rest.lower_obey);
      verdict = rw t rest.verdict;
    })
    (λ t q. record { lower = []; packet = r; higher = rows; in_order = refl; lower_obey = tt; verdict = rw t refl })

-- rows are numbered in order
abbrev Numbered : ℕ → List Row → Type 0
Numbered n [] = Unit {0}
Numbered n (r ∷ rows) = (r.number.0 ≡ n) × Numbered (suc n) rows

numbered : (n : ℕ) (slots values fates whens bys : List ℕ) → Numbered n (rows_of (arrivals_from n slots values) fates whens bys)
unfolding rows_of arrivals_from
numbered n [] values fates whens bys = tt
numbered n (s ∷ slots) [] fates whens bys = tt
numbered n (s ∷ slots) (v ∷ values) [] whens bys = tt
numbered n (s ∷ slots) (v ∷ values) (f ∷ fates) [] bys = tt
numbered n (s ∷ slots) (v ∷ values) (f ∷ fates) (w ∷ whens) [] = tt
numbered n (s ∷ slots) (v ∷ values) (f ∷ fates) (w ∷ whens) (b ∷ bys) = (refl, numbered (suc n) slots values fates whens bys)

numbered_at : (n : ℕ) (lower : List Row) (r : Row) (higher : List Row) → Numbered n (lower ++ r ∷ higher) → r.number.0 ≡ n + length lower
numbered_at n [] r higher N = omega arith
numbered_at n (q ∷ lower) r higher N = omega (arith, numbered_at (suc n) lower r higher N.1)

module _ (slots values : List ℕ) (room : ℕ) (lists : Lists) (z : (plain_refusal slots values room lists).number ≡ 0) where
  abbrev buffer : Buffer
  buffer = buffer_of slots room

  abbrev verdict : Verdict
  verdict = first_fault buffer (rows (arrivals slots values) lists)

  -- with no refusal the audit answers the first fault's verdict, or the totals where there is none
  answer : audit_call slots values room lists ≡ cond (eqb verdict.number 0) (reply_with slots values lists) (reply_to verdict)
  unfolding audit_call or_else
  answer = rw z refl

  answer_number : (audit_call slots values room lists).number ≡ verdict.number
  answer_number = ap (λ (reply : Reply). reply.number) answer ∙ eqb_cases verdict.number 0 _ (λ t q. rw t (sym q)) (λ t q. rw t refl)

  answer_place : (verdict.number ≡ 0 → ⊥) → (audit_call slots values room lists).place ≡ verdict.place
  answer_place named = ap (λ (reply : Reply). reply.place) answer ∙ eqb_cases verdict.number 0 _ (λ t q. absurd (named q)) (λ t q. rw t refl)

pub audit_passes : AuditPasses
audit_passes slots values room lists z =
    let number = answer_number slots values room lists z in
    let clear = obeys_iff_clear (buffer_of slots room) (rows (arrivals slots values) lists) in
    (λ h. clear.1 (sym number ∙ h), λ h. number ∙ ap (λ (v : Verdict). v.number) (clear.0 h))

pub audit_names : AuditNames
audit_names slots values room lists z h =
    let B : Buffer = buffer_of slots room in
    let number = answer_number slots values room lists z in
    let named : (first_fault B (rows (arrivals slots values) lists)).number ≡ 0 → ⊥ = λ e. h (number ∙ e) in
    let S = splits B [] (rows (arrivals slots values) lists) named in
    let in_order = subst (Numbered 1) S.in_order (numbered 1 slots values lists.fates lists.whens lists.bys) in
    let F = row_first B (reverse S.lower) S.packet (λ e. named (ap (λ (v : Verdict). v.number) S.verdict ∙ e)) in
    record {
      lower = S.lower;
      packet = S.packet;
      higher = S.higher;
      in_order = S.in_order;
      own_number = omega (arith, numbered_at 1 S.lower S.packet S.higher in_order);
      fault = F.fault;
      number_named = omega (arith, number, ap (λ (v : Verdict). v.number) S.verdict, F.number_is);
      place_named = omega (arith, answer_place slots values room lists z named, ap (λ (v : Verdict). v.place) S.verdict, F.place_is);
      has_it = F.has;
      none_before = λ other h. F.none_before other (omega arith);
      lower_obey = S.lower_obey;
    }
