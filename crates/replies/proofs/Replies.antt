-- What an answer says, by its case: each case's numbers are those of the definition.
use Prim.Native.Nat.{ℕ}
use mathlib.Core.Path.{◌≡◌, refl, sym, ap, ◌∙◌}
use Rattle.std.proofs.Common.{Result, Ok, Err}
use Rattle.model.specs.declared.PacketNumber.{PacketNumber}
use Rattle.model.specs.declared.Packet.{Packet}
use Rattle.model.specs.declared.Totals.{Totals}
use Rattle.model.specs.declared.Refusal.{Refusal}
use Rattle.model.specs.declared.FirstFault.{FirstFault}
use Rattle.model.specs.declared.AuditError.TheVariants.{Faulty}
use Rattle.model.specs.Packets.{nobody}
use Rattle.model.specs.Numbers.{cause_number, fault_number}
use Rattle.model.specs.Totals.{no_totals}
use Rattle.model.specs.Calls.{reply_to}
use Rattle.model.specs.Answers.{Reply, PortReply, of_audit, port_says, port_refused}

-- what is so of the case is so of the answer
pub by_case : {A B : Type 0} (says : A → B) {answer : A} (case : A) {r : B} → answer ≡ case → r ≡ says case → r ≡ says answer
by_case says case is said = said ∙ ap says (sym is)

pub refused_numbers : (f : Refusal) {n : ℕ} {t : Totals} → n ≡ cause_number f.cause → t ≡ no_totals
    → ◌≡◌ {A = Reply} (record { number = n; place = f.place; totals = t }) (reply_to (record { number = cause_number f.cause; place = f.place }))
refused_numbers f number none = rw (number, none) refl

pub fault_numbers : (f : FirstFault) {n : ℕ} {t : Totals} → n ≡ fault_number f.fault → t ≡ no_totals
    → ◌≡◌ {A = Reply} (record { number = n; place = f.packet.0; totals = t }) (of_audit (Err (Faulty f)))
fault_numbers f number none = rw (number, none) refl

pub live_refused_numbers : (f : Refusal) {n : ℕ} {p : Packet} → n ≡ cause_number f.cause → p ≡ nobody
    → ◌≡◌ {A = PortReply} (record { number = n; place = f.place; given = record { 0 = 0 }; packet = p }) (port_refused (cause_number f.cause) f.place)
live_refused_numbers f number none = rw (number, none) refl

-- what a live call says, of the same numbers
pub same_said : {r : PortReply} {n n' : ℕ} {given : PacketNumber} {p p' : Packet} → r ≡ port_says n given p → n ≡ n' → p ≡ p' → r ≡ port_says n' given p'
same_said says number packet = rw (says, number, packet) refl
