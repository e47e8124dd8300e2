-- `port::Port::new` meets its contract: the first test that fails is the refusal.
use mathlib.Core.Path.{ap, sym, ◌∙◌}
use Rattle.model.specs.Answers.{port_says}
use Rattle.model.specs.Packets.{nobody}
use Rattle.model.specs.Port.{PortState}
use Rattle.port.proofs.Calls.{making_room, making_beta, making_done}
use Rattle.port.proofs.Port.new.Goals as goal

pub returns-then-not-roomy : goal.returns-then-not-roomy
returns-then-not-roomy c = c.unmade.ensures ∙ making_room c.args.room c.args.beta (sym c.room_ok-roomy.ensures ∙ c.if-not-roomy.true)

pub returns-then-not-beta_ok : goal.returns-then-not-beta_ok
returns-then-not-beta_ok c =
    c.unmade-then-not-beta_ok.ensures
    ∙ making_beta c.args.room c.args.beta (sym c.room_ok-roomy.ensures ∙ c.if-not-roomy.false) (sym c.beta_ok.ensures ∙ c.if-not-beta_ok.true)

pub returns : goal.returns
returns c =
    ap (λ (port : PortState). record { reply = port_says 0 (record { 0 = 0 }) nobody; port = port }) c.empty.ensures
    ∙ making_done c.args.room c.args.beta (sym c.room_ok-roomy.ensures ∙ c.if-not-roomy.false) (sym c.beta_ok.ensures ∙ c.if-not-beta_ok.false)
