use Rattle.std.proofs.Common.{◌∙◌, ap, sym}
use Rattle.spec_states.specs.States.{is_valid}
use Rattle.violations.specs.CoreSet.{is_in}
use Rattle.spec_bus.specs.Parts.{bus_in}
use Rattle.spec_bus.proofs.Answering.{loaded_miss}
use Rattle.spec_bus.proofs.parts.Parts.load.Goals as goal

pub returns : goal.returns
returns c =
    loaded_miss c.args.self.now (bus_in c.load_miss.new.self) c.args.core c.args.addr c.args.offset c.args.width c.in-Some.way c.core.result.now c.load_miss.result (is_in c.survey-survey.result.hurt)
    c.core.ensures.is (sym c.victim.ensures.value ∙ c.in-Some.is)
    (ap is_valid (sym c.copy.ensures.state) ∙ sym c.is_valid.ensures ∙ c.if-is_valid.false)
    (sym c.survey-survey.ensures.busy ∙ c.if-survey.false)
    c.load_miss.ensures.bus c.load_miss.ensures.value c.load_miss.ensures.small c.survey-survey.ensures.hurt
