use Rattle.std.proofs.Common.{refl, sym, ap, ◌∙◌}
use Rattle.rv32_exec.specs.NextEvent.{Event}
use Rattle.rv32_exec.proofs.Accesses.{stop_of_effect}
use Rattle.rv32_exec.proofs.Arrivals.{room_of_stop}
use Rattle.rv32_exec.proofs.Runs.{next_event-stops}
use Rattle.rv32_exec.proofs.arrived.run_on.Goals as goal

pub returns-clause-room : goal.returns-clause-room
returns-clause-room c =
    room_of_stop c.args.image.now c.run.new.self c.run.new.at c.run.ensures.limit (stop_of_effect c.args.image.now c.run.new.self c.run.new.at c.run.ensures.stop)

pub returns-clause-now : goal.returns-clause-now
returns-clause-now c =
    let here = next_event-stops c.args.image.now c.run.new.self c.run.new.at c.run.ensures.stop in
    ap (λ (e : Event). e.now) (sym here ∙ c.run.ensures.leads.event refl)

pub returns-clause-at : goal.returns-clause-at
returns-clause-at c =
    let here = next_event-stops c.args.image.now c.run.new.self c.run.new.at c.run.ensures.stop in
    ap (λ (e : Event). e.at) (sym here ∙ c.run.ensures.leads.event refl)

pub returns-clause-stop : goal.returns-clause-stop
returns-clause-stop c = stop_of_effect c.args.image.now c.run.new.self c.run.new.at c.run.ensures.stop
