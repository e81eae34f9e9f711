use Rattle.std.proofs.Common.{◌≡◌, ◌-◌, ◌≤◌, ℕ, ap, arith}
use Rattle.rv32_image.specs.Image.{LoadedImage}
use Rattle.rv32_exec.specs.Arrival.{Arrival}
use Rattle.rv32_exec.specs.Hart.{HartState}
use Rattle.rv32_exec.specs.NextEvent.{next_event}
use Rattle.rv32_exec.proofs.LawsOfRuns.{later_event}
use Rattle.even_speed.proofs.Events.{came_from, few_to_event}
use Rattle.even_speed.proofs.run.executed_by.Goals as goal

least : (image : LoadedImage) (hart now : HartState) (a : Arrival) (done before : ℕ) → a.now.done ≡ (next_event image hart).now.done → now ≡ a.now → done ≡ now.done → before ≡ hart.done → before ≤ done
least image hart now a done before came is counted start = omega (arith, later_event image hart, came, ap (λ (h : HartState). h.done) is, counted, start)

most : (image : LoadedImage) (hart now : HartState) (a : Arrival) (done before : ℕ) → image.limit ≤ 1000000 → a.now.done ≡ (next_event image hart).now.done → now ≡ a.now → done ≡ now.done → before ≡ hart.done
    → done - before ≤ 1000001
most image hart now a done before limit came is counted start = omega (arith, few_to_event image hart limit, came, ap (λ (h : HartState). h.done) is, counted, start)

pub overflow_sub-result : goal.overflow_sub-result
overflow_sub-result c =
    let came = came_from c.args.image.now c.args.arrived.now c.in-Some.arrived c.in-Go.hart c.requires.arrived
    c.in-Some.is (c.requires.base c.in-Go.hart c.in-Go.is) in
    least c.args.image.now c.in-Go.hart c.now.result c.in-Some.arrived c.done.result c.done-in-Some.result came c.now.ensures c.done.ensures c.done-in-Some.ensures

pub returns-in-Some-clause-few : goal.returns-in-Some-clause-few
returns-in-Some-clause-few c =
    let came = came_from c.args.image.now c.args.arrived.now c.in-Some.arrived c.in-Go.hart c.requires.arrived
    c.in-Some.is (c.requires.base c.in-Go.hart c.in-Go.is) in
    most c.args.image.now c.in-Go.hart c.now.result c.in-Some.arrived c.done.result c.done-in-Some.result c.size.ensures.limits.limit_most came c.now.ensures c.done.ensures c.done-in-Some.ensures
