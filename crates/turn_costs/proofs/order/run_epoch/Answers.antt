use Rattle.std.proofs.Common.{◌≡◌, ◌≤◌, ◌+◌, ◌*◌, ◌<◌, ℕ, ap, subst, ◌∙◌, arith}
use Rattle.rv32_image.specs.Image.{LoadedImage}
use Rattle.rv32_exec.specs.Hart.{HartState}
use Rattle.rv32_exec.specs.NextEvent.{next_event}
use Rattle.turn_costs.specs.Order.{kind_of, Goes}
use Rattle.turn_costs.proofs.Events.{done_at_event}
use Rattle.turn_costs.proofs.Ordering.{so_far_more}
use Rattle.turn_costs.proofs.order.run_epoch.Goals as goal

few_steps : (image : LoadedImage) (h now : HartState) (done memory : ℕ) → image.limit ≤ 1000000 → h.done ≤ image.limit → memory ≤ 2000000 * h.done
    → now ≡ (next_event image h).now → done ≡ now.done → done + memory ≤ 2000001000001
few_steps image h now done memory limit within few is counted =
    let most = done_at_event image h within in
    let same = counted ∙ ap (λ (g : HartState). g.done) is in omega (arith, most, same)

pub accesses-preserved : goal.accesses-preserved
accesses-preserved g c =
    let kind = kind_of g.S.EpochStore.makes g.S.EpochStore.view g.S.PricedStore.prices in
    let image = c.args.image.now in
    let gone = c.in-Some.gone in
    let goes : Goes kind image c.args.costs.now c.accesses.hart c.accesses.store gone.steps gone.hart c.go_on.new.store =
    subst (λ (h : HartState). Goes kind image c.args.costs.now h c.accesses.store gone.steps gone.hart c.go_on.new.store) c.advance-arrived.ensures.base
    (rw c.in-Some.is at c.in_ok-gone.ensures.gone) in
    let few : gone.steps ≤ 2000000 = rw c.in-Some.is at c.in_ok-gone.ensures.few in
    let later : (c.advance-arrived.result.now.done < image.limit) × (gone.hart.done ≡ c.advance-arrived.result.now.done + 1) = rw c.in-Some.is at c.in_ok-gone.ensures.later in
    let before = c.advance-arrived.ensures.later in
    so_far_more kind image c.args.costs.now c.args.epoch c.begin_straight.new.store c.accesses.memory c.accesses.hart c.accesses.store c.accesses.invariant
    gone.steps gone.hart c.go_on.new.store goes (c.go_on.ensures.shape ∙ c.accesses.invariant.shape) c.go_on.ensures.runs (omega (arith, later.0, later.1)) few
    (omega (arith, before, later.1))

pub overflow_add-result : goal.overflow_add-result
overflow_add-result g c =
    let few = few_steps c.args.image.now c.accesses.hart c.now-now.result c.done.result c.accesses.memory c.requires.image.limit_most c.accesses.invariant.within
    c.accesses.invariant.few (c.now-now.ensures ∙ c.advance-arrived.ensures.now) c.done.ensures in
    omega (arith, few)

pub returns-then-matches-clause-few : goal.returns-then-matches-clause-few
returns-then-matches-clause-few g c =
    few_steps c.args.image.now c.accesses.hart c.now-now.result c.done.result c.accesses.memory c.requires.image.limit_most c.accesses.invariant.within
    c.accesses.invariant.few (c.now-now.ensures ∙ c.advance-arrived.ensures.now) c.done.ensures

pub returns-else-matches-clause-few : goal.returns-else-matches-clause-few
returns-else-matches-clause-few g c =
    few_steps c.args.image.now c.accesses.hart c.now-now.result c.done.result c.accesses.memory c.requires.image.limit_most c.accesses.invariant.within
    c.accesses.invariant.few (c.now-now.ensures ∙ c.advance-arrived.ensures.now) c.done.ensures
