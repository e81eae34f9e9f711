use Rattle.std.proofs.Common.{◌∙◌, Bool, ap, sym, subst}
use Rattle.spec_bus.specs.Cached.{bus, line_of, room}
use Rattle.turn_costs.specs.Accesses.{hit_of}
use Rattle.turn_costs.specs.Actions.{AreFew}
use Rattle.turn_costs.proofs.Pricing.{few_hit, few_miss, store_held, store_missed}
use Rattle.turn_costs.proofs.bus.CachedBusPricedStore.store_actions.Goals as goal

pub returns-then-is_valid-clause-value : goal.returns-then-is_valid-clause-value
returns-then-is_valid-clause-value c =
    let line = line_of c.args.self.now c.args.addr in
    c.hit_of.ensures
    ∙ (ap (λ (tells : Bool). hit_of (bus c.args.self.now) c.args.straight tells c.args.core line) c.store_tells-tells.ensures
    ∙ store_held (bus c.args.self.now) c.args.straight c.args.core line (room c.args.self.now c.args.core line) c.line_at.result.state c.is_valid.result
    c.line_at.ensures.state c.is_valid.ensures c.if-is_valid.true)

pub returns-else-is_valid-clause-value : goal.returns-else-is_valid-clause-value
returns-else-is_valid-clause-value c =
    let line = line_of c.args.self.now c.args.addr in
    c.miss_of.ensures
    ∙ store_missed (bus c.args.self.now) c.args.straight c.args.core line (room c.args.self.now c.args.core line) c.line_at.result.state c.is_valid.result
    c.line_at.ensures.state c.is_valid.ensures c.if-is_valid.false

pub returns-then-is_valid-clause-few : goal.returns-then-is_valid-clause-few
returns-then-is_valid-clause-few c =
    subst (λ a. AreFew a) (sym c.hit_of.ensures) (few_hit (bus c.args.self.now) c.args.straight c.store_tells-tells.result c.args.core (line_of c.args.self.now c.args.addr))

pub returns-else-is_valid-clause-few : goal.returns-else-is_valid-clause-few
returns-else-is_valid-clause-few c =
    let line = line_of c.args.self.now c.args.addr in
    subst (λ a. AreFew a) (sym c.miss_of.ensures) (few_miss (bus c.args.self.now) c.args.core line (room c.args.self.now c.args.core line))
