use Rattle.std.proofs.Common.{sym, subst}
use Rattle.violations.specs.View.{MayPublish}
use Rattle.violations.specs.CoreSet.{is_in}
use Rattle.bus_states.specs.Views.{view_of}
use Rattle.spec_bus.specs.Cached.{store_view}
use Rattle.spec_bus.specs.Parts.{bus_in}
use Rattle.spec_bus.proofs.Keeping.{published, publishes}
use Rattle.spec_bus.proofs.Placing.{publish_under, published-places, seen-publishes}
use Rattle.spec_bus.proofs.Making.{made}
use Rattle.violations.specs.Calls.{Publish}
use Rattle.spec_bus.proofs.cached.CachedBusEpochStore.publish.Goals as goal

may : (c : goal.After-publish) → MayPublish (view_of (bus_in c.self.inside.parts)) c.args.core
may c =
    let i = c.self.inside in
    publish_under i.size i.apart i.parts c.args.core (subst (λ v. MayPublish (store_view v) c.args.core) (sym c.self.view_is) c.requires.may)

pub invariant_of-self : goal.invariant_of-self
invariant_of-self c =
    let i = c.self.inside in
    let kept = published i.parts c.publish.new.self c.args.core (is_in c.publish.result) c.self.invariant.bus (may c) c.publish.ensures.bus c.publish.ensures.hurt in
    let rule = publishes i.parts c.publish.new.self c.args.core (is_in c.publish.result) c.self.invariant.bus (may c) c.publish.ensures.bus c.publish.ensures.hurt in record {
      bus = kept;
      places = published-places i.size i.apart i.parts c.publish.new.self c.self.invariant.bus c.self.invariant.places c.args.core (is_in c.publish.result) kept rule;
    }

pub returns-clause-publishes : goal.returns-clause-publishes
returns-clause-publishes c =
    let i = c.self.inside in
    let rule = publishes i.parts c.publish.new.self c.args.core (is_in c.publish.result) c.self.invariant.bus (may c) c.publish.ensures.bus c.publish.ensures.hurt in
    rw (← c.self.view_is) (seen-publishes i.size i.apart i.parts c.publish.new.self c.self.invariant.bus c.self.invariant.places c.args.core (is_in c.publish.result) rule)

pub returns-clause-makes : goal.returns-clause-makes
returns-clause-makes c =
    let i = c.self.inside in
    rw (← c.self.view_is) (made i.size i.apart i.parts c.publish.new.self (Publish c.args.core) tt c.publish.ensures.bus)
