use Rattle.std.proofs.Common.{sym, subst}
use Rattle.violations.specs.Calls.{Begin}
use Rattle.violations.specs.View.{MayBegin}
use Rattle.bus_states.specs.Views.{view_of}
use Rattle.spec_bus.specs.Cached.{store_view}
use Rattle.spec_bus.specs.Parts.{bus_in}
use Rattle.spec_bus.proofs.Keeping.{begun, begins}
use Rattle.spec_bus.proofs.Making.{made}
use Rattle.spec_bus.proofs.Placing.{begin_under, begun-places, seen-begins}
use Rattle.spec_bus.proofs.cached.CachedBusEpochStore.begin.Goals as goal

may : (c : goal.After-begin) → MayBegin (view_of (bus_in c.self.inside.parts)) c.args.core c.args.epoch
may c =
    let i = c.self.inside in
    begin_under i.size i.apart i.parts c.args.core c.args.epoch (subst (λ v. MayBegin (store_view v) c.args.core c.args.epoch) (sym c.self.view_is) c.requires.may)

pub invariant_of-self : goal.invariant_of-self
invariant_of-self c =
    let i = c.self.inside in record {
      bus = begun i.parts c.begin.new.self c.args.core c.args.epoch c.self.invariant.bus (may c) c.begin.ensures;
      places =
          begun-places i.size i.apart i.parts c.begin.new.self c.self.invariant.bus c.self.invariant.places c.args.core c.args.epoch
          (begins i.parts c.begin.new.self c.args.core c.args.epoch c.self.invariant.bus (may c) c.begin.ensures);
    }

pub returns-clause-begins : goal.returns-clause-begins
returns-clause-begins c =
    let i = c.self.inside in
    rw (← c.self.view_is)
    (seen-begins i.size i.apart i.parts c.begin.new.self c.self.invariant.bus c.self.invariant.places c.args.core c.args.epoch
    (begins i.parts c.begin.new.self c.args.core c.args.epoch c.self.invariant.bus (may c) c.begin.ensures))

pub returns-clause-makes : goal.returns-clause-makes
returns-clause-makes c =
    let i = c.self.inside in
    rw (← c.self.view_is) (made i.size i.apart i.parts c.begin.new.self (Begin c.args.core c.args.epoch) tt c.begin.ensures)
