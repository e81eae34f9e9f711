use Rattle.std.proofs.Common.{false, sym, subst}
use Rattle.violations.specs.Calls.{Cancel}
use Rattle.violations.specs.View.{Runs}
use Rattle.bus_states.specs.Views.{view_of}
use Rattle.spec_bus.specs.Cached.{store_view}
use Rattle.spec_bus.specs.Parts.{bus_in}
use Rattle.spec_bus.proofs.Keeping.{cancelled, cancels}
use Rattle.spec_bus.proofs.Making.{made}
use Rattle.spec_bus.proofs.Placing.{ended-places, runs_under, seen-ends}
use Rattle.spec_bus.proofs.cached.CachedBusEpochStore.cancel.Goals as goal

runs : (c : goal.After-cancel) → Runs (view_of (bus_in c.self.inside.parts)) c.args.core false
runs c =
    let i = c.self.inside in
    runs_under i.size i.apart i.parts c.args.core false (subst (λ v. Runs (store_view v) c.args.core false) (sym c.self.view_is) c.requires.runs)

pub invariant_of-self : goal.invariant_of-self
invariant_of-self c =
    let i = c.self.inside in record {
      bus = cancelled i.parts c.cancel.new.self c.args.core c.self.invariant.bus (runs c) c.cancel.ensures;
      places =
          ended-places i.size i.apart i.parts c.cancel.new.self c.self.invariant.bus c.self.invariant.places c.args.core
          (cancels i.parts c.cancel.new.self c.args.core c.self.invariant.bus (runs c) c.cancel.ensures);
    }

pub returns-clause-cancels : goal.returns-clause-cancels
returns-clause-cancels c =
    let i = c.self.inside in
    rw (← c.self.view_is)
    (seen-ends i.size i.apart i.parts c.cancel.new.self c.self.invariant.bus c.self.invariant.places c.args.core
    (cancels i.parts c.cancel.new.self c.args.core c.self.invariant.bus (runs c) c.cancel.ensures))

pub returns-clause-makes : goal.returns-clause-makes
returns-clause-makes c =
    let i = c.self.inside in
    rw (← c.self.view_is) (made i.size i.apart i.parts c.cancel.new.self (Cancel c.args.core) tt c.cancel.ensures)
