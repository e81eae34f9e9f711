use Rattle.std.proofs.Common.{true, sym, subst}
use Rattle.violations.specs.Calls.{Leave}
use Rattle.violations.specs.View.{Runs}
use Rattle.bus_states.specs.Views.{view_of}
use Rattle.spec_bus.specs.Cached.{store_view}
use Rattle.spec_bus.specs.Parts.{bus_in}
use Rattle.spec_bus.proofs.Keeping.{left, leaves}
use Rattle.spec_bus.proofs.Making.{made}
use Rattle.spec_bus.proofs.Placing.{ended-places, runs_under, seen-ends}
use Rattle.spec_bus.proofs.cached.CachedBusEpochStore.leave.Goals as goal

runs : (c : goal.After-leave) → Runs (view_of (bus_in c.self.inside.parts)) c.args.core true
runs c =
    let i = c.self.inside in
    runs_under i.size i.apart i.parts c.args.core true (subst (λ v. Runs (store_view v) c.args.core true) (sym c.self.view_is) c.requires.runs)

pub invariant_of-self : goal.invariant_of-self
invariant_of-self c =
    let i = c.self.inside in record {
      bus = left i.parts c.leave.new.self c.args.core c.self.invariant.bus (runs c) c.leave.ensures;
      places =
          ended-places i.size i.apart i.parts c.leave.new.self c.self.invariant.bus c.self.invariant.places c.args.core
          (leaves i.parts c.leave.new.self c.args.core c.self.invariant.bus (runs c) c.leave.ensures);
    }

pub returns-clause-leaves : goal.returns-clause-leaves
returns-clause-leaves c =
    let i = c.self.inside in
    rw (← c.self.view_is)
    (seen-ends i.size i.apart i.parts c.leave.new.self c.self.invariant.bus c.self.invariant.places c.args.core
    (leaves i.parts c.leave.new.self c.args.core c.self.invariant.bus (runs c) c.leave.ensures))

pub returns-clause-makes : goal.returns-clause-makes
returns-clause-makes c =
    let i = c.self.inside in
    rw (← c.self.view_is) (made i.size i.apart i.parts c.leave.new.self (Leave c.args.core) tt c.leave.ensures)
