use Rattle.std.proofs.Common.{sym, ◌∙◌}
use Rattle.spec_bus.proofs.SameRooms.{fixed, joined, views, waiting}
use Rattle.spec_bus.proofs.cached.CachedBusEpochStore.calls_are_fixed.Goals as goal

pub returns-clause-starts : goal.returns-clause-starts
returns-clause-starts c = λ image cores v w one two. record {
  bus_is = two.bus_is ∙ sym one.bus_is;
  places = record { size = two.size ∙ sym one.size; apart = two.apart ∙ sym one.apart };
}

pub returns-clause-fixed : goal.returns-clause-fixed
returns-clause-fixed c = fixed

pub returns-clause-views : goal.returns-clause-views
returns-clause-views c = views

pub returns-clause-waits : goal.returns-clause-waits
returns-clause-waits c = waiting

pub returns-clause-rooms : goal.returns-clause-rooms
returns-clause-rooms c = joined
