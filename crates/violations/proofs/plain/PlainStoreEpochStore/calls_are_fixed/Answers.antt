use Rattle.violations.proofs.Fixed.{fixed, joined, started, views, waiting}
use Rattle.violations.proofs.plain.PlainStoreEpochStore.calls_are_fixed.Goals as goal

pub returns-clause-starts : goal.returns-clause-starts
returns-clause-starts c = started

pub returns-clause-fixed : goal.returns-clause-fixed
returns-clause-fixed c = fixed

pub returns-clause-views : goal.returns-clause-views
returns-clause-views c = views

pub returns-clause-waits : goal.returns-clause-waits
returns-clause-waits c = waiting

pub returns-clause-rooms : goal.returns-clause-rooms
returns-clause-rooms c = joined
