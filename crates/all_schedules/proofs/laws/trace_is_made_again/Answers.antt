use Rattle.all_schedules.proofs.Fixed.{made_again, never_another}
use Rattle.homefree.specs.LockView.{loop_of}
use Rattle.all_schedules.proofs.laws.trace_is_made_again.Goals as goal

pub returns-clause-again : goal.returns-clause-again
returns-clause-again g c = made_again g.S.EpochStore.starts g.S.EpochStore.makes g.S.EpochStore.view g.S.EpochStore.waits c.args.book.now c.look.ensures c.look_back.ensures

pub returns-clause-never : goal.returns-clause-never
returns-clause-never g c = λ place parts.
    never_another g.S.EpochStore.starts g.S.EpochStore.makes g.S.EpochStore.alike g.S.EpochStore.view g.S.EpochStore.waits (loop_of c.args.book.now) c.args.book.now.history c.history_is_fixed.ensures
    (returns-clause-again g c) place parts
