use Rattle.std.proofs.Common.{refl, arith}
use Rattle.rv32_exec.specs.Execute.{IsStore}
use Rattle.rv32_exec.proofs.Accesses.{stop_of_effect}
use Rattle.dependences.proofs.Running.{right_store}
use Rattle.dependences.proofs.flow.FlowNotes.store.Goals as goal

pub overflow_cast-done : goal.overflow_cast-done
overflow_cast-done g c =
    let it : IsStore c.args._image.now c.requires.0 c.args.addr c.args.width c.requires.2 = stop_of_effect c.args._image.now c.requires.0 _ c.requires.3.stops in
    let room = it.access.room in
    let limits = c.requires.4.limits in
    let done = c.requires.3.done_is in omega (arith, room, limits.limit_most, done)

pub mark-requires-clause-aligned : goal.mark-requires-clause-aligned
mark-requires-clause-aligned g c =
    let it : IsStore c.args._image.now c.requires.0 c.args.addr c.args.width c.requires.2 = stop_of_effect c.args._image.now c.requires.0 _ c.requires.3.stops in it.access.aligned

pub mark-requires-clause-within : goal.mark-requires-clause-within
mark-requires-clause-within g c =
    let it : IsStore c.args._image.now c.requires.0 c.args.addr c.args.width c.requires.2 = stop_of_effect c.args._image.now c.requires.0 _ c.requires.3.stops in
    let within = it.access.within in
    let long = c.requires.4.long.writers in omega (arith, within, long)

pub returns-clause-right : goal.returns-clause-right
returns-clause-right g c h memory value next right =
    right_store g.F.Found.keeps c.args._image.now c.args.self.now _ h memory c.args.pc c.args.done c.args.addr c.args.width value right next refl refl refl refl refl c.mark.ensures
