use Rattle.std.proofs.Common.{true≢false, refl, sym, ◌∙◌, arith}
use Rattle.rv32_exec.specs.Execute.{IsAccess}
use Rattle.rv32_exec.proofs.Accesses.{stop_of_effect}
use Rattle.dependences.proofs.Running.{right_load}
use Rattle.dependences.proofs.flow.FlowNotes.load.Goals as goal

pub note_load-requires-clause-within : goal.note_load-requires-clause-within
note_load-requires-clause-within g c =
    let it : IsAccess c.args._image.now c.requires.0 c.args.addr c.args.width = stop_of_effect c.args._image.now c.requires.0 _ c.requires.4.stops in
    let within = it.within in
    let long = c.requires.5.long.writers in omega (arith, within, long)

pub note_load-requires-clause-aligned : goal.note_load-requires-clause-aligned
note_load-requires-clause-aligned g c =
    let it : IsAccess c.args._image.now c.requires.0 c.args.addr c.args.width = stop_of_effect c.args._image.now c.requires.0 _ c.requires.4.stops in it.aligned

pub note_load-requires-clause-wide : goal.note_load-requires-clause-wide
note_load-requires-clause-wide g c =
    let it : IsAccess c.args._image.now c.requires.0 c.args.addr c.args.width = stop_of_effect c.args._image.now c.requires.0 _ c.requires.4.stops in it.wide

pub note_load-requires-clause-step : goal.note_load-requires-clause-step
note_load-requires-clause-step g c =
    let it : IsAccess c.args._image.now c.requires.0 c.args.addr c.args.width = stop_of_effect c.args._image.now c.requires.0 _ c.requires.4.stops in
    let room = it.room in
    let limits = c.requires.5.limits in
    let done = c.requires.4.done_is in omega (arith, room, limits.limit_most, done)

pub note_load-requires-clause-found : goal.note_load-requires-clause-found
note_load-requires-clause-found g c = let kept = c.requires.5.kept c.if-self.false in (kept.found, kept.list, kept.later.least)

pub returns-then-self-clause-right : goal.returns-then-self-clause-right
returns-then-self-clause-right g c h memory signed rd next right =
    right_load g.F.Found.keeps c.args._image.now c.args.self.now _ h memory c.args.pc c.args.done c.args.addr c.args.width signed rd right next refl refl
    (λ room. absurd (true≢false (sym c.if-self.true ∙ room)))

pub returns-clause-fixed : goal.returns-clause-fixed
returns-clause-fixed g c = rw c.note_load.ensures.epoch refl

pub returns-clause-right : goal.returns-clause-right
returns-clause-right g c h memory signed rd next right =
    right_load g.F.Found.keeps c.args._image.now c.args.self.now c.note_load.new.self h memory c.args.pc c.args.done c.args.addr c.args.width signed rd right next
    c.note_load.ensures.epoch c.note_load.ensures.stores c.note_load.ensures.kept
