use Rattle.std.proofs.Common.{Ok, ap, ◌∙◌, sym, refl}
use Rattle.core_threads.specs.Answered.{cause_for}
use Rattle.core_threads.proofs.Turning.{over_past}
use Rattle.core_threads.proofs.Taking.{over_answer, stopped_answer, takes_answer, takes_fault, failed, stopped_going, stopped_so, going_stopped}
use Rattle.core_threads.proofs.turns.take_turn.Goals as goal

pub returns-in-Ok-clause-takes : goal.returns-in-Ok-clause-takes
returns-in-Ok-clause-takes g c = λ s replays.
    takes_answer g.S.EpochStore.makes g.S.EpochStore.view g.S.EpochStore.waits c.args.book.now c.turn-turned.new.self s c.args.core _ c.args.shares.now c.turn-turned.new.shares c.turn-turned.result (c.turn-turned.ensures.turned s replays)
    c.args.hart.now c.goes_on.new.hart c.goes_on.result c.in-Ok.answer c.in-Ok.is c.goes_on.ensures.after c.goes_on.ensures.hart

pub returns-in-Ok-clause-over : goal.returns-in-Ok-clause-over
returns-in-Ok-clause-over g c = λ is.
    let i = c.look-2.ensures in
    let ended = over_answer _ (sym c.goes_on.ensures.after ∙ is) in
    over_past c.turn-turned.new.self i.state ended.0 i.replays (c.turn-turned.ensures.over ended.0 i.state (c.in-Ok.is ∙ ap Ok ended.1) i.replays)

pub returns-in-Ok-clause-stopped : goal.returns-in-Ok-clause-stopped
returns-in-Ok-clause-stopped g c = λ is.
    let i = c.look.ensures in
    let stopped = stopped_answer _ (sym c.goes_on.ensures.after ∙ is) in
    stopped_going g.S.EpochStore.view g.S.EpochStore.waits c.args.book.now c.turn-turned.new.self i.state c.args.core _ c.args.shares.now c.turn-turned.new.shares c.turn-turned.result stopped.0 i.replays
    (c.turn-turned.ensures.turned i.state i.replays).turned (c.in-Ok.is ∙ ap Ok stopped.1)

pub returns-in-Err-clause-takes : goal.returns-in-Err-clause-takes
returns-in-Err-clause-takes g c = λ s replays.
    let t = c.turn-turned.ensures.turned s replays in
    let f = failed g.S.EpochStore.view g.S.EpochStore.waits c.args.book.now c.turn-turned.new.self s c.args.core _ c.args.shares.now c.turn-turned.new.shares c.turn-turned.result c.in-Err.fault replays t.turned c.in-Err.is in
    takes_fault g.S.EpochStore.makes g.S.EpochStore.view g.S.EpochStore.waits c.args.book.now c.turn-turned.new.self c.stop_for.new.book s c.args.core _ c.args.shares.now c.turn-turned.new.shares c.args.hart.now c.args.hart.now _ c.turn-turned.result c.in-Err.fault t c.in-Err.is
    (stopped_so c.turn-turned.new.self c.stop_for.new.book s (cause_for c.in-Err.fault) f (c.stop_for.ensures.book s f.replays)) refl refl

pub returns-in-Err-clause-stopped : goal.returns-in-Err-clause-stopped
returns-in-Err-clause-stopped g c = λ is.
    let i = c.look.ensures in
    let t = c.turn-turned.ensures.turned i.state i.replays in
    let f = failed g.S.EpochStore.view g.S.EpochStore.waits c.args.book.now c.turn-turned.new.self i.state c.args.core _ c.args.shares.now c.turn-turned.new.shares c.turn-turned.result c.in-Err.fault i.replays t.turned c.in-Err.is in
    going_stopped c.turn-turned.new.self c.stop_for.new.book i.state (cause_for c.in-Err.fault) f
    (stopped_so c.turn-turned.new.self c.stop_for.new.book i.state (cause_for c.in-Err.fault) f (c.stop_for.ensures.book i.state f.replays))
