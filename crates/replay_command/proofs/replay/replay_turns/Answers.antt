use Rattle.std.proofs.Common.{refl, sym, subst, []}
use Rattle.std.proofs.KnownBytes.{Appends-nil}
use Rattle.all_schedules.specs.Made.{the_loop}
use Rattle.replay_command.specs.Told.{IsHead, IsShownMade}
use Rattle.replay_command.proofs.Replays.{shown_comes, told_comes}
use Rattle.replay_command.proofs.replay.replay_turns.Goals as goal

pub show_told-requires-clause-same : goal.show_told-requires-clause-same
show_told-requires-clause-same g c κs within = c.in-Ok.ensures.made.loop

pub returns-in-Ok : goal.returns-in-Ok
returns-in-Ok g c =
    let made = c.in-Ok.ensures.made in
    let old = g.W.Write.contents c.args.writer.now in
    shown_comes g.S.EpochStore.starts g.S.EpochStore.makes g.S.EpochStore.view g.S.EpochStore.waits (IsHead g.S.EpochStore.starts g.S.EpochStore.makes g.S.EpochStore.view g.S.EpochStore.waits g.S.ShownStore.changes c.args.detail) (the_loop c.args.on.now) c.args.schedule.now old (g.W.Write.contents c.show_told.new.writer) c.in-Ok.book.history [] made.result c.show_told.result made.makes
    (subst (λ d. IsHead g.S.EpochStore.starts g.S.EpochStore.makes g.S.EpochStore.view g.S.EpochStore.waits g.S.ShownStore.changes d (the_loop c.args.on.now) c.args.schedule.now c.in-Ok.book.history []) (sym c.in-Whole.is) refl)
    (c.show_told.ensures old [] ([], Appends-nil old, sym c.new.ensures.items))

pub returns-in-Ok-check_turns : goal.returns-in-Ok-check_turns
returns-in-Ok-check_turns g c =
    let made = c.in-Ok-check_turns.ensures.made in
    told_comes g.S.EpochStore.starts g.S.EpochStore.makes g.S.EpochStore.view g.S.EpochStore.waits (IsHead g.S.EpochStore.starts g.S.EpochStore.makes g.S.EpochStore.view g.S.EpochStore.waits g.S.ShownStore.changes c.args.detail) (the_loop c.args.on.now) c.args.schedule.now (g.W.Write.contents c.args.writer.now) (g.W.Write.contents c.tell_turns.new.writer) made.0 made.1 c.tell_turns.result made.2
    (subst (λ d. IsShownMade (IsHead g.S.EpochStore.starts g.S.EpochStore.makes g.S.EpochStore.view g.S.EpochStore.waits g.S.ShownStore.changes d) (the_loop c.args.on.now) c.args.schedule.now made.1 (g.W.Write.contents c.args.writer.now)
    (g.W.Write.contents c.tell_turns.new.writer) c.tell_turns.result) (sym c.in-Steps.is) (c.tell_turns.ensures made.0 made.1 made.2))
