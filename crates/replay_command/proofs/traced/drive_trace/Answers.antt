use Rattle.std.proofs.Common.{◌<◌, All, Ok, [], refl, sym, subst, ◌∙◌}
use Rattle.std.proofs.KnownBytes.{Appends-nil}
use Rattle.replay_command.specs.declared.detail.Detail.TheVariants.{Steps}
use Rattle.all_schedules.specs.Made.{Makes, the_loop}
use Rattle.replay_command.specs.Told.{IsHead, IsShownMade}
use Rattle.homefree.specs.Retraced.{turns_of}
use Rattle.replay_command.proofs.Replays.{told_trace_comes, whole_comes}
use Rattle.replay_command.proofs.Retraces.{are_turns}
use Rattle.replay_command.proofs.traced.drive_trace.Goals as goal

pub make_again-requires-clause-schedule : goal.make_again-requires-clause-schedule
make_again-requires-clause-schedule g c κs within = (subst (λ s. All (λ k. k < c.args.on.now.cores) s) (sym (c.as_slice-turns.ensures.value ∙ c.in-Ok.ensures)) (are_turns c.args.on.now.cores c.args.entries.now))

pub check_trace-requires-clause-schedule : goal.check_trace-requires-clause-schedule
check_trace-requires-clause-schedule g c κs within = (subst (λ s. All (λ k. k < c.args.on.now.cores) s) (sym (c.as_slice-turns.ensures.value ∙ c.in-Ok.ensures)) (are_turns c.args.on.now.cores c.args.entries.now))

pub tell_turns-requires-clause-schedule : goal.tell_turns-requires-clause-schedule
tell_turns-requires-clause-schedule g c κs within = (subst (λ s. All (λ k. k < c.args.on.now.cores) s) (sym (c.as_slice-turns.ensures.value ∙ c.in-Ok.ensures)) (are_turns c.args.on.now.cores c.args.entries.now))

pub returns-in-Ok-make_again : goal.returns-in-Ok-make_again
returns-in-Ok-make_again g c =
    let l = the_loop c.args.on.now in
    let turns = c.as_slice-turns.ensures.value ∙ c.in-Ok.ensures in
    let made = c.in-Ok-make_again.ensures.made in
    let old = g.W.Write.contents c.args.writer.now in
    whole_comes g.S.EpochStore.starts g.S.EpochStore.makes g.S.EpochStore.view g.S.EpochStore.waits (IsHead g.S.EpochStore.starts g.S.EpochStore.makes g.S.EpochStore.view g.S.EpochStore.waits g.S.ShownStore.changes c.args.detail) l c.args.entries.now old (g.W.Write.contents c.show_told.new.writer) c.in-Ok-make_again.book.history [] made.result c.show_told.result
    (subst (λ s. Makes g.S.EpochStore.starts g.S.EpochStore.makes g.S.EpochStore.view g.S.EpochStore.waits l s (Ok made.result) c.in-Ok-make_again.book.history) turns made.makes)
    (subst (λ d. IsHead g.S.EpochStore.starts g.S.EpochStore.makes g.S.EpochStore.view g.S.EpochStore.waits g.S.ShownStore.changes d l (turns_of c.args.on.now.cores c.args.entries.now) c.in-Ok-make_again.book.history []) (sym c.in-Whole.is) refl)
    c.in-Ok-make_again.ensures.same (c.show_told.ensures old [] ([], Appends-nil old, sym c.new.ensures.items))

pub returns-in-Ok-check_trace : goal.returns-in-Ok-check_trace
returns-in-Ok-check_trace g c =
    let l = the_loop c.args.on.now in
    let turns = c.as_slice-turns.ensures.value ∙ c.in-Ok.ensures in
    let made = c.in-Ok-check_trace.ensures.made in
    let old = g.W.Write.contents c.args.writer.now in
    let new = g.W.Write.contents c.tell_turns.new.writer in
    told_trace_comes g.S.EpochStore.starts g.S.EpochStore.makes g.S.EpochStore.view g.S.EpochStore.waits (IsHead g.S.EpochStore.starts g.S.EpochStore.makes g.S.EpochStore.view g.S.EpochStore.waits g.S.ShownStore.changes c.args.detail) l c.args.entries.now old new made.0 c.tell_turns.result
    (subst (λ s. Makes g.S.EpochStore.starts g.S.EpochStore.makes g.S.EpochStore.view g.S.EpochStore.waits l s (Ok made.0) c.args.entries.now) turns made.1)
    (subst (λ d. IsShownMade (IsHead g.S.EpochStore.starts g.S.EpochStore.makes g.S.EpochStore.view g.S.EpochStore.waits g.S.ShownStore.changes d) l (turns_of c.args.on.now.cores c.args.entries.now) c.args.entries.now old new c.tell_turns.result) (sym c.in-Steps.is)
    (subst (λ s. IsShownMade (IsHead g.S.EpochStore.starts g.S.EpochStore.makes g.S.EpochStore.view g.S.EpochStore.waits g.S.ShownStore.changes Steps) l s c.args.entries.now old new c.tell_turns.result) turns (c.tell_turns.ensures made.0 c.args.entries.now made.1)))
