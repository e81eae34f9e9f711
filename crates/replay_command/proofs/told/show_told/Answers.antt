use Rattle.std.proofs.Common.{◌++◌, inr, subst, ap, ◌∙◌}
use Rattle.std.specs.Io.KnownBytes.{Appends}
use Rattle.trace_commands.specs.Outcome.{AppendsPrefix}
use Rattle.turn_steps.proofs.Written.{first_but}
use Rattle.replay_command.proofs.Coming.{shows_all, shows_first, shows_some}
use Rattle.replay_command.proofs.told.show_told.Goals as goal

pub returns-in_default : goal.returns-in_default
returns-in_default g c = λ first head so.
    inr (first_but c.args.rest.items head c.args.whole first (g.W.Write.contents c.args.writer.now) so)

pub returns-in_default-extend_from_slice : goal.returns-in_default-extend_from_slice
returns-in_default-extend_from_slice g c = λ first head so.
    inr (first_but c.args.rest.items head c.args.whole first (g.W.Write.contents c.args.writer.now) so)

pub returns-then-not-whole : goal.returns-then-not-whole
returns-then-not-whole g c = λ first head so.
    shows_first c.args.on.now.image.now c.args.on.now.cores c.args.book.now.history head c.in-Ok.below.items first first (g.W.Write.contents c.args.writer.now) c.in-Ok.outcome c.in-Ok.ensures c.args.rest.items c.args.whole so

pub returns-then-write_whole : goal.returns-then-write_whole
returns-then-write_whole g c = λ first head so.
    let written = c.as_slice-2.ensures.value ∙ (c.in-Ok-extend_from_slice.ensures.items ∙ ap (λ b. c.args.rest.items ++ b) c.as_slice.ensures.value) in
    shows_all c.args.on.now.image.now c.args.on.now.cores c.args.book.now.history head c.in-Ok.below.items first (g.W.Write.contents c.args.writer.now) (g.W.Write.contents c.write_whole.new.writer)
    c.in-Ok.outcome c.in-Ok.ensures c.args.rest.items c.args.whole c.if-not-whole.false so
    (subst (Appends (g.W.Write.contents c.args.writer.now) (g.W.Write.contents c.write_whole.new.writer)) written c.if-write_whole.ensures.whole)

pub returns : goal.returns
returns g c = λ first head so.
    let written = c.as_slice-2.ensures.value ∙ (c.in-Ok-extend_from_slice.ensures.items ∙ ap (λ b. c.args.rest.items ++ b) c.as_slice.ensures.value) in
    shows_some c.args.on.now.image.now c.args.on.now.cores c.args.book.now.history head c.in-Ok.below.items first (g.W.Write.contents c.args.writer.now) (g.W.Write.contents c.write_whole.new.writer)
    c.in-Ok.outcome c.in-Ok.ensures c.args.rest.items c.args.whole c.if-not-whole.false so
    (subst (AppendsPrefix (g.W.Write.contents c.args.writer.now) (g.W.Write.contents c.write_whole.new.writer)) written c.if-write_whole.ensures.prefix)
