use Rattle.std.proofs.Common.{ℕ, ◌+◌, map, sym, subst}
use Rattle.rv32_image.specs.ImageText.{longest_image_text}
use Rattle.rv32_image.specs.Input.{TakesAtMost}
use Rattle.rv32_image.specs.Reading.{ForText}
use Rattle.homefree.specs.Missed.{IsOfCaches}
use Rattle.trace_text.specs.TraceText.{longest_trace_text}
use Rattle.trace_commands.specs.Outcome.{Conclusion}
use Rattle.run_command.specs.Threads.{IsThreadsOutcome}
use Rattle.replay_command.specs.declared.words.Turns.{Turns}
use Rattle.replay_command.specs.Addresses.{addresses_of}
use Rattle.replay_command.specs.AllSchedules.{AllAnswers}
use Rattle.replay_command.specs.Paced.{IsPacedOutcome}
use Rattle.replay_command.specs.Replay.{IsReplayOutcome}
use Rattle.trace_commands.specs.Program.{Stream}
use Rattle.replay_command.specs.Told.{IsHead}
use Rattle.replay_command.specs.Work.{TurnsAnswer, options_of}
use Rattle.replay_command.proofs.Works.{for_both}
use Rattle.replay_command.proofs.commands.answer.Goals as goal

pub returns-in-Every : goal.returns-in-Every
returns-in-Every g c =
    let starts = g.S.EpochStore.starts in
    let makes = g.S.EpochStore.makes in
    let view = g.S.EpochStore.view in
    let waits = g.S.EpochStore.waits in
    let cores = c.in-Every.cores in
    let input : Stream = record { old = g.R.Read.remaining c.args.reader.now; new = g.R.Read.remaining c.do_all.new.reader } in
    let output : Stream = record { old = g.W.Write.contents c.args.writer.now; new = g.W.Write.contents c.do_all.new.writer } in
    let errors : Stream = record { old = g.E.Write.contents c.args.errors.now; new = g.E.Write.contents c.do_all.new.errors } in
    subst (λ (turns : Turns). ForText input.old (λ text. TurnsAnswer starts makes view waits g.S.PricedStore.prices g.S.PricedStore.keeps g.S.ShownStore.changes (addresses_of (map g.A.AsStr.text c.args.asked.now.waits.now)) c.args.asked.now.settings turns text input output errors c.do_all.result)) (sym c.in-Every.is)
    (for_both input.old (λ text. AllAnswers starts makes view waits cores c.args.asked.now.settings c.in-Every.turns text output errors c.do_all.result)
    (TakesAtMost input.old input.new (longest_image_text + 1)) c.do_all.ensures.outcome c.do_all.ensures.taken)

pub returns-in-Given : goal.returns-in-Given
returns-in-Given g c =
    let starts = g.S.EpochStore.starts in
    let makes = g.S.EpochStore.makes in
    let view = g.S.EpochStore.view in
    let waits = g.S.EpochStore.waits in
    let cores = c.in-Given.cores in
    let input : Stream = record { old = g.R.Read.remaining c.args.reader.now; new = g.R.Read.remaining c.do_replay.new.reader } in
    let output : Stream = record { old = g.W.Write.contents c.args.writer.now; new = g.W.Write.contents c.do_replay.new.writer } in
    let errors : Stream = record { old = g.E.Write.contents c.args.errors.now; new = g.E.Write.contents c.do_replay.new.errors } in
    subst (λ (turns : Turns). ForText input.old (λ text. TurnsAnswer starts makes view waits g.S.PricedStore.prices g.S.PricedStore.keeps g.S.ShownStore.changes (addresses_of (map g.A.AsStr.text c.args.asked.now.waits.now)) c.args.asked.now.settings turns text input output errors c.do_replay.result)) (sym c.in-Given.is)
    (for_both input.old (λ text. Conclusion (IsReplayOutcome starts makes view waits (IsHead starts makes view waits g.S.ShownStore.changes c.in-Given.detail) cores c.args.asked.now.settings text output.old output.new) errors.old errors.new c.do_replay.result)
    (TakesAtMost input.old input.new (longest_trace_text + 1)) c.do_replay.ensures.outcome c.do_replay.ensures.taken)

pub returns-in-Paced : goal.returns-in-Paced
returns-in-Paced g c =
    let starts = g.S.EpochStore.starts in
    let makes = g.S.EpochStore.makes in
    let view = g.S.EpochStore.view in
    let waits = g.S.EpochStore.waits in
    let cores = c.in-Paced.cores in
    let input : Stream = record { old = g.R.Read.remaining c.args.reader.now; new = g.R.Read.remaining c.pace_waiting.new.reader } in
    let output : Stream = record { old = g.W.Write.contents c.args.writer.now; new = g.W.Write.contents c.pace_waiting.new.writer } in
    let errors : Stream = record { old = g.E.Write.contents c.args.errors.now; new = g.E.Write.contents c.pace_waiting.new.errors } in
    subst (λ (turns : Turns). ForText input.old (λ text. TurnsAnswer starts makes view waits g.S.PricedStore.prices g.S.PricedStore.keeps g.S.ShownStore.changes (addresses_of (map g.A.AsStr.text c.args.asked.now.waits.now)) c.args.asked.now.settings turns text input output errors c.pace_waiting.result)) (sym c.in-Paced.is)
    (for_both input.old (λ text. Conclusion (IsPacedOutcome starts makes view waits g.S.PricedStore.prices g.S.PricedStore.keeps (addresses_of (map g.A.AsStr.text c.args.asked.now.waits.now)) c.in-Paced.pace cores c.args.asked.now.settings text output.old output.new) errors.old errors.new c.pace_waiting.result)
    (TakesAtMost input.old input.new (longest_image_text + 1)) c.pace_waiting.ensures.outcome c.pace_waiting.ensures.taken)

pub returns-in-Threaded : goal.returns-in-Threaded
returns-in-Threaded g c =
    let starts = g.S.EpochStore.starts in
    let makes = g.S.EpochStore.makes in
    let view = g.S.EpochStore.view in
    let waits = g.S.EpochStore.waits in
    let options = options_of c.args.asked.now.settings c.in-Threaded.cores in
    let input : Stream = record { old = g.R.Read.remaining c.args.reader.now; new = g.R.Read.remaining c.do_threads.new.reader } in
    let output : Stream = record { old = g.W.Write.contents c.args.writer.now; new = g.W.Write.contents c.do_threads.new.writer } in
    let errors : Stream = record { old = g.E.Write.contents c.args.errors.now; new = g.E.Write.contents c.do_threads.new.errors } in
    subst (λ (turns : Turns). ForText input.old (λ text. TurnsAnswer starts makes view waits g.S.PricedStore.prices g.S.PricedStore.keeps g.S.ShownStore.changes (addresses_of (map g.A.AsStr.text c.args.asked.now.waits.now)) c.args.asked.now.settings turns text input output errors c.do_threads.result)) (sym c.in-Threaded.is)
    (for_both input.old (λ text. Conclusion (IsThreadsOutcome (IsOfCaches view) c.args.asked.now.settings.asked options text output.old output.new) errors.old errors.new c.do_threads.result)
    (TakesAtMost input.old input.new (longest_image_text + 1))
    (subst (λ (n : ℕ). ForText input.old (λ text. Conclusion (IsThreadsOutcome (IsOfCaches view) c.args.asked.now.settings.asked (record options { room = n }) text output.old output.new) errors.old errors.new c.do_threads.result))
    c.entries.ensures.value
    (subst (λ (n : ℕ). ForText input.old (λ text. Conclusion (IsThreadsOutcome (IsOfCaches view) c.args.asked.now.settings.asked (record options { cores = n; room = c.entries.result }) text output.old output.new) errors.old errors.new c.do_threads.result))
    c.count.ensures.value c.do_threads.ensures.outcome)) c.do_threads.ensures.taken)
