use Rattle.std.proofs.Common.{ℕ, map, sym, subst}
use Rattle.violations.specs.View.{never_waits}
use Rattle.violations.specs.Plain as plain
use Rattle.spec_bus.specs.Cached as caches
use Rattle.spec_bus.specs.Laws as cache
use Rattle.turn_costs.specs.Prices.{bus_prices, no_prices}
use Rattle.turn_steps.specs.Caches.{cached_changes}
use Rattle.turn_steps.specs.KeptCores.{plain_changes}
use Rattle.run_command.proofs.Outcomes.{for_text}
use Rattle.trace_commands.specs.declared.store.Store.{Store}
use Rattle.trace_commands.specs.declared.store.Store.TheVariants.{Caches, Plain}
use Rattle.trace_commands.specs.Program.{Stream}
use Rattle.replay_command.specs.Addresses.{addresses_of}
use Rattle.replay_command.specs.Work.{StoreAnswers, TurnsAnswer, WorkAnswers, settings_of}
use Rattle.replay_command.proofs.Works.{refused_answers, request_answers}
use Rattle.replay_command.proofs.commands.work.Goals as goal

pub returns-in-Caches : goal.returns-in-Caches
returns-in-Caches g c =
    let words = map g.S.AsStr.text c.args.called.words.now in
    let request = c.in-Some.request in
    let input : Stream = record { old = g.R.Read.remaining c.args.reader.now; new = g.R.Read.remaining c.answer.new.reader } in
    let output : Stream = record { old = g.W.Write.contents c.args.writer.now; new = g.W.Write.contents c.answer.new.writer } in
    let errors : Stream = record { old = g.E.Write.contents c.args.errors.now; new = g.E.Write.contents c.answer.new.errors } in
    for_text (g.R.Read.remaining c.args.reader.now)
    (λ text. TurnsAnswer cache.Starts cache.Makes caches.store_view caches.waits bus_prices (λ v. (k : ℕ) → cache.IsPlacedCore v.cores k) cached_changes (addresses_of (map g.S.AsStr.text c.in-Some.waits.now)) (settings_of (Caches c.in-Caches.machine) c.args.called.room) request.turns text input output errors c.answer.result)
    (λ text. WorkAnswers words c.args.called.room text input output errors c.answer.result)
    (λ text so. request_answers words request (addresses_of (map g.S.AsStr.text c.in-Some.waits.now)) c.args.called.room text input output errors c.answer.result c.in-Some.ensures.asked
    (subst (λ (s : Store). StoreAnswers s (addresses_of (map g.S.AsStr.text c.in-Some.waits.now)) c.args.called.room request.turns text input output errors c.answer.result) (sym c.in-Caches.is) so)) c.answer.ensures

pub returns-in-Plain : goal.returns-in-Plain
returns-in-Plain g c =
    let words = map g.S.AsStr.text c.args.called.words.now in
    let request = c.in-Some.request in
    let input : Stream = record { old = g.R.Read.remaining c.args.reader.now; new = g.R.Read.remaining c.answer-in-Plain.new.reader } in
    let output : Stream = record { old = g.W.Write.contents c.args.writer.now; new = g.W.Write.contents c.answer-in-Plain.new.writer } in
    let errors : Stream = record { old = g.E.Write.contents c.args.errors.now; new = g.E.Write.contents c.answer-in-Plain.new.errors } in
    for_text (g.R.Read.remaining c.args.reader.now)
    (λ text. TurnsAnswer plain.Starts plain.Makes plain.store_view (λ _. never_waits) (λ _. no_prices) (λ _. Unit {0}) plain_changes (addresses_of (map g.S.AsStr.text c.in-Some.waits.now)) (settings_of Plain c.args.called.room) request.turns text input output errors c.answer-in-Plain.result)
    (λ text. WorkAnswers words c.args.called.room text input output errors c.answer-in-Plain.result)
    (λ text so. request_answers words request (addresses_of (map g.S.AsStr.text c.in-Some.waits.now)) c.args.called.room text input output errors c.answer-in-Plain.result c.in-Some.ensures.asked
    (subst (λ (s : Store). StoreAnswers s (addresses_of (map g.S.AsStr.text c.in-Some.waits.now)) c.args.called.room request.turns text input output errors c.answer-in-Plain.result) (sym c.in-Plain.is) so)) c.answer-in-Plain.ensures

pub returns-in-None : goal.returns-in-None
returns-in-None g c =
    refused_answers (map g.S.AsStr.text c.args.called.words.now) c.args.called.room (g.R.Read.remaining c.args.reader.now) (g.W.Write.contents c.args.writer.now)
    (record { old = g.E.Write.contents c.args.errors.now; new = g.E.Write.contents c.conclude.new.errors })
    c.conclude.result c.in-None.ensures.none c.conclude.ensures.status c.conclude.ensures.line
