use Rattle.std.proofs.Common.{◌≡◌, ◌++◌, Ok, ap, refl, ◌∙◌}
use Rattle.homefree.specs.Driven.{held_after}
use Rattle.homefree.specs.Held.{harts_of}
use Rattle.homefree.proofs.SmallFacts.{held_here}
use Rattle.turn_steps.specs.Stepped.{turn_text}
use Rattle.turn_steps.specs.Telling.{IsBefore}
use Rattle.turn_steps.proofs.Followed.{follows}
use Rattle.turn_steps.proofs.stepping.step_shown.Goals as goal

pub returns-in-Ok-clause-told : goal.returns-in-Ok-clause-told
returns-in-Ok-clause-told g c =
    let view = g.S.EpochStore.view in
    let changes = g.S.ShownStore.changes in
    let old = c.args.book.now in
    let new = c.step.new.book in
    let core = c.args.place.core in
    let grows = c.step.ensures.grows in
    let hart = harts_of c.args.held.now core in
    let after = held_after c.in_ok-answer.answer hart in
    let so = follows view g.S.EpochStore.waits g.S.ShownStore.fits g.S.ShownStore.shows c.args.shown.now.store c.args.shown.now.memory old new c.args.shares.now c.step.new.shares core hart
    (Ok c.in_ok-answer.answer) c.look.ensures c.look-2.ensures grows c.requires.shown c.in_ok-answer.ensures.turned in
    let before : IsBefore view c.len.result c.attempts_of.result old = record { entries_are = c.len.ensures; attempts_are = λ k. c.attempts_of.ensures k ∙ ap (λ st. (view st).attempt k) c.store.ensures } in
    let here : c.hart_of-2.result ≡ after = c.hart_of-2.ensures ∙ (c.in_ok-answer.ensures.harts core ∙ held_here (harts_of c.args.held.now) core after) in (
      turn_text view changes c.args.place.number core c.in_ok-answer.answer grows.entries hart after old new,
      record { entries = grows.entries; history = grows.history; text_is = refl },
      c.in-Ok.ensures.text old grows.entries so before c.requires.place.1
          ∙ (ap (λ h. c.args.text.now.items ++ turn_text view changes c.args.place.number core c.in_ok-answer.answer grows.entries h c.hart_of-2.result old new) c.hart_of.ensures
          ∙ ap (λ h. c.args.text.now.items ++ turn_text view changes c.args.place.number core c.in_ok-answer.answer grows.entries hart h old new) here),
    )

pub returns-in-Ok-clause-shown : goal.returns-in-Ok-clause-shown
returns-in-Ok-clause-shown g c =
    let view = g.S.EpochStore.view in
    let old = c.args.book.now in
    let core = c.args.place.core in
    let grows = c.step.ensures.grows in
    let so = follows view g.S.EpochStore.waits g.S.ShownStore.fits g.S.ShownStore.shows c.args.shown.now.store c.args.shown.now.memory old c.step.new.book c.args.shares.now c.step.new.shares core
    (harts_of c.args.held.now core) (Ok c.in_ok-answer.answer) c.look.ensures c.look-2.ensures grows c.requires.shown c.in_ok-answer.ensures.turned in
    let before : IsBefore view c.len.result c.attempts_of.result old = record { entries_are = c.len.ensures; attempts_are = λ k. c.attempts_of.ensures k ∙ ap (λ st. (view st).attempt k) c.store.ensures } in
    c.in-Ok.ensures.shown old grows.entries so before

pub returns-in-Ok-clause-harts : goal.returns-in-Ok-clause-harts
returns-in-Ok-clause-harts g c = c.in_ok-answer.ensures.harts
