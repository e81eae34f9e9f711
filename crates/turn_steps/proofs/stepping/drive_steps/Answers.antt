use Rattle.std.proofs.Common.{◌≡◌, ◌+◌, ◌++◌, get_or, take, drop, [], None, Some, refl, sym, subst, ◌∙◌}
use Rattle.std.proofs.KnownBytes.{Appends-nil}
use Rattle.std.proofs.lemmas.List.{append-nil, take_all}
use Rattle.std.proofs.lemmas.Result.{err_from_is_err_and}
use Rattle.homefree.specs.declared.fault.TurnFault.TheVariants.{HistoryFull}
use Rattle.homefree.specs.Acted.{IfArrived}
use Rattle.homefree.specs.Driven.{Driven, driver}
use Rattle.homefree.specs.Held.{harts_of}
use Rattle.homefree.proofs.Books.Drives.{ends_fault, goes_on, none_held, no_harts}
use Rattle.turn_steps.specs.Memory.{ShowsMemory}
use Rattle.turn_steps.specs.Stepped.{Stepped}
use Rattle.turn_steps.proofs.Steps.{all_taken, full_fault, one_taken, tells_on, tells_over, tells_stopped}
use Rattle.turn_steps.proofs.Written.{first_but, grows_by, nothing_first}
use Rattle.turn_steps.proofs.stepping.drive_steps.Goals as goal

pub loop-number-init : goal.loop-number-init
loop-number-init g c =
    let makes = g.S.EpochStore.makes in
    let view = g.S.EpochStore.view in
    let waits = g.S.EpochStore.waits in
    let changes = g.S.ShownStore.changes in
    let first = driver c.args.book.now c.args.shares.now in record {
      same = record { image = refl; cores = refl; room = refl };
      held = λ k. subst (λ o. IfArrived c.args.book.now.image o) (sym (none_held 16 k)) tt;
      shares = c.requires.shares;
      shown = record {
        store_fits = subst (λ st. g.S.ShownStore.fits c.in-Ok.shown.store (view st).shape) c.store.ensures c.in-Ok.ensures.fits;
        store_is = subst (λ st. g.S.ShownStore.shows c.in-Ok.shown.store st) c.store.ensures c.in-Ok.ensures.shows;
        memory_is = subst (λ st. ShowsMemory (view st) c.in-Ok.shown.memory) c.store.ensures c.in-Ok.ensures.memory;
      };
      drives = λ result new d. subst (λ h. Driven makes view waits h first c.args.schedule.now result new) (no_harts 16) d;
      told = (
        [],
        ([], Appends-nil (g.W.Write.contents c.args.writer.now), sym c.new-text.ensures.items),
        λ rest end new below d.
            subst (λ h. Stepped makes view waits changes 0 h first rest end new below) (no_harts 16) d,
      );
    }

pub returns-in_err-answer-clause-full : goal.returns-in_err-answer-clause-full
returns-in_err-answer-clause-full g c =
    let p = err_from_is_err_and c.from_residual.result c.from_residual.ensures.1 in
    rw (p.1, p.2) (λ full.
    let mid = driver c.loop-number.book c.loop-number.shares in
    let next = driver c.step_shown.new.book c.step_shown.new.shares in
    let is : c.in_err-answer.field-0.0 ≡ HistoryFull = cc in
    ends_fault g.S.EpochStore.makes g.S.EpochStore.view g.S.EpochStore.waits (harts_of c.loop-number.held) mid next c.args.schedule.now c.loop-number.number c.loop-number-test.true
    (λ result new. Driven g.S.EpochStore.makes g.S.EpochStore.view g.S.EpochStore.waits (λ _. None) (driver c.args.book.now c.args.shares.now) c.args.schedule.now result new) c.loop-number.invariant.drives
    HistoryFull (full_fault g.S.EpochStore.makes g.S.EpochStore.view g.S.EpochStore.waits mid next (get_or c.args.schedule.now c.loop-number.number 0) (harts_of c.loop-number.held) c.in_err-answer.field-0.0 is c.in_err-answer.ensures.turned))

pub returns-in_err-answer-clause-begun : goal.returns-in_err-answer-clause-begun
returns-in_err-answer-clause-begun g c =
    let p = err_from_is_err_and c.from_residual.result c.from_residual.ensures.1 in
    let told = c.loop-number.invariant.told in
    let i = c.loop-number.number in
    let last = driver c.loop-number.book c.loop-number.shares in
    let steps = Stepped g.S.EpochStore.makes g.S.EpochStore.view g.S.EpochStore.waits g.S.ShownStore.changes 0 (λ _. None) (driver c.args.book.now c.args.shares.now) in
    rw p.1 (
      i,
      last,
      told.0,
      subst (λ t. steps (take i c.args.schedule.now) None last t) (append-nil told.0)
          (subst (λ ys. steps ys None last (told.0 ++ [])) (append-nil (take i c.args.schedule.now)) (told.2 [] None last [] (refl, refl, refl))),
      first_but c.loop-number.text.items told.0 c.loop-number.whole (g.W.Write.contents c.args.writer.now) (g.W.Write.contents c.loop-number.writer) told.1,
    )

pub returns-in_default-clause-begun : goal.returns-in_default-clause-begun
returns-in_default-clause-begun g c = (0, driver c.args.book.now c.args.shares.now, [], (refl, refl, refl), nothing_first (g.W.Write.contents c.args.writer.now))

pub returns-in-Over-clause-stepped : goal.returns-in-Over-clause-stepped
returns-in-Over-clause-stepped g c =
    let turn = c.in_ok-answer.ensures.told in
    let told = c.loop-number.invariant.told in
    let i = c.loop-number.number in
    let xs = c.args.schedule.now in
    let next = driver c.step_shown.new.book c.step_shown.new.shares in
    let steps = Stepped g.S.EpochStore.makes g.S.EpochStore.view g.S.EpochStore.waits g.S.ShownStore.changes 0 (λ _. None) (driver c.args.book.now c.args.shares.now) in (
      Some c.in-Over.field-0,
      told.0 ++ turn.0,
      subst (λ ys. steps ys (Some c.in-Over.field-0) next (told.0 ++ turn.0)) (all_taken xs i c.loop-number-test.true)
          (tells_over g.S.EpochStore.makes g.S.EpochStore.view g.S.EpochStore.waits g.S.ShownStore.changes (harts_of c.loop-number.held) (driver c.loop-number.book c.loop-number.shares) next (get_or xs i 0) i
          told.0 turn.0 (λ rest end new text. steps (take i xs ++ rest) end new text) told.2 c.in_ok-answer.answer c.in-Over.field-0 (drop (i + 1) xs) c.in-Over.is
          (c.in_ok-answer.ensures.turned (λ is. absurd cc)) turn.1),
      grows_by c.loop-number.text.items told.0 c.loop-number.whole (g.W.Write.contents c.args.writer.now) (g.W.Write.contents c.loop-number.writer) told.1 turn.0 c.step_shown.new.text.items turn.2,
    )

pub returns-in-Stopped-clause-stepped : goal.returns-in-Stopped-clause-stepped
returns-in-Stopped-clause-stepped g c =
    let turn = c.in_ok-answer.ensures.told in
    let told = c.loop-number.invariant.told in
    let i = c.loop-number.number in
    let xs = c.args.schedule.now in
    let next = driver c.step_shown.new.book c.step_shown.new.shares in
    let steps = Stepped g.S.EpochStore.makes g.S.EpochStore.view g.S.EpochStore.waits g.S.ShownStore.changes 0 (λ _. None) (driver c.args.book.now c.args.shares.now) in (
      None,
      told.0 ++ turn.0,
      subst (λ ys. steps ys None next (told.0 ++ turn.0)) (all_taken xs i c.loop-number-test.true)
          (tells_stopped g.S.EpochStore.makes g.S.EpochStore.view g.S.EpochStore.waits g.S.ShownStore.changes (harts_of c.loop-number.held) (driver c.loop-number.book c.loop-number.shares) next (get_or xs i 0) i
          told.0 turn.0 (λ rest end new text. steps (take i xs ++ rest) end new text) told.2 c.in_ok-answer.answer c.in-Stopped.field-0 (drop (i + 1) xs) c.in-Stopped.is
          (c.in_ok-answer.ensures.turned (λ is. absurd cc)) turn.1),
      grows_by c.loop-number.text.items told.0 c.loop-number.whole (g.W.Write.contents c.args.writer.now) (g.W.Write.contents c.loop-number.writer) told.1 turn.0 c.step_shown.new.text.items turn.2,
    )

pub loop-number-preserved : goal.loop-number-preserved
loop-number-preserved g c =
    let same = c.step_shown.ensures.same in
    let before = c.loop-number.invariant.same in
    let turn = c.in_ok-answer.ensures.told in
    let told = c.loop-number.invariant.told in
    let i = c.loop-number.number in
    let xs = c.args.schedule.now in
    let mid = driver c.loop-number.book c.loop-number.shares in
    let next = driver c.step_shown.new.book c.step_shown.new.shares in
    let steps = Stepped g.S.EpochStore.makes g.S.EpochStore.view g.S.EpochStore.waits g.S.ShownStore.changes 0 (λ _. None) (driver c.args.book.now c.args.shares.now) in record {
      same = record { image = same.image ∙ before.image; cores = same.cores ∙ before.cores; room = same.room ∙ before.room };
      held = c.step_shown.ensures.held;
      shares = c.step_shown.ensures.shares;
      shown = c.in_ok-answer.ensures.shown;
      drives = goes_on g.S.EpochStore.makes g.S.EpochStore.view g.S.EpochStore.waits (harts_of c.loop-number.held) mid next xs i c.loop-number-test.true
          (λ result new. Driven g.S.EpochStore.makes g.S.EpochStore.view g.S.EpochStore.waits (λ _. None) (driver c.args.book.now c.args.shares.now) xs result new) c.loop-number.invariant.drives
          c.in_ok-answer.answer (harts_of c.step_shown.new.held) c.in_default-answer.not-Over c.in_default-answer.not-Stopped c.in_ok-answer.ensures.harts (c.in_ok-answer.ensures.turned (λ is. absurd cc));
      told = (
        told.0 ++ turn.0,
        c.write_long.ensures.written (g.W.Write.contents c.args.writer.now) (told.0 ++ turn.0)
            (grows_by c.loop-number.text.items told.0 c.loop-number.whole (g.W.Write.contents c.args.writer.now) (g.W.Write.contents c.loop-number.writer) told.1 turn.0 c.step_shown.new.text.items turn.2),
        λ rest end new below d. subst (λ ys. steps ys end new (told.0 ++ turn.0 ++ below)) (one_taken xs rest i c.loop-number-test.true)
            (tells_on g.S.EpochStore.makes g.S.EpochStore.view g.S.EpochStore.waits g.S.ShownStore.changes (harts_of c.loop-number.held) mid next (get_or xs i 0) i
            told.0 turn.0 (λ ys e n text. steps (take i xs ++ ys) e n text) told.2 c.in_ok-answer.answer (harts_of c.step_shown.new.held) c.in_default-answer.not-Over
            c.in_default-answer.not-Stopped c.in_ok-answer.ensures.harts (c.in_ok-answer.ensures.turned (λ is. absurd cc)) turn.1 rest end new below d),
      );
    }

pub returns-clause-stepped : goal.returns-clause-stepped
returns-clause-stepped g c =
    let told = c.loop-number.invariant.told in
    let xs = c.args.schedule.now in
    let i = c.loop-number.number in
    let last = driver c.loop-number.book c.loop-number.shares in
    let steps = Stepped g.S.EpochStore.makes g.S.EpochStore.view g.S.EpochStore.waits g.S.ShownStore.changes 0 (λ _. None) (driver c.args.book.now c.args.shares.now) in (
      None,
      told.0,
      subst (λ ys. steps ys None last told.0) (append-nil (take i xs) ∙ take_all i xs c.loop-number-test.false)
          (subst (λ t. steps (take i xs ++ []) None last t) (append-nil told.0) (told.2 [] None last [] (refl, refl, refl))),
      told.1,
    )
