use Rattle.std.proofs.Common.{◌≡◌, ◌++◌, ◌-◌, length, take, drop, ap, subst, sym, ◌∙◌}
use Rattle.std.proofs.Math.Path.{fun_ext}
use Rattle.turn_steps.specs.Memory.{ShowsMemory}
use Rattle.turn_steps.specs.Rows.{at_changes, row_count}
use Rattle.turn_steps.specs.Places.{changed}
use Rattle.turn_steps.specs.Stepped.{attempt_changes, attempt_in, entries_text}
use Rattle.turn_steps.specs.Telling.{Leads}
use Rattle.turn_steps.specs.Turns.{hart_line, turn_line}
use Rattle.turn_steps.proofs.TurnText.{in_turn, rest_of}
use Rattle.turn_steps.proofs.stepping.push_step.Goals as goal

pub returns-clause-text : goal.returns-clause-text
returns-clause-text g c = λ old added follows before cores.
    let view = g.S.EpochStore.view in
    let changes = g.S.ShownStore.changes in
    let now = c.args.book.now in
    let rest = rest_of c.history.result.now old.history added c.args.before.now.entries (c.history.ensures ∙ follows.history) before.entries_are in
    let was = fun_ext before.attempts_are in
    let is = fun_ext c.attempts_of-attempts.ensures ∙ ap (λ st. (view st).attempt) c.store.ensures in
    let leads = subst (λ st. Leads view g.S.ShownStore.shows c.args.shown.now.store c.args.shown.now.memory c.args.place.core old.store st (take (length c.history.result.now - c.args.before.now.entries) (drop c.args.before.now.entries c.history.result.now))) (sym c.store-2.ensures)
    (subst (λ es. Leads view g.S.ShownStore.shows c.args.shown.now.store c.args.shown.now.memory c.args.place.core old.store now.store es) (sym rest) follows.leads) in
    let five = subst (λ st. c.push_changes.new.text.items ≡ c.push_hart_change.new.text.items ++ changes (view st).shape.cores old.store st
    ++ at_changes (view old.store).committed (view st).committed (row_count (view old.store))) c.store-2.ensures (c.in_ok-push_changes.ensures.text old.store leads) in
    in_turn c.args.text.now.items c.push_turn.new.text.items c.push_entries.new.text.items c.push_attempt_changes.new.text.items c.push_hart_change.new.text.items c.push_changes.new.text.items
    (turn_line c.args.place.number c.args.place.core c.args.taken.now.answer) (entries_text added) (attempt_changes (view old.store).attempt (view now.store).attempt old.cores)
    (changed (hart_line c.args.place.core c.args.before.now.hart) (hart_line c.args.place.core c.args.taken.now.hart)) (changes old.cores old.store now.store)
    (at_changes (view old.store).committed (view now.store).committed (row_count (view old.store)))
    c.in_ok-push_turn.ensures
    (c.in_ok-push_entries.ensures ∙ ap (λ es. c.push_turn.new.text.items ++ entries_text es) rest)
    (c.in_ok-push_attempt_changes.ensures
    ∙ (ap (λ f. c.push_entries.new.text.items ++ attempt_changes f (attempt_in c.attempts_of-attempts.result) c.args.place.cores) was
    ∙ (ap (λ f. c.push_entries.new.text.items ++ attempt_changes (view old.store).attempt f c.args.place.cores) is
    ∙ ap (λ n. c.push_entries.new.text.items ++ attempt_changes (view old.store).attempt (view now.store).attempt n) (sym cores))))
    c.in_ok-push_hart_change.ensures
    (five ∙ ap (λ n. c.push_hart_change.new.text.items ++ changes n old.store now.store
    ++ at_changes (view old.store).committed (view now.store).committed (row_count (view old.store))) (c.requires.cores.2 ∙ sym cores))

pub returns-clause-shown : goal.returns-clause-shown
returns-clause-shown g c = λ old added follows before.
    let view = g.S.EpochStore.view in
    let now = c.args.book.now in
    let rest = rest_of c.history.result.now old.history added c.args.before.now.entries (c.history.ensures ∙ follows.history) before.entries_are in
    let leads = subst (λ st. Leads view g.S.ShownStore.shows c.args.shown.now.store c.args.shown.now.memory c.args.place.core old.store st (take (length c.history.result.now - c.args.before.now.entries) (drop c.args.before.now.entries c.history.result.now))) (sym c.store-2.ensures)
    (subst (λ es. Leads view g.S.ShownStore.shows c.args.shown.now.store c.args.shown.now.memory c.args.place.core old.store now.store es) (sym rest) follows.leads) in record {
      store_fits = subst (λ st. g.S.ShownStore.fits c.push_changes.new.self.store (view st).shape) c.store-2.ensures c.in_ok-push_changes.ensures.fits;
      store_is = subst (λ st. g.S.ShownStore.shows c.push_changes.new.self.store st) c.store-2.ensures (c.in_ok-push_changes.ensures.shows old.store leads);
      memory_is = subst (λ st. ShowsMemory (view st) c.push_changes.new.self.memory) c.store-2.ensures (c.in_ok-push_changes.ensures.memory old.store leads);
    }
