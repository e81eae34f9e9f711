use Rattle.std.proofs.Common.{rules, ◌≡◌, ◌<◌, ◌+◌, ◌&&◌, Bool, true, false, cond, length, Some, None, refl, sym, ap, ◌∙◌, arith, eq-eqb, ne_eqb}
use Rattle.memory_bytes.specs.Maps.{over}
use Rattle.rv32_exec.specs.declared.sequential.End.TheVariants.{Done}
use Rattle.rv32_exec.specs.NextEvent.{next_event}
use Rattle.rv32_exec.specs.Sequential.{exits}
use Rattle.spec_history.specs.declared.entry.What.TheVariants.{Commit}
use Rattle.spec_history.specs.Effect.{effect_on}
use Rattle.spec_history.specs.Refusal.{next_is, is_an_exit, is_the_end}
use Rattle.spec_history.specs.Machine.{state_of}
use Rattle.spec_history.proofs.CodedCores.CoreStates.{kept_own}
use Rattle.spec_history.proofs.CodedCores.Performed.{finds, finds_core, commits, becomes}
use Rattle.spec_history.proofs.OneEntry.Legal.{the_end}
use Rattle.spec_history.proofs.Replay.Replays.{on_core}
use Rattle.rv32_exec.specs.declared.stop.Stop.{Stop}
use Rattle.rv32_exec.specs.declared.stop.Stop.TheVariants as stop
use Rattle.spec_history.proofs.machine.Machine.commit.Goals as goal

exit_is : (at : Stop) (exit b : Bool) → at ≡ stop.Ended → (is_the_end at && exit) ≡ b → exit ≡ b
exit_is at exit b ends is = sym (ap (λ a. is_the_end a && exit) ends) ∙ is

pub index_mut-core-requires : goal.index_mut-core-requires
index_mut-core-requires c =
    let found = finds c.args.self.now c.args.by Commit tt c.requires.legal in
    let below : c.args.by < length c.args.self.now.cores.items = found.below in search rules

pub exits-exits-requires : goal.exits-exits-requires
exits-exits-requires c =
    let f = finds_core c.args.self.now c.args.by Commit c.index_mut-core.result.now tt c.requires.fit c.requires.legal c.index_mut-core.ensures.value in f.fit

pub commit-requires : goal.commit-requires
commit-requires c =
    let f = finds_core c.args.self.now c.args.by Commit c.index_mut-core.result.now tt c.requires.fit c.requires.legal c.index_mut-core.ensures.value in omega (arith, f.fit.own, c.requires.fit.committed)

pub returns-then-exits : goal.returns-then-exits
returns-then-exits c =
    let m = c.args.self.now in
    let f = finds_core c.args.self.now c.args.by Commit c.index_mut-core.result.now tt c.requires.fit c.requires.legal c.index_mut-core.ensures.value in
    let exit : exits m.image (next_event m.image f.found.state.hart).now ≡ true =
    exit_is (next_event m.image f.found.state.hart).at _ true (the_end _ (on_core ((state_of m).cores c.args.by) f.found.state _ f.found.runs f.found.legal.next))
    (sym (ap (λ o. next_is m.image o (is_an_exit m.image)) f.runs) ∙ (sym c.exits-exits.ensures ∙ c.if-exits.true)) in
    becomes m _ c.args.by Commit c.leave.new.self None (over f.found.state.own (state_of m).committed) c.requires.fit f.found.below refl refl
    c.commit.ensures.long (c.leave.ensures.fit m.image f.fit) c.leave.ensures.core
    (λ a. c.commit.ensures.bytes a ∙ ap (λ o. over o (state_of m).committed a) (sym (kept_own c.index_mut-core.result.now f.found.state f.runs)))
    (commits m c.args.by f.found.state true f.found.runs exit)

pub returns-then-self-epochs : goal.returns-then-self-epochs
returns-then-self-epochs c =
    let m = c.args.self.now in
    let f = finds_core c.args.self.now c.args.by Commit c.index_mut-core.result.now tt c.requires.fit c.requires.legal c.index_mut-core.ensures.value in
    let exit : exits m.image (next_event m.image f.found.state.hart).now ≡ false =
    exit_is (next_event m.image f.found.state.hart).at _ false (the_end _ (on_core ((state_of m).cores c.args.by) f.found.state _ f.found.runs f.found.legal.next))
    (sym (ap (λ o. next_is m.image o (is_an_exit m.image)) f.runs) ∙ (sym c.exits-exits.ensures ∙ c.if-exits.false)) in
    becomes m _ c.args.by Commit c.leave.new.self None (over f.found.state.own (state_of m).committed) c.requires.fit f.found.below refl refl
    c.commit.ensures.long (c.leave.ensures.fit m.image f.fit) c.leave.ensures.core
    (λ a. c.commit.ensures.bytes a ∙ ap (λ o. over o (state_of m).committed a) (sym (kept_own c.index_mut-core.result.now f.found.state f.runs)))
    (commits m c.args.by f.found.state false f.found.runs exit
    ∙ ap (λ e. record (effect_on m.image (state_of m) c.args.by f.found.state Commit) { end = e })
    (ap (λ b. cond b (Some (Done (m.homefree + 1))) None) (eq-eqb (m.homefree + 1) m.image.epochs (c.if-self-epochs.true ∙ c.epochs.ensures.epochs))))

pub returns-else-self-epochs : goal.returns-else-self-epochs
returns-else-self-epochs c =
    let m = c.args.self.now in
    let f = finds_core c.args.self.now c.args.by Commit c.index_mut-core.result.now tt c.requires.fit c.requires.legal c.index_mut-core.ensures.value in
    let exit : exits m.image (next_event m.image f.found.state.hart).now ≡ false =
    exit_is (next_event m.image f.found.state.hart).at _ false (the_end _ (on_core ((state_of m).cores c.args.by) f.found.state _ f.found.runs f.found.legal.next))
    (sym (ap (λ o. next_is m.image o (is_an_exit m.image)) f.runs) ∙ (sym c.exits-exits.ensures ∙ c.if-exits.false)) in
    becomes m _ c.args.by Commit c.leave.new.self None (over f.found.state.own (state_of m).committed) c.requires.fit f.found.below refl refl
    c.commit.ensures.long (c.leave.ensures.fit m.image f.fit) c.leave.ensures.core
    (λ a. c.commit.ensures.bytes a ∙ ap (λ o. over o (state_of m).committed a) (sym (kept_own c.index_mut-core.result.now f.found.state f.runs)))
    (commits m c.args.by f.found.state false f.found.runs exit
    ∙ ap (λ e. record (effect_on m.image (state_of m) c.args.by f.found.state Commit) { end = e })
    (ap (λ b. cond b (Some (Done (m.homefree + 1))) None) (ne_eqb (m.homefree + 1) m.image.epochs (λ e. c.if-self-epochs.false (e ∙ sym c.epochs.ensures.epochs))) ∙ sym f.found.legal.going))
