use Rattle.std.proofs.Common.{◌≡◌, sym, ap, ◌∙◌, arith}
use Rattle.std.proofs.lemmas.Bool.{not-false, not-true}
use Rattle.rv32_exec.specs.declared.stop.Stop.TheVariants as stop
use Rattle.rv32_exec.specs.Hart.{HartState, stepped}
use Rattle.rv32_exec.specs.Execute.{IsAccess, IsStore}
use Rattle.rv32_exec.specs.NextEvent.{next_event}
use Rattle.rv32_exec.specs.Arrival.{after_number}
use Rattle.rv32_exec.specs.Sequential.{exits}
use Rattle.rv32_exec.proofs.Accesses.{stop_of_event}
use Rattle.spec_history.proofs.OneEntry.Accesses.{load_counts}
use Rattle.epoch_paths.specs.InOrder.{memory_before}
use Rattle.epoch_paths.proofs.InOrder.{runs_in_order}
use Rattle.epoch_paths.proofs.Outside.{done_before, ends_so, no_exit, no_fault}
use Rattle.limits.proofs.Running.{most_done, running_end, running_load, running_path, running_start, running_store}
use Rattle.limits.proofs.limit.follow.Goals as goal

pub accesses-init : goal.accesses-init
accesses-init c = record {
  running = rw c.start-hart.ensures
      (running_start c.args.image.now c.args.cores c.args.epoch c.args.memory.now c.args.times.now c.begin-base.result _ c.requires.size c.requires.before c.requires.cores
      c.requires.kept c.begin-base.ensures.early c.begin-base.ensures.late (omega arith));
  within = rw c.start-hart.ensures (omega arith);
}

pub overflow_add-step : goal.overflow_add-step
overflow_add-step c =
    let image = c.args.image.now in
    let h = c.accesses.hart in
    let done : c.done.result ≡ (next_event image h).now.done = c.done.ensures ∙ ap (λ (g : HartState). g.done) (c.now-now.ensures ∙ c.advance-arrived.ensures.now) in
    let most = most_done image c.args.cores c.args.epoch c.args.times.now.waits c.args.times.now.commits c.accesses.memory c.accesses.times h c.accesses.base
    c.accesses.invariant.running in
    let soon = c.accesses.invariant.running.soon in omega (arith, done, most, soon, c.requires.limits.limit_most, c.requires.limits.epochs_most, c.requires.epoch)

pub accesses-preserved-in-Load : goal.accesses-preserved-in-Load
accesses-preserved-in-Load c =
    let image = c.args.image.now in
    let h = c.accesses.hart in
    let is : (next_event image h).at ≡ stop.Load c.in-Load.addr c.in-Load.width c.in-Load.signed c.in-Load.rd = sym c.advance-arrived.ensures.at ∙ (sym c.at.ensures.at ∙ c.in-Load.is) in
    let hart : c.loaded-hart.result ≡ after_number (next_event image h).now (next_event image h).at c.read_number.result =
    rw (c.advance-arrived.ensures.now, c.advance-arrived.ensures.at) at c.loaded-hart.ensures in
    let order = runs_in_order image c.args.epoch c.args.memory.now c.requires.before in
    let done : c.done.result ≡ (next_event image h).now.done = c.done.ensures ∙ ap (λ (g : HartState). g.done) (c.now-now.ensures ∙ c.advance-arrived.ensures.now) in
    let less = c.saturating_sub-base.ensures in
    let access : IsAccess image (next_event image h).now c.in-Load.addr c.in-Load.width = rw is at (stop_of_event image h) in
    let room = access.room in
    let count = load_counts image h c.in-Load.addr c.in-Load.width c.in-Load.signed c.in-Load.rd c.read_number.result is in
    record {
      running = rw hart
          (running_load image c.args.cores c.args.epoch c.args.times.now.waits c.args.times.now.commits c.accesses.memory c.accesses.times h c.accesses.base
          c.accesses.invariant.running order c.requires.epoch c.in-Load.addr c.in-Load.width c.in-Load.signed c.in-Load.rd c.ready.result is c.ready.ensures
          c.read_number.result _ (sym c.read_number.ensures.number) (omega (arith, less, done)));
      within = rw hart (omega (arith, count, room));
    }

pub accesses-preserved : goal.accesses-preserved
accesses-preserved c =
    let image = c.args.image.now in
    let h = c.accesses.hart in
    let is : (next_event image h).at ≡ stop.Store c.in-Store.addr c.in-Store.width c.in-Store.value = sym c.advance-arrived.ensures.at ∙ (sym c.at.ensures.at ∙ c.in-Store.is) in
    let hart : c.stored-hart.result ≡ stepped (next_event image h).now = rw c.advance-arrived.ensures.now at c.stored-hart.ensures in
    let done : c.done.result ≡ (next_event image h).now.done = c.done.ensures ∙ ap (λ (g : HartState). g.done) (c.now-now.ensures ∙ c.advance-arrived.ensures.now) in
    let next = running_store image c.args.cores c.args.epoch c.args.times.now.waits c.args.times.now.commits c.accesses.memory c.accesses.times h c.accesses.base
    c.accesses.invariant.running c.mark.new.self c.in-Store.addr c.in-Store.width c.in-Store.value _ _ is c.mark.ensures (omega arith) (omega (arith, done)) in
    let store : IsStore image (next_event image h).now c.in-Store.addr c.in-Store.width c.in-Store.value = rw is at (stop_of_event image h) in
    let room = store.access.room in
    record { running = rw (c.write_number.ensures, hart) next; within = rw hart (omega (arith, room)) }

pub returns-in-Ended-clause-kept : goal.returns-in-Ended-clause-kept
returns-in-Ended-clause-kept c =
    let image = c.args.image.now in
    let h = c.accesses.hart in
    let is : (next_event image h).at ≡ stop.Ended = sym c.advance-arrived.ensures.at ∙ (sym c.at.ensures.at ∙ c.in-Ended.is) in
    let done : c.done.result ≡ (next_event image h).now.done = c.done.ensures ∙ ap (λ (g : HartState). g.done) (c.now-now.ensures ∙ c.advance-arrived.ensures.now) in
    let kept = running_end image c.args.cores c.args.epoch c.args.times.now.waits c.args.times.now.commits c.accesses.memory c.accesses.times h c.accesses.base
    c.accesses.invariant.running c.requires.cores c.requires.limits.limit_most (rw is tt) _ (omega (arith, done)) in
    rw c.in_ok-commit-in-Ended.ensures kept

pub returns-in-Ended-clause-goes_on : goal.returns-in-Ended-clause-goes_on
returns-in-Ended-clause-goes_on c goes =
    let image = c.args.image.now in
    let h = c.accesses.hart in
    let is : (next_event image h).at ≡ stop.Ended = sym c.advance-arrived.ensures.at ∙ (sym c.at.ensures.at ∙ c.in-Ended.is) in
    let exit : c.exits.result ≡ exits image (next_event image h).now = c.exits.ensures ∙ ap (exits image) (c.now-now.ensures ∙ c.advance-arrived.ensures.now) in
    ends_so image c.args.epoch (memory_before image c.args.epoch) c.accesses.memory h
    (running_path image c.args.cores c.args.epoch c.args.times.now.waits c.args.times.now.commits c.accesses.memory c.accesses.times h c.accesses.base c.accesses.invariant.running)
    (done_before image c.args.epoch c.args.memory.now c.requires.before) is (sym exit ∙ not-true c.exits.result goes)

pub returns-in-Ended-clause-ends : goal.returns-in-Ended-clause-ends
returns-in-Ended-clause-ends c ends order =
    let image = c.args.image.now in
    let h = c.accesses.hart in
    let is : (next_event image h).at ≡ stop.Ended = sym c.advance-arrived.ensures.at ∙ (sym c.at.ensures.at ∙ c.in-Ended.is) in
    let exit : c.exits.result ≡ exits image (next_event image h).now = c.exits.ensures ∙ ap (exits image) (c.now-now.ensures ∙ c.advance-arrived.ensures.now) in
    no_exit image c.args.epoch (memory_before image c.args.epoch) c.accesses.memory h
    (running_path image c.args.cores c.args.epoch c.args.times.now.waits c.args.times.now.commits c.accesses.memory c.accesses.times h c.accesses.base c.accesses.invariant.running)
    (done_before image c.args.epoch c.args.memory.now c.requires.before) is (sym exit ∙ not-false c.exits.result ends) order

pub returns-in-Fault-clause-kept : goal.returns-in-Fault-clause-kept
returns-in-Fault-clause-kept c =
    let image = c.args.image.now in
    let h = c.accesses.hart in
    let is : (next_event image h).at ≡ stop.Fault c.in-Fault.cause c.in-Fault.pc = sym c.advance-arrived.ensures.at ∙ (sym c.at.ensures.at ∙ c.in-Fault.is) in
    let done : c.done.result ≡ (next_event image h).now.done = c.done.ensures ∙ ap (λ (g : HartState). g.done) (c.now-now.ensures ∙ c.advance-arrived.ensures.now) in
    let kept = running_end image c.args.cores c.args.epoch c.args.times.now.waits c.args.times.now.commits c.accesses.memory c.accesses.times h c.accesses.base
    c.accesses.invariant.running c.requires.cores c.requires.limits.limit_most (rw is tt) _ (omega (arith, done)) in
    rw c.in_ok-commit-in-Fault.ensures kept

pub returns-in-Fault-clause-ends : goal.returns-in-Fault-clause-ends
returns-in-Fault-clause-ends c ends order =
    let image = c.args.image.now in
    let h = c.accesses.hart in
    let is : (next_event image h).at ≡ stop.Fault c.in-Fault.cause c.in-Fault.pc = sym c.advance-arrived.ensures.at ∙ (sym c.at.ensures.at ∙ c.in-Fault.is) in
    no_fault image c.args.epoch (memory_before image c.args.epoch) c.accesses.memory h
    (running_path image c.args.cores c.args.epoch c.args.times.now.waits c.args.times.now.commits c.accesses.memory c.accesses.times h c.accesses.base c.accesses.invariant.running)
    (done_before image c.args.epoch c.args.memory.now c.requires.before) c.in-Fault.cause c.in-Fault.pc is order
