use Rattle.std.proofs.Common.{◌≡◌, sym, inl, inr, ◌∙◌, arith}
use Rattle.rv32_exec.specs.declared.stop.Stop.TheVariants as stop
use Rattle.rv32_exec.specs.Hart.{stepped}
use Rattle.rv32_exec.specs.Execute.{IsAccess, IsStore}
use Rattle.rv32_exec.specs.NextEvent.{next_event}
use Rattle.rv32_exec.specs.Arrival.{after_number}
use Rattle.rv32_exec.proofs.Accesses.{stop_of_event}
use Rattle.spec_history.proofs.OneEntry.Accesses.{load_counts}
use Rattle.epoch_paths.proofs.Outside.{goes_on, no_fault, path_load, path_start, path_store}
use Rattle.dependences.proofs.alone.run_one.Goals as goal

pub accesses-init : goal.accesses-init
accesses-init c = record {
  path = rw c.start-hart.ensures (path_start c.args.image.now c.args.epoch c.args.memory.now c.requires.run.size);
  within = rw c.start-hart.ensures (omega arith);
}

pub accesses-preserved-in-Load : goal.accesses-preserved-in-Load
accesses-preserved-in-Load c =
    let image = c.args.image.now in
    let h = c.accesses.hart in
    let is : (next_event image h).at ≡ stop.Load c.in-Load.addr c.in-Load.width c.in-Load.signed c.in-Load.rd = sym c.advance-arrived.ensures.at ∙ (sym c.at.ensures.at ∙ c.in-Load.is) in
    let hart : c.loaded-hart.result ≡ after_number (next_event image h).now (next_event image h).at c.read_number.result =
    rw (c.advance-arrived.ensures.now, c.advance-arrived.ensures.at) at c.loaded-hart.ensures in
    let next = path_load image c.args.epoch c.args.memory.now c.accesses.memory h c.accesses.invariant.path
    c.in-Load.addr c.in-Load.width c.in-Load.signed c.in-Load.rd c.read_number.result is (sym c.read_number.ensures.number) in
    let access : IsAccess image (next_event image h).now c.in-Load.addr c.in-Load.width = rw is at (stop_of_event image h) in
    let room = access.room in
    let count = load_counts image h c.in-Load.addr c.in-Load.width c.in-Load.signed c.in-Load.rd c.read_number.result is in
    record { path = rw hart next; within = rw hart (omega (arith, count, room)) }

pub accesses-preserved : goal.accesses-preserved
accesses-preserved c =
    let image = c.args.image.now in
    let h = c.accesses.hart in
    let is : (next_event image h).at ≡ stop.Store c.in-Store.addr c.in-Store.width c.in-Store.value = sym c.advance-arrived.ensures.at ∙ (sym c.at.ensures.at ∙ c.in-Store.is) in
    let hart : c.stored-hart.result ≡ stepped (next_event image h).now = rw c.advance-arrived.ensures.now at c.stored-hart.ensures in
    let next = path_store image c.args.epoch c.args.memory.now c.accesses.memory h c.accesses.invariant.path c.in-Store.addr c.in-Store.width c.in-Store.value is in
    let store : IsStore image (next_event image h).now c.in-Store.addr c.in-Store.width c.in-Store.value = rw is at (stop_of_event image h) in
    let room = store.access.room in
    record { path = rw (c.write_number.ensures, hart) next; within = rw hart (omega (arith, room)) }

pub returns-in-Ended-clause-done : goal.returns-in-Ended-clause-done
returns-in-Ended-clause-done c =
    let image = c.args.image.now in
    let h = c.accesses.hart in
    let at : (next_event image h).at ≡ c.at.result = sym c.advance-arrived.ensures.at ∙ sym c.at.ensures.at in
    elim c.in-Ended.is [
      | inl ended ↦ goes_on image c.args.epoch c.args.memory.now c.accesses.memory h c.accesses.invariant.path c.requires.before (at ∙ ended) c.requires.order
      | inr fault ↦ absurd (no_fault image c.args.epoch c.args.memory.now c.accesses.memory h c.accesses.invariant.path c.requires.before
          fault.0 fault.1 (at ∙ fault.2) c.requires.order)
    ]
