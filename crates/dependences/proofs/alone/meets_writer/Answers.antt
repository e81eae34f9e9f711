use Rattle.std.proofs.Common.{◌≡◌, sym, inl, inr, ◌∙◌, arith}
use Rattle.rv32_exec.specs.declared.stop.Stop.TheVariants as stop
use Rattle.rv32_exec.specs.Hart.{stepped}
use Rattle.rv32_exec.specs.Execute.{IsAccess, IsStore}
use Rattle.rv32_exec.specs.NextEvent.{next_event}
use Rattle.rv32_exec.specs.Arrival.{after_number}
use Rattle.rv32_exec.proofs.Accesses.{stop_of_event}
use Rattle.spec_history.proofs.OneEntry.Accesses.{load_counts}
use Rattle.dependences.proofs.Outside.{alone_load, alone_meets, alone_none, alone_start, alone_store}
use Rattle.dependences.proofs.alone.meets_writer.Goals as goal

pub accesses-init : goal.accesses-init
accesses-init c = record {
  alone = rw c.start-hart.ensures (alone_start c.args.image.now c.args.epoch c.args.memory.now c.args.writers.now c.args.first c.requires.run.size c.requires.long);
  within = rw c.start-hart.ensures (omega arith);
}

pub accesses-preserved-in-Load : goal.accesses-preserved-in-Load
accesses-preserved-in-Load c =
    let image = c.args.image.now in
    let h = c.accesses.hart in
    let is : (next_event image h).at ≡ stop.Load c.in-Load.addr c.in-Load.width c.in-Load.signed c.in-Load.rd = sym c.advance-arrived.ensures.at ∙ (sym c.at.ensures.at ∙ c.in-Load.is) in
    let hart : c.loaded-hart.result ≡ after_number (next_event image h).now (next_event image h).at c.read_number.result =
    rw (c.advance-arrived.ensures.now, c.advance-arrived.ensures.at) at c.loaded-hart.ensures in
    let next = alone_load image c.args.epoch c.args.memory.now c.args.writers.now c.args.first c.accesses.memory c.accesses.writers h c.accesses.invariant.alone
    c.in-Load.addr c.in-Load.width c.in-Load.signed c.in-Load.rd c.read_number.result is (sym c.read_number.ensures.number) (c.is_written.ensures.none c.if-is_written.false) in
    let access : IsAccess image (next_event image h).now c.in-Load.addr c.in-Load.width = rw is at (stop_of_event image h) in
    let room = access.room in
    let count = load_counts image h c.in-Load.addr c.in-Load.width c.in-Load.signed c.in-Load.rd c.read_number.result is in
    record { alone = rw hart next; within = rw hart (omega (arith, count, room)) }

pub accesses-preserved : goal.accesses-preserved
accesses-preserved c =
    let image = c.args.image.now in
    let h = c.accesses.hart in
    let is : (next_event image h).at ≡ stop.Store c.in-Store.addr c.in-Store.width c.in-Store.value = sym c.advance-arrived.ensures.at ∙ (sym c.at.ensures.at ∙ c.in-Store.is) in
    let hart : c.stored-hart.result ≡ stepped (next_event image h).now = rw c.advance-arrived.ensures.now at c.stored-hart.ensures in
    let next = alone_store image c.args.epoch c.args.memory.now c.args.writers.now c.args.first c.accesses.memory c.accesses.writers h c.accesses.invariant.alone
    c.mark.new.writers c.in-Store.addr c.in-Store.width c.in-Store.value is c.mark.ensures.long c.mark.ensures.marked in
    let store : IsStore image (next_event image h).now c.in-Store.addr c.in-Store.width c.in-Store.value = rw is at (stop_of_event image h) in
    let room = store.access.room in
    record { alone = rw (c.write_number.ensures, hart) next; within = rw hart (omega (arith, room)) }

pub returns-then-is_written-clause-found : goal.returns-then-is_written-clause-found
returns-then-is_written-clause-found c found =
    let image = c.args.image.now in
    let h = c.accesses.hart in
    let is : (next_event image h).at ≡ stop.Load c.in-Load.addr c.in-Load.width c.in-Load.signed c.in-Load.rd = sym c.advance-arrived.ensures.at ∙ (sym c.at.ensures.at ∙ c.in-Load.is) in
    alone_meets image c.args.epoch c.args.memory.now c.args.writers.now c.args.first c.accesses.memory c.accesses.writers h c.accesses.invariant.alone
    c.in-Load.addr c.in-Load.width c.in-Load.signed c.in-Load.rd is (c.is_written.ensures.found c.if-is_written.true)

pub returns-in-Ended-clause-none : goal.returns-in-Ended-clause-none
returns-in-Ended-clause-none c free =
    let image = c.args.image.now in
    let h = c.accesses.hart in
    let at : (next_event image h).at ≡ c.at.result = sym c.advance-arrived.ensures.at ∙ sym c.at.ensures.at in
    alone_none image c.args.epoch c.args.memory.now c.args.writers.now c.args.first c.accesses.memory c.accesses.writers h c.accesses.invariant.alone
    (elim c.in-Ended.is [ inl ended ↦ rw (at ∙ ended) tt | inr fault ↦ rw (at ∙ fault.2) tt ])
