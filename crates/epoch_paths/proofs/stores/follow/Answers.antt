use Rattle.std.proofs.Common.{◌≡◌, refl, sym, ap, ◌∙◌, arith}
use Rattle.std.proofs.lemmas.Bool.{not-false, not-true}
use Rattle.rv32_exec.specs.declared.stop.Stop.TheVariants as stop
use Rattle.rv32_exec.specs.Hart.{stepped}
use Rattle.rv32_exec.specs.Execute.{IsAccess, IsStore}
use Rattle.rv32_exec.specs.NextEvent.{next_event}
use Rattle.rv32_exec.specs.Arrival.{after_number}
use Rattle.rv32_exec.specs.Sequential.{exits}
use Rattle.rv32_exec.proofs.Accesses.{stop_of_event}
use Rattle.spec_history.proofs.OneEntry.Accesses.{load_counts}
use Rattle.epoch_paths.specs.InOrder.{memory_before}
use Rattle.epoch_paths.specs.Stored.{piece_in}
use Rattle.epoch_paths.proofs.InOrder.{runs_in_order}
use Rattle.epoch_paths.proofs.Noting.{on_path, storing_load, storing_start, storing_store, stored_before}
use Rattle.epoch_paths.proofs.Outside.{done_before, ends_so, no_exit, no_fault}
use Rattle.epoch_paths.proofs.stores.follow.Goals as goal

pub accesses-init : goal.accesses-init
accesses-init c = record {
  storing = rw c.start-hart.ensures
      (storing_start c.args.image.now (piece_in c.args.pieces c.args.image.now) c.args.epoch c.args.memory.now c.args.noted.now.list.items c.requires.run.size c.requires.before c.requires.kept);
  within = rw c.start-hart.ensures (omega arith);
  long = refl;
  fresh = λ a. omega (arith, c.requires.fresh a);
  noted = λ piece is. absurd (omega (arith, is, c.requires.fresh piece));
}

pub accesses-preserved-in-Load : goal.accesses-preserved-in-Load
accesses-preserved-in-Load c =
    let image = c.args.image.now in
    let h = c.accesses.hart in
    let is : (next_event image h).at ≡ stop.Load c.in-Load.addr c.in-Load.width c.in-Load.signed c.in-Load.rd = sym c.advance-arrived.ensures.at ∙ (sym c.at.ensures.at ∙ c.in-Load.is) in
    let hart : c.loaded-hart.result ≡ after_number (next_event image h).now (next_event image h).at c.read_number.result =
    rw (c.advance-arrived.ensures.now, c.advance-arrived.ensures.at) at c.loaded-hart.ensures in
    let next = storing_load image (piece_in c.args.pieces image) c.args.epoch c.accesses.memory h c.accesses.noted.list.items c.accesses.invariant.storing
    c.in-Load.addr c.in-Load.width c.in-Load.signed c.in-Load.rd c.read_number.result is (sym c.read_number.ensures.number) in
    let access : IsAccess image (next_event image h).now c.in-Load.addr c.in-Load.width = rw is at (stop_of_event image h) in
    let room = access.room in
    let count = load_counts image h c.in-Load.addr c.in-Load.width c.in-Load.signed c.in-Load.rd c.read_number.result is in
    record {
      storing = rw hart next;
      within = rw hart (omega (arith, count, room));
      long = c.accesses.invariant.long;
      fresh = c.accesses.invariant.fresh;
      noted = c.accesses.invariant.noted;
    }

pub note-requires-clause-within : goal.note-requires-clause-within
note-requires-clause-within c =
    let image = c.args.image.now in
    let h = c.accesses.hart in
    let is : (next_event image h).at ≡ stop.Store c.in-Store.addr c.in-Store.width c.in-Store.value = sym c.advance-arrived.ensures.at ∙ (sym c.at.ensures.at ∙ c.in-Store.is) in
    let store : IsStore image (next_event image h).now c.in-Store.addr c.in-Store.width c.in-Store.value = rw is at (stop_of_event image h) in
    store.access.within

pub note-requires-clause-long : goal.note-requires-clause-long
note-requires-clause-long c = c.accesses.invariant.long ∙ c.requires.long

pub accesses-preserved : goal.accesses-preserved
accesses-preserved c =
    let image = c.args.image.now in
    let h = c.accesses.hart in
    let is : (next_event image h).at ≡ stop.Store c.in-Store.addr c.in-Store.width c.in-Store.value = sym c.advance-arrived.ensures.at ∙ (sym c.at.ensures.at ∙ c.in-Store.is) in
    let hart : c.stored-hart.result ≡ stepped (next_event image h).now = rw c.advance-arrived.ensures.now at c.stored-hart.ensures in
    let next = storing_store image (piece_in c.args.pieces image) c.args.epoch c.accesses.memory h c.accesses.noted.list.items c.note.new.noted.list.items c.accesses.invariant.storing
    c.in-Store.addr c.in-Store.width c.in-Store.value is (rw c.of-at.ensures at c.in_ok-note-in-Store.ensures.more) in
    let store : IsStore image (next_event image h).now c.in-Store.addr c.in-Store.width c.in-Store.value = rw is at (stop_of_event image h) in
    let room = store.access.room in
    record {
      storing = rw (c.write_number.ensures, hart) next;
      within = rw hart (omega (arith, room));
      long = c.note.ensures.long ∙ c.accesses.invariant.long;
      fresh = rw c.of-at.ensures at c.note.ensures.fresh;
      noted = rw c.of-at.ensures at c.in_ok-note-in-Store.ensures.noted;
    }

pub returns-in-Ended-clause-kept : goal.returns-in-Ended-clause-kept
returns-in-Ended-clause-kept c =
    let image = c.args.image.now in
    let is : (next_event image c.accesses.hart).at ≡ stop.Ended = sym c.advance-arrived.ensures.at ∙ (sym c.at.ensures.at ∙ c.in-Ended.is) in
    stored_before image (piece_in c.args.pieces image) c.args.epoch c.accesses.memory c.accesses.hart c.accesses.noted.list.items c.accesses.invariant.storing c.requires.run.within
    (runs_in_order image c.args.epoch c.args.memory.now c.requires.before) (rw is tt)

pub returns-in-Ended-clause-goes_on : goal.returns-in-Ended-clause-goes_on
returns-in-Ended-clause-goes_on c goes =
    let image = c.args.image.now in
    let is : (next_event image c.accesses.hart).at ≡ stop.Ended = sym c.advance-arrived.ensures.at ∙ (sym c.at.ensures.at ∙ c.in-Ended.is) in
    let exit : c.exits.result ≡ exits image (next_event image c.accesses.hart).now = c.exits.ensures ∙ ap (exits image) (c.now.ensures ∙ c.advance-arrived.ensures.now) in
    ends_so image c.args.epoch (memory_before image c.args.epoch) c.accesses.memory c.accesses.hart
    (on_path image (piece_in c.args.pieces image) c.args.epoch c.accesses.memory c.accesses.hart c.accesses.noted.list.items c.accesses.invariant.storing)
    (done_before image c.args.epoch c.args.memory.now c.requires.before) is (sym exit ∙ not-true c.exits.result goes)

pub returns-in-Ended-clause-ends : goal.returns-in-Ended-clause-ends
returns-in-Ended-clause-ends c ends order =
    let image = c.args.image.now in
    let is : (next_event image c.accesses.hart).at ≡ stop.Ended = sym c.advance-arrived.ensures.at ∙ (sym c.at.ensures.at ∙ c.in-Ended.is) in
    let exit : c.exits.result ≡ exits image (next_event image c.accesses.hart).now = c.exits.ensures ∙ ap (exits image) (c.now.ensures ∙ c.advance-arrived.ensures.now) in
    no_exit image c.args.epoch (memory_before image c.args.epoch) c.accesses.memory c.accesses.hart
    (on_path image (piece_in c.args.pieces image) c.args.epoch c.accesses.memory c.accesses.hart c.accesses.noted.list.items c.accesses.invariant.storing)
    (done_before image c.args.epoch c.args.memory.now c.requires.before) is (sym exit ∙ not-false c.exits.result ends) order

pub returns-in-Fault-clause-kept : goal.returns-in-Fault-clause-kept
returns-in-Fault-clause-kept c =
    let image = c.args.image.now in
    let is : (next_event image c.accesses.hart).at ≡ stop.Fault c.in-Fault.cause c.in-Fault.pc = sym c.advance-arrived.ensures.at ∙ (sym c.at.ensures.at ∙ c.in-Fault.is) in
    stored_before image (piece_in c.args.pieces image) c.args.epoch c.accesses.memory c.accesses.hart c.accesses.noted.list.items c.accesses.invariant.storing c.requires.run.within
    (runs_in_order image c.args.epoch c.args.memory.now c.requires.before) (rw is tt)

pub returns-in-Fault-clause-ends : goal.returns-in-Fault-clause-ends
returns-in-Fault-clause-ends c ends order =
    let image = c.args.image.now in
    let is : (next_event image c.accesses.hart).at ≡ stop.Fault c.in-Fault.cause c.in-Fault.pc = sym c.advance-arrived.ensures.at ∙ (sym c.at.ensures.at ∙ c.in-Fault.is) in
    no_fault image c.args.epoch (memory_before image c.args.epoch) c.accesses.memory c.accesses.hart
    (on_path image (piece_in c.args.pieces image) c.args.epoch c.accesses.memory c.accesses.hart c.accesses.noted.list.items c.accesses.invariant.storing)
    (done_before image c.args.epoch c.args.memory.now c.requires.before) c.in-Fault.cause c.in-Fault.pc is order
