use Rattle.std.proofs.Common.{◌≡◌, ℕ, List, Option, sym, ap, ◌∙◌, arith}
use Rattle.std.proofs.lemmas.Bool.{not-false, not-true}
use Rattle.rv32_image.specs.Image.{LoadedImage}
use Rattle.rv32_exec.specs.declared.stop.Stop.TheVariants as stop
use Rattle.rv32_exec.specs.Hart.{HartState, stepped}
use Rattle.rv32_exec.specs.Execute.{IsAccess, IsStore}
use Rattle.rv32_exec.specs.NextEvent.{next_event}
use Rattle.rv32_exec.specs.Arrival.{after_number}
use Rattle.rv32_exec.specs.Sequential.{exits}
use Rattle.rv32_exec.proofs.Accesses.{stop_of_event}
use Rattle.spec_history.proofs.OneEntry.Accesses.{load_counts}
use Rattle.dependences.specs.KeptRun.{Following}
use Rattle.epoch_paths.proofs.InOrder.{runs_in_order}
use Rattle.dependences.proofs.Following.{following_load, following_start, following_store, kept_after, writers_below}
use Rattle.epoch_paths.proofs.Outside.{OnPath, done_before, ends_so, no_exit, no_fault}
use Rattle.epoch_paths.specs.InOrder.{memory_before}
use Rattle.dependences.proofs.nearest.follow.Goals as goal

path : (image : LoadedImage) (epoch : ℕ) (memory writers : List ℕ) (h : HartState) (nearest : Option ℕ) → Following image epoch memory writers h nearest
    → OnPath image epoch (memory_before image epoch) memory h
path image epoch memory writers h nearest x = record { own = x.own; at = x.at; is = x.is }

pub accesses-init : goal.accesses-init
accesses-init c = record {
  following = rw c.start-hart.ensures
      (following_start c.args.image.now c.args.epoch c.args.memory.now c.args.writers.now c.args.nearest c.requires.run.size c.requires.before c.requires.kept);
  within = rw c.start-hart.ensures (omega arith);
}

pub nearer_of-nearest-requires-clause-earlier : goal.nearer_of-nearest-requires-clause-earlier
nearer_of-nearest-requires-clause-earlier c =
    rw c.of-at.ensures (writers_below c.args.image.now c.args.epoch c.accesses.memory c.accesses.writers c.accesses.hart c.accesses.nearest c.accesses.invariant.following)

pub accesses-preserved-in-Load : goal.accesses-preserved-in-Load
accesses-preserved-in-Load c =
    let image = c.args.image.now in
    let h = c.accesses.hart in
    let is : (next_event image h).at ≡ stop.Load c.in-Load.addr c.in-Load.width c.in-Load.signed c.in-Load.rd = sym c.advance-arrived.ensures.at ∙ (sym c.at.ensures.at ∙ c.in-Load.is) in
    let order = runs_in_order image c.args.epoch c.args.memory.now c.requires.before in
    let hart : c.loaded-hart.result ≡ after_number (next_event image h).now (next_event image h).at c.read_number.result =
    rw (c.advance-arrived.ensures.now, c.advance-arrived.ensures.at) at c.loaded-hart.ensures in
    let next = following_load image c.args.epoch c.accesses.memory c.accesses.writers h c.accesses.nearest c.accesses.invariant.following order c.requires.run.within
    c.in-Load.addr c.in-Load.width c.in-Load.signed c.in-Load.rd c.read_number.result is (sym c.read_number.ensures.number) in
    let access : IsAccess image (next_event image h).now c.in-Load.addr c.in-Load.width = rw is at (stop_of_event image h) in
    let room = access.room in
    let count = load_counts image h c.in-Load.addr c.in-Load.width c.in-Load.signed c.in-Load.rd c.read_number.result is in
    record { following = rw (hart, c.nearer_of-nearest.ensures, c.of-at.ensures) next; within = rw hart (omega (arith, count, room)) }

pub accesses-preserved : goal.accesses-preserved
accesses-preserved c =
    let image = c.args.image.now in
    let h = c.accesses.hart in
    let is : (next_event image h).at ≡ stop.Store c.in-Store.addr c.in-Store.width c.in-Store.value = sym c.advance-arrived.ensures.at ∙ (sym c.at.ensures.at ∙ c.in-Store.is) in
    let hart : c.stored-hart.result ≡ stepped (next_event image h).now = rw c.advance-arrived.ensures.now at c.stored-hart.ensures in
    let next = following_store image c.args.epoch c.accesses.memory c.accesses.writers h c.accesses.nearest c.accesses.invariant.following
    c.mark.new.writers c.in-Store.addr c.in-Store.width c.in-Store.value is c.mark.ensures.long (rw (c.note.ensures.note, c.of-at.ensures) at c.mark.ensures.marked) in
    let store : IsStore image (next_event image h).now c.in-Store.addr c.in-Store.width c.in-Store.value = rw is at (stop_of_event image h) in
    let room = store.access.room in
    record { following = rw (c.write_number.ensures, hart) next; within = rw hart (omega (arith, room)) }

pub returns-in-Ended-clause-kept : goal.returns-in-Ended-clause-kept
returns-in-Ended-clause-kept c =
    let image = c.args.image.now in
    let h = c.accesses.hart in
    let is : (next_event image h).at ≡ stop.Ended = sym c.advance-arrived.ensures.at ∙ (sym c.at.ensures.at ∙ c.in-Ended.is) in
    kept_after image c.args.epoch c.args.memory.now c.accesses.memory c.accesses.writers h c.accesses.nearest c.accesses.invariant.following c.requires.before c.requires.run.within
    (rw is tt)

pub returns-in-Ended-clause-goes_on : goal.returns-in-Ended-clause-goes_on
returns-in-Ended-clause-goes_on c goes =
    let image = c.args.image.now in
    let h = c.accesses.hart in
    let is : (next_event image h).at ≡ stop.Ended = sym c.advance-arrived.ensures.at ∙ (sym c.at.ensures.at ∙ c.in-Ended.is) in
    let exit : c.exits-goes_on.result ≡ exits image (next_event image h).now = c.exits-goes_on.ensures ∙ ap (exits image) (c.now.ensures ∙ c.advance-arrived.ensures.now) in
    ends_so image c.args.epoch (memory_before image c.args.epoch) c.accesses.memory h
    (path image c.args.epoch c.accesses.memory c.accesses.writers h c.accesses.nearest c.accesses.invariant.following)
    (done_before image c.args.epoch c.args.memory.now c.requires.before) is (sym exit ∙ not-true c.exits-goes_on.result goes)

pub returns-in-Ended-clause-ends : goal.returns-in-Ended-clause-ends
returns-in-Ended-clause-ends c ends order =
    let image = c.args.image.now in
    let h = c.accesses.hart in
    let is : (next_event image h).at ≡ stop.Ended = sym c.advance-arrived.ensures.at ∙ (sym c.at.ensures.at ∙ c.in-Ended.is) in
    let exit : c.exits-goes_on.result ≡ exits image (next_event image h).now = c.exits-goes_on.ensures ∙ ap (exits image) (c.now.ensures ∙ c.advance-arrived.ensures.now) in
    no_exit image c.args.epoch (memory_before image c.args.epoch) c.accesses.memory h
    (path image c.args.epoch c.accesses.memory c.accesses.writers h c.accesses.nearest c.accesses.invariant.following)
    (done_before image c.args.epoch c.args.memory.now c.requires.before) is (sym exit ∙ not-false c.exits-goes_on.result ends) order

pub returns-in-Fault-clause-ends : goal.returns-in-Fault-clause-ends
returns-in-Fault-clause-ends c ends order =
    let image = c.args.image.now in
    let h = c.accesses.hart in
    let is : (next_event image h).at ≡ stop.Fault c.in-Fault.cause c.in-Fault.pc = sym c.advance-arrived.ensures.at ∙ (sym c.at.ensures.at ∙ c.in-Fault.is) in
    no_fault image c.args.epoch (memory_before image c.args.epoch) c.accesses.memory h
    (path image c.args.epoch c.accesses.memory c.accesses.writers h c.accesses.nearest c.accesses.invariant.following)
    (done_before image c.args.epoch c.args.memory.now c.requires.before) c.in-Fault.cause c.in-Fault.pc is order

pub returns-in-Fault-clause-kept : goal.returns-in-Fault-clause-kept
returns-in-Fault-clause-kept c =
    let image = c.args.image.now in
    let h = c.accesses.hart in
    let is : (next_event image h).at ≡ stop.Fault c.in-Fault.cause c.in-Fault.pc = sym c.advance-arrived.ensures.at ∙ (sym c.at.ensures.at ∙ c.in-Fault.is) in
    kept_after image c.args.epoch c.args.memory.now c.accesses.memory c.accesses.writers h c.accesses.nearest c.accesses.invariant.following c.requires.before c.requires.run.within
    (rw is tt)
