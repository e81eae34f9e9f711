use Rattle.std.proofs.Common.{rules, ◌≡◌, ◌<◌, length, true, false, Some, option_map, refl, sym, ap, ◌∙◌, arith, slice_index}
use Rattle.rv32_exec.specs.Hart.{stepped}
use Rattle.rv32_exec.specs.NextEvent.{next_event}
use Rattle.memory_bytes.specs.Maps.{over, stored}
use Rattle.memory_bytes.proofs.Bytes.{length-with_number, with_number_bytes}
use Rattle.memory_bytes.specs.Bytes.{with_number}
use Rattle.spec_history.specs.declared.entry.What.TheVariants.{Store}
use Rattle.spec_history.specs.Effect.{after_store}
use Rattle.spec_history.specs.Cores.{published_by}
use Rattle.spec_history.specs.Machine.{state_of}
use Rattle.spec_history.proofs.OneEntry.Legal.{that_store, next_in_memory}
use Rattle.spec_history.proofs.CodedCores.Parts.{whole_items}
use Rattle.spec_history.proofs.CodedCores.Performed.{finds, finds_core, event_now, event_at, published_now, published_still, stores, becomes}
use Rattle.spec_history.proofs.Replay.Replays.{on_core}
use Rattle.spec_history.proofs.machine.Machine.store.Goals as goal

pub index_mut-core-requires : goal.index_mut-core-requires
index_mut-core-requires c =
    let found = finds c.args.self.now c.args.by (Store c.args.addr c.args.width c.args.value) tt c.requires.legal in
    let below : c.args.by < length c.args.self.now.cores.items = found.below in search rules

pub store-requires-clause-at : goal.store-requires-clause-at
store-requires-clause-at c = λ t is.
    let m = c.args.self.now in
    let f = finds_core c.args.self.now c.args.by (Store c.args.addr c.args.width c.args.value) c.index_mut-core.result.now tt c.requires.fit c.requires.legal c.index_mut-core.ensures.value in
    let at = event_at m c.args.by (Store c.args.addr c.args.width c.args.value) c.index_mut-core.result.now f t is in
    let next = that_store c.args.addr c.args.width c.args.value _ (on_core ((state_of m).cores c.args.by) f.found.state _ f.found.runs f.found.legal.next) in
    rw (at ∙ next) tt

pub store-requires-clause-small : goal.store-requires-clause-small
store-requires-clause-small c =
    let m = c.args.self.now in
    let found = finds m c.args.by (Store c.args.addr c.args.width c.args.value) tt c.requires.legal in
    let memory = next_in_memory m.image (state_of m) c.args.by (Store c.args.addr c.args.width c.args.value) found.legal.next in
    omega (arith, memory.1, c.requires.fit.image.size_most)

pub store-requires-clause-room : goal.store-requires-clause-room
store-requires-clause-room c =
    let f = finds_core c.args.self.now c.args.by (Store c.args.addr c.args.width c.args.value) c.index_mut-core.result.now tt c.requires.fit c.requires.legal c.index_mut-core.ensures.value in
    c.requires.room.room c.index_mut-core.result.now f.there

pub write_number-requires-clause-width : goal.write_number-requires-clause-width
write_number-requires-clause-width c =
    let m = c.args.self.now in
    let found = finds m c.args.by (Store c.args.addr c.args.width c.args.value) tt c.requires.legal in
    (next_in_memory m.image (state_of m) c.args.by (Store c.args.addr c.args.width c.args.value) found.legal.next).0

pub write_number-requires-clause-within : goal.write_number-requires-clause-within
write_number-requires-clause-within c =
    let m = c.args.self.now in
    let found = finds m c.args.by (Store c.args.addr c.args.width c.args.value) tt c.requires.legal in
    let memory = next_in_memory m.image (state_of m) c.args.by (Store c.args.addr c.args.width c.args.value) found.legal.next in
    omega (arith, memory.1, c.requires.fit.committed, ap length c.deref_mut.ensures.value)

pub returns-in-Some : goal.returns-in-Some
returns-in-Some c =
    let m = c.args.self.now in
    let f = finds_core c.args.self.now c.args.by (Store c.args.addr c.args.width c.args.value) c.index_mut-core.result.now tt c.requires.fit c.requires.legal c.index_mut-core.ensures.value in
    let t = f.attempt in
    let hart = stepped t.next.now in
    let now = event_now m c.args.by (Store c.args.addr c.args.width c.args.value) c.index_mut-core.result.now f t f.attempted in
    let is : hart ≡ stepped (next_event m.image f.found.state.hart).now = ap stepped now in
    let new = after_store c.args.addr c.args.width c.args.value hart f.found.state in
    let core = c.store.ensures.core t f.attempted ∙ ap (option_map (after_store c.args.addr c.args.width c.args.value hart)) f.runs in
    let published = published_now f.found.state.straight hart.done c.in-Some.done m.published (c.in-Some.ensures ∙ ap published_by core) in
    let old = m.committed.items in
    let xs = c.write_number.new.bytes in
    let memory = next_in_memory m.image (state_of m) c.args.by (Store c.args.addr c.args.width c.args.value) f.found.legal.next in
    let written : xs ≡ with_number old c.args.addr c.args.width c.args.value =
    c.write_number.ensures ∙ ap (λ bytes. with_number bytes c.args.addr c.args.width c.args.value) c.deref_mut.ensures.value in
    let long : length xs ≡ length old = ap length written ∙ length-with_number old c.args.addr c.args.width c.args.value in
    let count : m.committed.len ≡ length old = search rules in
    let items = whole_items old xs m.committed.len count long in
    becomes m _ c.args.by (Store c.args.addr c.args.width c.args.value) c.store.new.self (Some new) (over (stored c.args.addr c.args.width c.args.value) (state_of m).committed) c.requires.fit f.found.below refl refl
    (ap length items ∙ long) (c.store.ensures.fit f.fit) core
    (λ a. ap (λ bytes. slice_index bytes a) (items ∙ written)
    ∙ with_number_bytes old c.args.addr c.args.width c.args.value (omega (arith, memory.1, c.requires.fit.committed)) a)
    (stores m c.args.by c.args.addr c.args.width c.args.value c.in-Some.done f.found.state hart true f.found.runs is published.1 published.0)

pub returns-in_default : goal.returns-in_default
returns-in_default c =
    let m = c.args.self.now in
    let f = finds_core c.args.self.now c.args.by (Store c.args.addr c.args.width c.args.value) c.index_mut-core.result.now tt c.requires.fit c.requires.legal c.index_mut-core.ensures.value in
    let t = f.attempt in
    let hart = stepped t.next.now in
    let now = event_now m c.args.by (Store c.args.addr c.args.width c.args.value) c.index_mut-core.result.now f t f.attempted in
    let is : hart ≡ stepped (next_event m.image f.found.state.hart).now = ap stepped now in
    let new = after_store c.args.addr c.args.width c.args.value hart f.found.state in
    let core = c.store.ensures.core t f.attempted ∙ ap (option_map (after_store c.args.addr c.args.width c.args.value hart)) f.runs in
    let published = published_still f.found.state.straight hart.done m.published (sym c.in_default.is ∙ (c.published.ensures ∙ ap published_by core)) in
    becomes m _ c.args.by (Store c.args.addr c.args.width c.args.value) c.store.new.self (Some new) (state_of m).committed c.requires.fit f.found.below refl refl
    refl (c.store.ensures.fit f.fit) core (λ a. refl)
    (stores m c.args.by c.args.addr c.args.width c.args.value m.published f.found.state hart false f.found.runs is published.1 published.0)
