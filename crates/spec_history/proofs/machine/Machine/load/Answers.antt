use Rattle.std.proofs.Common.{rules, ◌≡◌, ◌<◌, length, Some, option_map, refl, sym, ap, ◌∙◌, arith, slice_index}
use Rattle.rv32_exec.specs.NextEvent.{next_event}
use Rattle.rv32_exec.specs.Arrival.{after_number, after_loading}
use Rattle.spec_history.specs.declared.entry.What.TheVariants.{Load}
use Rattle.spec_history.specs.Effect.{after_load}
use Rattle.spec_history.specs.Cores.{published_by}
use Rattle.spec_history.specs.Machine.{state_of}
use Rattle.spec_history.proofs.OneEntry.Legal.{that_load, next_in_memory}
use Rattle.spec_history.proofs.CodedCores.Performed.{finds, finds_core, event_now, event_at, published_now, published_still, loads, becomes}
use Rattle.spec_history.proofs.Replay.Replays.{on_core}
use Rattle.spec_history.proofs.machine.Machine.load.Goals as goal

pub index_mut-core-requires : goal.index_mut-core-requires
index_mut-core-requires c =
    let found = finds c.args.self.now c.args.by (Load c.args.addr c.args.width c.args.value) tt c.requires.legal in
    let below : c.args.by < length c.args.self.now.cores.items = found.below in search rules

pub load-requires-clause-at : goal.load-requires-clause-at
load-requires-clause-at c = λ t is.
    let m = c.args.self.now in
    let f = finds_core c.args.self.now c.args.by (Load c.args.addr c.args.width c.args.value) c.index_mut-core.result.now tt c.requires.fit c.requires.legal c.index_mut-core.ensures.value in
    let at = event_at m c.args.by (Load c.args.addr c.args.width c.args.value) c.index_mut-core.result.now f t is in
    let next = that_load c.args.addr c.args.width _ (on_core ((state_of m).cores c.args.by) f.found.state _ f.found.runs f.found.legal.next) in
    rw (at ∙ next.2) c.requires.number

pub load-requires-clause-small : goal.load-requires-clause-small
load-requires-clause-small c =
    let m = c.args.self.now in
    let found = finds m c.args.by (Load c.args.addr c.args.width c.args.value) tt c.requires.legal in
    let memory = next_in_memory m.image (state_of m) c.args.by (Load c.args.addr c.args.width c.args.value) found.legal.next in
    omega (arith, memory.1, c.requires.fit.image.size_most)

pub load-requires-clause-committed : goal.load-requires-clause-committed
load-requires-clause-committed c =
    let m = c.args.self.now in
    let found = finds m c.args.by (Load c.args.addr c.args.width c.args.value) tt c.requires.legal in
    let memory = next_in_memory m.image (state_of m) c.args.by (Load c.args.addr c.args.width c.args.value) found.legal.next in
    omega (arith, memory.1, c.requires.fit.committed, ap length c.as_slice.ensures.value)

pub load-requires-clause-room : goal.load-requires-clause-room
load-requires-clause-room c =
    let f = finds_core c.args.self.now c.args.by (Load c.args.addr c.args.width c.args.value) c.index_mut-core.result.now tt c.requires.fit c.requires.legal c.index_mut-core.ensures.value in
    c.requires.room.room c.index_mut-core.result.now f.there

pub returns-in-Some : goal.returns-in-Some
returns-in-Some c =
    let m = c.args.self.now in
    let f = finds_core c.args.self.now c.args.by (Load c.args.addr c.args.width c.args.value) c.index_mut-core.result.now tt c.requires.fit c.requires.legal c.index_mut-core.ensures.value in
    let t = f.attempt in
    let hart = after_loading t.next c.args.value in
    let at = event_at m c.args.by (Load c.args.addr c.args.width c.args.value) c.index_mut-core.result.now f t f.attempted in
    let now = event_now m c.args.by (Load c.args.addr c.args.width c.args.value) c.index_mut-core.result.now f t f.attempted in
    let is : hart ≡ after_number (next_event m.image f.found.state.hart).now (next_event m.image f.found.state.hart).at c.args.value =
    rw (at, now) refl in
    let bytes = ap (λ xs. λ a. slice_index xs a) c.as_slice.ensures.value in
    let new = after_load (state_of m).committed c.args.addr c.args.width hart f.found.state in
    let core = c.load.ensures.core t f.attempted ∙ (ap (option_map (after_load (λ a. slice_index c.as_slice.result.now a) c.args.addr c.args.width hart)) f.runs
    ∙ ap (λ memory. Some (after_load memory c.args.addr c.args.width hart f.found.state)) bytes) in
    let published = published_now f.found.state.straight hart.done c.in-Some.done m.published (c.in-Some.ensures ∙ ap published_by core) in
    becomes m _ c.args.by (Load c.args.addr c.args.width c.args.value) c.load.new.self (Some new) (state_of m).committed c.requires.fit f.found.below refl refl
    refl (c.load.ensures.fit f.fit) core (λ a. refl)
    (loads m c.args.by c.args.addr c.args.width c.args.value c.in-Some.done f.found.state hart f.found.runs is published.1)

pub returns-in_default : goal.returns-in_default
returns-in_default c =
    let m = c.args.self.now in
    let f = finds_core c.args.self.now c.args.by (Load c.args.addr c.args.width c.args.value) c.index_mut-core.result.now tt c.requires.fit c.requires.legal c.index_mut-core.ensures.value in
    let t = f.attempt in
    let hart = after_loading t.next c.args.value in
    let at = event_at m c.args.by (Load c.args.addr c.args.width c.args.value) c.index_mut-core.result.now f t f.attempted in
    let now = event_now m c.args.by (Load c.args.addr c.args.width c.args.value) c.index_mut-core.result.now f t f.attempted in
    let is : hart ≡ after_number (next_event m.image f.found.state.hart).now (next_event m.image f.found.state.hart).at c.args.value =
    rw (at, now) refl in
    let bytes = ap (λ xs. λ a. slice_index xs a) c.as_slice.ensures.value in
    let new = after_load (state_of m).committed c.args.addr c.args.width hart f.found.state in
    let core = c.load.ensures.core t f.attempted ∙ (ap (option_map (after_load (λ a. slice_index c.as_slice.result.now a) c.args.addr c.args.width hart)) f.runs
    ∙ ap (λ memory. Some (after_load memory c.args.addr c.args.width hart f.found.state)) bytes) in
    let published = published_still f.found.state.straight hart.done m.published (sym c.in_default.is ∙ (c.published.ensures ∙ ap published_by core)) in
    becomes m _ c.args.by (Load c.args.addr c.args.width c.args.value) c.load.new.self (Some new) (state_of m).committed c.requires.fit f.found.below refl refl
    refl (c.load.ensures.fit f.fit) core (λ a. refl)
    (loads m c.args.by c.args.addr c.args.width c.args.value m.published f.found.state hart f.found.runs is published.1)
