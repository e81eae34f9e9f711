use Rattle.std.proofs.Common.{◌<◌, length, refl, rules}
use Rattle.violations.proofs.Changing.{state_there, same_set, within_set, reserving_start, reserving_more, reserving_end}
use Rattle.violations.proofs.core_states.reserve.Goals as goal

pub loop-k-init : goal.loop-k-init
loop-k-init c = reserving_start c.args.size c.args.accesses c.args.states.now.items c.requires.within

pub reserve-requires-clause-within : goal.reserve-requires-clause-within
reserve-requires-clause-within c =
    let xs = c.loop-k.states.items in
    let below : c.loop-k.k < length xs = search rules in
    c.loop-k.invariant.within.each c.loop-k.k c.index_mut-state.result.now (state_there xs xs c.loop-k.k c.index_mut-state.result.now refl below c.index_mut-state.ensures.value)

pub returns-in_err-reserve-clause-same : goal.returns-in_err-reserve-clause-same
returns-in_err-reserve-clause-same c =
    let xs = c.loop-k.states.items in
    let below : c.loop-k.k < length xs = search rules in
    let there = state_there xs xs c.loop-k.k c.index_mut-state.result.now refl below c.index_mut-state.ensures.value in
    same_set c.args.states.now.items xs c.loop-k.k c.index_mut-state.result.now c.reserve.new.self below there c.reserve.ensures.same c.loop-k.invariant.same

pub returns-in_err-reserve-clause-within : goal.returns-in_err-reserve-clause-within
returns-in_err-reserve-clause-within c =
    let xs = c.loop-k.states.items in
    let below : c.loop-k.k < length xs = search rules in
    within_set c.args.size xs c.loop-k.k c.reserve.new.self below c.reserve.ensures.within c.loop-k.invariant.within

pub loop-k-preserved : goal.loop-k-preserved
loop-k-preserved c =
    let xs = c.loop-k.states.items in
    let below : c.loop-k.k < length xs = search rules in
    let there = state_there xs xs c.loop-k.k c.index_mut-state.result.now refl below c.index_mut-state.ensures.value in
    reserving_more c.args.size c.args.accesses c.args.states.now.items xs c.loop-k.k c.index_mut-state.result.now c.reserve.new.self below there c.reserve.ensures.same c.reserve.ensures.within
    c.in_ok-reserve.ensures.room c.loop-k.invariant

pub returns-clause-room : goal.returns-clause-room
returns-clause-room c = reserving_end c.args.size c.args.accesses c.args.states.now.items c.loop-k.states.items c.loop-k.k (search rules) c.loop-k.invariant
