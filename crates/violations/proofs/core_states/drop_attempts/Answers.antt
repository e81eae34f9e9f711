use Rattle.std.proofs.Common.{◌<◌, length, refl, sym, ◌∙◌, rules}
use Rattle.violations.specs.CoreSet.{is_in}
use Rattle.violations.proofs.Changing.{state_there, dropping_more, dropping_on, dropping_end}
use Rattle.violations.proofs.core_states.drop_attempts.Goals as goal
use Rattle.violations.proofs.core_states.drop_attempts.Goals.{then-has, else-has}

pub loop-k-preserved : goal.loop-k-preserved
loop-k-preserved c =
    let xs = c.loop-k.states.items in
    let below : c.loop-k.k < length xs = search rules in
    elim c.if-has.branch [
      | then-has w ↦
          let there = state_there xs xs c.loop-k.k w.index_mut-state.result.now refl below w.index_mut-state.ensures.value in
          rw w.states-is (dropping_more (is_in c.args.hurt) c.args.states.now.items xs c.loop-k.k w.index_mut-state.result.now w.drop_attempt.new.self below there
          (sym c.has.ensures ∙ w.if-has.true) w.drop_attempt.ensures.idle w.drop_attempt.ensures.within w.drop_attempt.ensures.room c.loop-k.invariant)
      | else-has w ↦ rw w.states-is (dropping_on (is_in c.args.hurt) c.args.states.now.items xs c.loop-k.k (sym c.has.ensures ∙ w.if-has.false) c.loop-k.invariant)
    ]

pub returns : goal.returns
returns c = dropping_end (is_in c.args.hurt) c.args.states.now.items c.loop-k.states.items c.loop-k.k (search rules) c.loop-k.invariant
