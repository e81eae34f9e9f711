use Rattle.std.proofs.Common.{arith}
use Rattle.turn_steps.specs.Stepped.{attempt_in}
use Rattle.turn_steps.proofs.Attempts.{all_attempts, next_attempts, no_others}
use Rattle.turn_steps.proofs.stepping.attempts_of.Goals as goal

pub loop-core-preserved : goal.loop-core-preserved
loop-core-preserved g c =
    let old = attempt_in c.loop-core.attempts in
    let new = attempt_in c.set_attempt.new.attempts in
    let v = (g.S.EpochStore.view c.args.store.now).attempt in record {
      done = next_attempts old new v c.loop-core.core c.attempt_of.result c.set_attempt.ensures c.attempt_of.ensures c.loop-core.invariant.done;
      rest = no_others old new v c.loop-core.core c.attempt_of.result c.set_attempt.ensures c.loop-core.invariant.rest;
    }

pub returns : goal.returns
returns g c =
    all_attempts (g.S.EpochStore.view c.args.store.now) (attempt_in c.loop-core.attempts) c.args.cores c.look.ensures c.requires.cores
    (λ k below. c.loop-core.invariant.done k (omega (arith, below, c.loop-core-test.false)))
    (λ k past. c.loop-core.invariant.rest k (omega (arith, past, c.loop-core.auto.core-end)))
