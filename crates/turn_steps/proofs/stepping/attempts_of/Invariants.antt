use Rattle.std.proofs.Common.{◌≡◌, ◌<◌, ◌≤◌, ℕ, None}
use Rattle.turn_steps.specs.Stepped.{attempt_in}
use Rattle.turn_steps.proofs.stepping.attempts_of.Given as goal

-- the cores so far, and nothing of the others
abbrev pub invariant-loop-core : goal.invariant-loop-core
invariant-loop-core g l = record {
  done : (k : ℕ) → k < l.core → attempt_in l.attempts k ≡ (g.S.EpochStore.view l.store).attempt k;
  rest : (k : ℕ) → l.core ≤ k → attempt_in l.attempts k ≡ None;
}
