use Rattle.std.proofs.Common.{◌≡◌, ◌≤◌, ℕ}
use Rattle.run_ledger.specs.declared.counts.Counts.{Counts}
use Rattle.homefree.specs.Kept.{running_at}
use Rattle.homefree.specs.Steps.{Steps}
use Rattle.homefree.specs.Noted.{cancels_noted}
use Rattle.homefree.proofs.register.Register.cancel_all.Given as goal

abbrev pub invariant-loop-k : goal.invariant-loop-k
invariant-loop-k l = record {
  steps : (shares : Counts) → Steps l.fn.self l.self shares shares (cancels_noted l.by l.fn.self.running.items l.k);
  rest : (j : ℕ) → l.k ≤ j → running_at l.self.running.items j ≡ running_at l.fn.self.running.items j;
  own : running_at l.self.running.items l.by ≡ running_at l.fn.self.running.items l.by;
}
