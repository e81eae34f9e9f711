use Rattle.std.proofs.Common.{◌≡◌, ◌≤◌, ℕ, false}
use Rattle.run_ledger.specs.declared.counts.Counts.{Counts}
use Rattle.violations.specs.CoreSet.{is_in}
use Rattle.homefree.specs.Kept.{running_at}
use Rattle.homefree.specs.Steps.{Steps}
use Rattle.homefree.specs.Noted.{hurts_noted}
use Rattle.homefree.proofs.register.Register.hurt_all.Given as goal

abbrev pub invariant-loop-k : goal.invariant-loop-k
invariant-loop-k l = record {
  steps : (shares : Counts) → Steps l.fn.self l.self shares shares (hurts_noted l.by (is_in l.hurt) l.fn.self.running.items l.k);
  rest : (j : ℕ) → l.k ≤ j → running_at l.self.running.items j ≡ running_at l.fn.self.running.items j;
  spared : (j : ℕ) → is_in l.hurt j ≡ false → running_at l.self.running.items j ≡ running_at l.fn.self.running.items j;
}
