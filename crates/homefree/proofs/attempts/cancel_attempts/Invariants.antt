use Rattle.std.proofs.Common.{◌≡◌}
use Rattle.violations.specs.Calls.{Leads}
use Rattle.homefree.specs.Moves.{cancel_calls}
use Rattle.homefree.proofs.Cases.Cancelling.{CancelsBelow}
use Rattle.homefree.proofs.attempts.cancel_attempts.Given as goal

abbrev pub invariant-loop-k : goal.invariant-loop-k
invariant-loop-k g l = record {
  below : CancelsBelow (g.S.EpochStore.view l.fn.store) (g.S.EpochStore.view l.store) l.by l.k;
  moves : Leads g.S.EpochStore.makes (cancel_calls l.k l.by (g.S.EpochStore.view l.fn.store)) l.fn.store l.store;
  budget : g.S.EpochStore.budget l.store ≡ g.S.EpochStore.budget l.fn.store;
}
