use Rattle.std.proofs.Common.{ℕ, None}
use Rattle.run_ledger.specs.declared.counts.Counts.{Counts}
use Rattle.homefree.specs.Acted.{IfArrived}
use Rattle.core_threads.specs.declared.turns.LoopEnd.{LoopEnd}
use Rattle.core_threads.specs.Answered.{TakesTurns}
use Rattle.core_threads.specs.Passes.{IsLater, IsCounted, Knows}
use Rattle.core_threads.proofs.turns.core_loop.Given as goal

-- the pass is the one that came in, later, the shares are its counts, and what is in hand is where `advance` came to; the turns from here on
-- are, with those so far, turns from the start
abbrev pub invariant-loop : goal.invariant-loop
invariant-loop g l = IsLater l.initial.pass l.pass × IsCounted l.pass l.shares × IfArrived l.lock.fixed.image l.next
    × ((n : ℕ) (q : Knows) (shares : Counts) (end : LoopEnd)
    → TakesTurns g.S.EpochStore.makes g.S.EpochStore.view g.S.EpochStore.waits l.lock.fixed l.initial.pass.lo n l.pass l.shares l.next q shares end
    → (m : ℕ) × TakesTurns g.S.EpochStore.makes g.S.EpochStore.view g.S.EpochStore.waits l.lock.fixed l.initial.pass.lo m l.initial.pass l.initial.shares None q shares end)
