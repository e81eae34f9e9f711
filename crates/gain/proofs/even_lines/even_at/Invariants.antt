use Rattle.std.proofs.Common.{ℕ, ◌+◌, ◌<◌, ◌≤◌, false}
use Rattle.all_schedules.specs.Made.{the_loop}
use Rattle.gain.specs.Evens.{Compares, costs_at}
use Rattle.gain.proofs.even_lines.even_at.Given as goal

-- it gains at none of the costs that were tried
abbrev pub invariant-loop-tried : goal.invariant-loop-tried
invariant-loop-tried g l = (j : ℕ) → 60 < j + l.tried → j ≤ 60
    → Compares g.S.EpochStore.starts g.S.EpochStore.makes g.S.EpochStore.view g.S.EpochStore.waits g.S.PricedStore.prices g.S.PricedStore.keeps l.asked.addresses.now (the_loop l.on) (costs_at l.asked.study.now j) false
