use Rattle.std.proofs.Common.{rules, ◌∙◌}
use Rattle.core_threads.proofs.Results.{all_counted}
use Rattle.core_threads.proofs.run.run_cores.Goals as goal

pub outcome-requires-after_bounds : goal.outcome-requires-after_bounds
outcome-requires-after_bounds g c κs within =
    c.counts.ensures ∙ all_counted g.S.EpochStore.view c.run_threads-pass.result.pass c.close-book.result.0 c.in-Ok-open.lock.numbers c.run_threads-pass.result.shares (search rules) (search rules) (search rules)
    c.close-book.ensures.own c.run_threads-pass.result.counted c.look.ensures
