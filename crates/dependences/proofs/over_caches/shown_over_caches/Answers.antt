use Rattle.dependences.proofs.Nevers.{apart_on_fewer, never_lines_on_fewer}
use Rattle.dependences.proofs.Running.{run_begun}
use Rattle.dependences.proofs.over_caches.shown_over_caches.Goals as goal

pub run_over_caches-requires-clause-flow : goal.run_over_caches-requires-clause-flow
run_over_caches-requires-clause-flow c = run_begun _ c.args.image.now _ _ c.in_ok-both.ensures.flow c.in_ok-lengths.ensures.items

pub returns : goal.returns
returns c =
    let image = c.args.image.now in
    let limits = c.bytes.ensures.limits in
    let conflict = c.in_ok-conflict.ensures in
    let run = c.in_ok-run.ensures in
    record {
      sums = run.sums;
      lengths = run.lengths;
      nearest = run.nearest;
      later = run.later;
      found = conflict.found;
      none = conflict.none;
      apart = λ none. apart_on_fewer image c.args.cores limits (conflict.none none);
      never = λ none. never_lines_on_fewer image c.args.cores limits (conflict.none none);
    }
