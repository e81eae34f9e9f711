use Rattle.std.proofs.Common.{◌≡◌, ◌≤◌, ◌*◌, take}
use Rattle.conflict_findings.specs.Tallies.{done_running}
use Rattle.conflict_findings.proofs.tally.tally_running.Given as goal

-- those so far
abbrev pub invariant-loop-attempt : goal.invariant-loop-attempt
invariant-loop-attempt l = record {
  fits : l.done ≤ 18446744073709551615 * l.attempt-index;
  summed : l.done ≡ done_running (take l.attempt-index l.running);
}
