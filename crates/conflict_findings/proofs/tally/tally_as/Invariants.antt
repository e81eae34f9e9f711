use Rattle.std.proofs.Common.{◌≡◌, ◌≤◌, ◌*◌, take}
use Rattle.conflict_findings.specs.Tallies.{count_in, done_in}
use Rattle.conflict_findings.proofs.tally.tally_as.Given as goal

-- those so far
abbrev pub invariant-loop-attempt : goal.invariant-loop-attempt
invariant-loop-attempt l = record {
  few : l.count ≤ l.attempt-index;
  fits : l.done ≤ 18446744073709551615 * l.attempt-index;
  counted : l.count ≡ count_in l.ending (take l.attempt-index l.ended);
  summed : l.done ≡ done_in l.ending (take l.attempt-index l.ended);
}
