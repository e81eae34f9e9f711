use Rattle.conflict_text.specs.Gathered.{IsGathered}
use Rattle.conflict_text.proofs.finding.Gathering.replay.Given as goal

-- what is gathered of the entries so far
abbrev pub invariant-loop-place : goal.invariant-loop-place
invariant-loop-place l = IsGathered l.all l.sited.image.now l.cores l.sited.entries.now l.sited.sites.now l.place l.self
