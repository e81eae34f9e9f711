use Rattle.conflict_findings.specs.Runs.{read_in}
use Rattle.conflict_findings.proofs.Loading.{IsEarliest}
use Rattle.conflict_findings.proofs.run.Told.first_in.Given as goal

-- the first of those so far
abbrev pub invariant-loop-addr : goal.invariant-loop-addr
invariant-loop-addr l = IsEarliest (read_in l.self.scene.flat.now.image l.self.scene.entries.now l.self.violated.parties.victim l.self.violated.place l.line) l.addr l.first
