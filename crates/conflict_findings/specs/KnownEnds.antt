-- Where attempts that violated others were over, as it is kept for each core, so that no end is searched for twice.
use Rattle.std.specs.Prelude.{◌≡◌, List, Option, All, IfSome}
use Rattle.spec_history.specs.declared.entry.Entry.{Entry}
use Rattle.conflicts.specs.Fates.{first_after, is_over}
use Rattle.conflict_findings.specs.declared.known_ends.KnownEnd.{KnownEnd}
use Rattle.conflict_findings.specs.declared.known_ends.KnownEnds.{KnownEnds}

-- the attempt of this runner that goes on after the place ends there
abbrev pub IsKnownEnd : List Entry → KnownEnd → Type 0
IsKnownEnd entries e = e.at ≡ first_after entries e.place (is_over e.runner)

-- all that are kept are right
abbrev pub AreKnownEnds : List Entry → KnownEnds → Type 0
AreKnownEnds entries known_ends = All (λ (slot : Option KnownEnd). IfSome slot (IsKnownEnd entries)) known_ends.slots
