-- What the code keeps of a violation, and the violation that it stands for.
use Rattle.std.specs.Prelude.{Bool, true, false}
use Rattle.spec_history.specs.declared.entry.What.{What}
use Rattle.spec_history.specs.declared.entry.What.TheVariants.{Store}
use Rattle.spec_history.specs.View.{FlatView}
use Rattle.conflicts.specs.declared.blame.Violated.{Violated}
use Rattle.spec_history.specs.declared.kind.Kind.{Kind}
use Rattle.spec_history.specs.declared.kind.Kind.TheVariants.{FalseSharing}
use Rattle.conflicts.specs.Blame.{Violation}
use Rattle.conflicts.specs.Parties.{meeting_in}

abbrev pub violation_in : FlatView → Violated → Violation
violation_in flat v = record {
  place = v.place;
  causer = v.parties.causer;
  victim = v.parties.victim;
  cause = v.cause;
  what = v.parties.cause;
  kind = v.kind;
  bytes = meeting_in flat v.parties;
}

abbrev pub is_store : What → Bool
is_store (Store address width value) = true
is_store what = false

-- the same store is to blame for all bytes that go together: the cause, or that to the lowest written byte of their line
abbrev pub has_one_store : Kind → What → Bool
has_one_store FalseSharing what = true
has_one_store kind what = is_store what
