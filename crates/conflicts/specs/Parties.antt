-- What the code asks of bytes and lines, and what that means.
use Rattle.std.specs.Prelude.{ℕ, ◌==◌, ◌&&◌, not, Bool, is_some}
use Rattle.rv32_image.specs.Image.{LoadedImage}
use Rattle.spec_history.specs.View.{FlatView, state_in}
use Rattle.conflicts.specs.declared.meeting.Parties.{Parties}
use Rattle.conflicts.specs.declared.meeting.ByteTest.{ByteTest}
use Rattle.conflicts.specs.declared.meeting.ByteTest.TheVariants.{Changed, Shared, Beside}
use Rattle.conflicts.specs.declared.meeting.LineTest.{LineTest}
use Rattle.conflicts.specs.declared.meeting.LineTest.TheVariants.{Written, Read, Met, Stored}
use Rattle.spec_history.specs.Conflict.{Meeting, meeting, is_changed, is_shared, is_beside, holds_line}

-- the bytes that meet
abbrev pub meeting_in : FlatView → Parties → Meeting
meeting_in flat parties = meeting (state_in flat) parties.causer parties.cause parties.victim

abbrev pub passes : LoadedImage → Meeting → ByteTest → ℕ → Bool
passes image m Changed a = is_changed m a
passes image m Shared a = is_shared m a
passes image m Beside a = is_beside image m a

abbrev pub is_of : Meeting → LineTest → ℕ → Bool
is_of m Written a = is_some (m.writes a)
is_of m Read a = is_some (m.reads a)
is_of m Met a = is_shared m a
is_of m Stored a = is_some (m.stores a)

-- it is another line, and the victim has stored in it
abbrev pub holds_other : LoadedImage → Meeting → ℕ → ℕ → Bool
holds_other image m line other = not (other == line) && holds_line image m other
