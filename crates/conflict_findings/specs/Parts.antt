-- Parts of the violations of a history: those that have something in common.
use Rattle.std.specs.Prelude.{ℕ, ◌==◌, ◌&&◌, Bool, true, false, Option, Some, None, is_none}
use Rattle.spec_history.specs.declared.kind.Kind.{Kind}
use Rattle.spec_history.specs.declared.kind.Kind.TheVariants.{TrueSharing, SilentStore, FalseSharing, FullBuffer, Unexplained}
use Rattle.conflict_findings.specs.declared.part.Part.{Part}
use Rattle.conflict_findings.specs.declared.part.Part.TheVariants.{Whole, OfKind, OfPair, Unpaired, StoredAt, LoadedAt, OfLine, OfEpoch}
use Rattle.conflict_findings.specs.declared.rollback.Pair.{Pair}
use Rattle.conflict_findings.specs.declared.rollback.Rollback.{Rollback}

abbrev pub is_kind : Kind → Kind → Bool
is_kind TrueSharing TrueSharing = true
is_kind SilentStore SilentStore = true
is_kind FalseSharing FalseSharing = true
is_kind FullBuffer FullBuffer = true
is_kind Unexplained Unexplained = true
is_kind kind other = false

abbrev pub is_pair : Pair → Pair → Bool
is_pair pair other = (pair.store == other.store) && (pair.load == other.load)

abbrev pub has_pair : Option Pair → Pair → Bool
has_pair None wanted = false
has_pair (Some pair) wanted = is_pair pair wanted

abbrev pub has_store : Option Pair → ℕ → Bool
has_store None pc = false
has_store (Some pair) pc = pair.store == pc

abbrev pub has_load : Option Pair → ℕ → Bool
has_load None pc = false
has_load (Some pair) pc = pair.load == pc

abbrev pub has_line : Option ℕ → ℕ → Bool
has_line None wanted = false
has_line (Some line) wanted = line == wanted

-- a violation belongs to a part
abbrev pub belongs : Part → Rollback → Bool
belongs Whole r = true
belongs (OfKind kind) r = is_kind r.kind kind
belongs (OfPair pair) r = has_pair r.pair pair
belongs Unpaired r = is_none r.pair
belongs (StoredAt pc) r = has_store r.pair pc
belongs (LoadedAt pc) r = has_load r.pair pc
belongs (OfLine line) r = has_line r.line line
belongs (OfEpoch epoch) r = r.epoch == epoch
