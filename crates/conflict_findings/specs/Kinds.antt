-- Violations by their kind: what they cost, and how many of a part are of each.
use Rattle.std.specs.Prelude.{ℕ, List, filter}
use Rattle.std.specs.BTreeMap.{BTreeMap, get}
use Rattle.std.specs.Ordering.{nat_cmp}
use Rattle.spec_history.specs.declared.kind.Kind.{Kind}
use Rattle.spec_history.specs.declared.kind.Kind.TheVariants.{TrueSharing, SilentStore, FalseSharing, FullBuffer, Unexplained}
use Rattle.conflict_findings.specs.declared.kinds.CountsByKind.{CountsByKind}
use Rattle.conflict_findings.specs.declared.kinds.LinesByKind.{LinesByKind}
use Rattle.conflict_findings.specs.declared.kinds.SumsByKind.{SumsByKind}
use Rattle.conflict_findings.specs.declared.keys.Key.TheVariants.{Line}
use Rattle.conflict_findings.specs.declared.part.Part.{Part}
use Rattle.conflict_findings.specs.declared.part.Part.TheVariants.{OfKind}
use Rattle.conflict_findings.specs.declared.rollback.Rollback.{Rollback}
use Rattle.conflict_findings.specs.declared.sum.Sum.{Sum}
use Rattle.conflict_findings.specs.Keys.{AreSumsBy, sum_or}
use Rattle.conflict_findings.specs.Parts.{belongs}
use Rattle.conflict_findings.specs.Sums.{count_in, sum_in}

-- what those of each kind cost
abbrev pub sums_in : List Rollback → SumsByKind
sums_in rollbacks = record {
  true_sharing = sum_in (OfKind TrueSharing) rollbacks;
  silent_store = sum_in (OfKind SilentStore) rollbacks;
  false_sharing = sum_in (OfKind FalseSharing) rollbacks;
  full_buffer = sum_in (OfKind FullBuffer) rollbacks;
  unexplained = sum_in (OfKind Unexplained) rollbacks;
}

-- the violations of a kind
abbrev pub of_kind : Kind → List Rollback → List Rollback
of_kind kind rollbacks = filter (belongs (OfKind kind)) rollbacks

-- how many violations of a part are of each kind
abbrev pub counts_in : Part → List Rollback → CountsByKind
counts_in part rollbacks = record {
  true_sharing = count_in part (of_kind TrueSharing rollbacks);
  silent_store = count_in part (of_kind SilentStore rollbacks);
  false_sharing = count_in part (of_kind FalseSharing rollbacks);
  full_buffer = count_in part (of_kind FullBuffer rollbacks);
}

-- for each line, what those of each kind cost
pub record AreLines (rollbacks : List Rollback) (lines : LinesByKind) : Type 0 where
  pub true_sharing_are : AreSumsBy Line (of_kind TrueSharing rollbacks) lines.true_sharing
  pub silent_store_are : AreSumsBy Line (of_kind SilentStore rollbacks) lines.silent_store
  pub false_sharing_are : AreSumsBy Line (of_kind FalseSharing rollbacks) lines.false_sharing
  pub full_buffer_are : AreSumsBy Line (of_kind FullBuffer rollbacks) lines.full_buffer

-- how many there are at a number
abbrev pub count_at : BTreeMap ℕ Sum → ℕ → ℕ
count_at sums at = (sum_or (get nat_cmp sums at)).count

abbrev pub counts_at : LinesByKind → ℕ → CountsByKind
counts_at lines at = record {
  true_sharing = count_at lines.true_sharing at;
  silent_store = count_at lines.silent_store at;
  false_sharing = count_at lines.false_sharing at;
  full_buffer = count_at lines.full_buffer at;
}
