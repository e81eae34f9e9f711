-- How many violations of a line are of each kind, from the sums of lines.
use Rattle.std.proofs.Common.{◌≡◌, ℕ, zero, suc, List, refl, ap, ◌∙◌}
use Rattle.spec_history.specs.declared.kind.Kind.TheVariants.{TrueSharing, SilentStore, FalseSharing, FullBuffer}
use Rattle.conflict_findings.specs.declared.keys.Key.TheVariants.{Line}
use Rattle.conflict_findings.specs.declared.kinds.CountsByKind.{CountsByKind}
use Rattle.conflict_findings.specs.declared.kinds.LinesByKind.{LinesByKind}
use Rattle.conflict_findings.specs.declared.part.Part.TheVariants.{OfLine}
use Rattle.conflict_findings.specs.declared.rollback.Rollback.{Rollback}
use Rattle.conflict_findings.specs.declared.sum.Sum.{Sum}
use Rattle.conflict_findings.specs.Keys.{some_sum, sum_at, sum_or}
use Rattle.conflict_findings.specs.Kinds.{AreLines, count_at, counts_at, counts_in, of_kind}
use Rattle.conflict_findings.specs.Sums.{count_in, lost_in}
use Rattle.std.specs.BTreeMap.{BTreeMap, get}
use Rattle.std.specs.Ordering.{nat_cmp}

pub some_count : (n lost : ℕ) → (sum_or (some_sum n lost)).count ≡ n
some_count zero lost = refl
some_count (suc n) lost = refl

one_count : (sums : BTreeMap ℕ Sum) (rs : List Rollback) (at : ℕ) → get nat_cmp sums at ≡ sum_at Line rs at → count_at sums at ≡ count_in (OfLine at) rs
one_count sums rs at is = ap (λ o. (sum_or o).count) is ∙ some_count (count_in (OfLine at) rs) (lost_in (OfLine at) rs)

abbrev pub counts : ℕ → ℕ → ℕ → ℕ → CountsByKind
counts a b c d = record { true_sharing = a; silent_store = b; false_sharing = c; full_buffer = d }

pub same_counts : (a b c d a' b' c' d' : ℕ) → a ≡ a' → b ≡ b' → c ≡ c' → d ≡ d' → counts a b c d ≡ counts a' b' c' d'
same_counts a b c d a' b' c' d' one two three four = rw (one, two, three, four) refl

pub line_counts : (rs : List Rollback) (lines : LinesByKind) (at : ℕ) → AreLines rs lines → counts_at lines at ≡ counts_in (OfLine at) rs
line_counts rs lines at summed =
    same_counts _ _ _ _ _ _ _ _
    (one_count lines.true_sharing (of_kind TrueSharing rs) at (summed.true_sharing_are at))
    (one_count lines.silent_store (of_kind SilentStore rs) at (summed.silent_store_are at))
    (one_count lines.false_sharing (of_kind FalseSharing rs) at (summed.false_sharing_are at))
    (one_count lines.full_buffer (of_kind FullBuffer rs) at (summed.full_buffer_are at))
