-- The lines of a kind, with one violation more.
use Rattle.std.proofs.Common.{◌≡◌, ℕ, true, false, List, [], ◌∷◌, ◌++◌, sym, ap, subst, ◌∙◌}
use Rattle.std.specs.BTreeMap.{BTreeMap}
use Rattle.spec_history.specs.declared.kind.Kind.{Kind}
use Rattle.conflict_findings.specs.declared.keys.Key.TheVariants.{Line}
use Rattle.conflict_findings.specs.declared.part.Part.TheVariants.{OfKind}
use Rattle.conflict_findings.specs.declared.rollback.Rollback.{Rollback}
use Rattle.conflict_findings.specs.declared.sum.Sum.{Sum}
use Rattle.conflict_findings.specs.Keys.{AreSumsBy}
use Rattle.conflict_findings.specs.Kinds.{of_kind}
use Rattle.conflict_findings.specs.Parts.{belongs, is_kind}
use Rattle.conflict_findings.proofs.Pushing.{filter_no, filter_yes}

-- it is of another kind
pub kept_kind : (kind : Kind) (rs : List Rollback) (r : Rollback) (other : Kind) → r.kind ≡ other → is_kind other kind ≡ false → (sums : BTreeMap ℕ Sum)
    → AreSumsBy Line (of_kind kind rs) sums → AreSumsBy Line (of_kind kind (rs ++ r ∷ [])) sums
kept_kind kind rs r other is apart sums was =
    subst (λ (xs : List Rollback). AreSumsBy Line xs sums) (sym (filter_no (belongs (OfKind kind)) rs r (ap (λ (k : Kind). is_kind k kind) is ∙ apart))) was

-- it is of this kind
pub more_kind : (kind : Kind) (rs : List Rollback) (r : Rollback) → is_kind r.kind kind ≡ true → (sums : BTreeMap ℕ Sum)
    → AreSumsBy Line (of_kind kind rs ++ r ∷ []) sums → AreSumsBy Line (of_kind kind (rs ++ r ∷ [])) sums
more_kind kind rs r is sums added = subst (λ (xs : List Rollback). AreSumsBy Line xs sums) (sym (filter_yes (belongs (OfKind kind)) rs r is)) added
