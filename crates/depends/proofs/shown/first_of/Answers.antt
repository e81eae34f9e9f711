use Rattle.std.proofs.Common.{◌≡◌, List, Some, None, slice_get, ◌∙◌, ap, subst}
use Rattle.std.proofs.lemmas.Option.{get_or_from_slice_get, slice_get_within}
use Rattle.std.proofs.lemmas.List.Elements.{All-get_or}
use Rattle.conflicts.specs.declared.explanation.Explanation.{Explanation}
use Rattle.conflicts.specs.Explained.{IsExplained}
use Rattle.depends.specs.Shown.{IsFirst, shown_by}
use Rattle.depends.proofs.Violations.{none_first}
use Rattle.depends.proofs.shown.first_of.Goals as goal

pub returns-in-Some-clause-is : goal.returns-in-Some-clause-is
returns-in-Some-clause-is c =
    let e = c.in-Some.explanation in
    let all = c.in-Ok.explanations.items in
    let there : slice_get all 0 ≡ Some e =
    subst (λ (xs : List Explanation). slice_get xs 0 ≡ Some e) c.as_slice.ensures.value (c.first_explanation.ensures ∙ c.in-Some.is) in
    record {
      explanation = e;
      explained = subst (IsExplained c.args.image.now c.args.cores c.args.history.now) (get_or_from_slice_get all 0 e e there)
          (All-get_or (IsExplained c.args.image.now c.args.cores c.args.history.now) all 0 e (slice_get_within all 0 e there) c.in-Ok.ensures.explained);
      says = c.shown_by.ensures ∙ ap (λ s. shown_by s e) (c.as_slice-in-Some.ensures.value ∙ c.in-Ok.ensures.each_site);
    }

pub returns-clause-some : goal.returns-clause-some
returns-clause-some c = λ v.
    absurd (none_first c.args.history.now c.in-Ok.explanations.items c.in-Ok.ensures.each_once v
    (subst (λ (xs : List Explanation). IsFirst xs None) c.as_slice.ensures.value c.in-None.ensures))
