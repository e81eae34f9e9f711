use Rattle.std.proofs.Common.{◌++◌, ◌∷◌, [], ◌∙◌, List, Option, ap, option_map, option_to_list, subst, sym}
use Rattle.std.proofs.lemmas.List.{append-nil}
use Rattle.rv32_image.specs.Image.{LoadedImage}
use Rattle.conflicts.specs.declared.explanation.Explanation.{Explanation}
use Rattle.conflict_findings.specs.declared.rollback.Rollback.{Rollback}
use Rattle.conflict_findings.specs.AllSums.{AreAllSums}
use Rattle.conflict_findings.specs.Rollbacks.{rollback_at, rollback_of}
use Rattle.conflict_text.proofs.finding.Findings.keep.Goals as goal

pub add-requires : goal.add-requires
add-requires c = c.requires.summed

pub returns-in_default-clause-summed : goal.returns-in_default-clause-summed
returns-in_default-clause-summed c rs was =
    subst (λ (e : Option Explanation). AreAllSums (rs ++ option_to_list (option_map (rollback_at c.args.scene.now.flat.now.image c.args.scene.now.entries.now c.args.sites.now) e)) c.args.self.now.sums) (sym c.in_default.is)
    (subst (λ (xs : List Rollback). AreAllSums xs c.args.self.now.sums) (sym (append-nil rs)) was)

pub returns-clause-summed : goal.returns-clause-summed
returns-clause-summed c rs was =
    subst (λ (e : Option Explanation). AreAllSums (rs ++ option_to_list (option_map (rollback_at c.args.scene.now.flat.now.image c.args.scene.now.entries.now c.args.sites.now) e)) c.add.new.self) (sym c.in-Some.is)
    (subst (λ (r : Rollback). AreAllSums (rs ++ r ∷ []) c.add.new.self) (c.rollback-rollback.ensures ∙ (ap rollback_of c.finding_of-found.ensures.found
    ∙ ap (λ (i : LoadedImage). rollback_at i c.args.scene.now.entries.now c.args.sites.now c.in-Some.e) c.image-image.ensures)) (c.in_ok-add.ensures rs was))
