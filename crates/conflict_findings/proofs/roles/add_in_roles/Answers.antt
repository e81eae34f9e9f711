use Rattle.std.proofs.Common.{◌∙◌, ◌++◌, ◌∷◌, [], subst, sym}
use Rattle.conflict_findings.specs.declared.keys.Key.TheVariants.{Load}
use Rattle.conflict_findings.specs.declared.rollback.Rollback.{Rollback}
use Rattle.conflict_findings.specs.Keys.{AreSumsBy}
use Rattle.conflict_findings.specs.Roles.{in_both_roles}
use Rattle.conflict_findings.specs.Sums.{HasRoom}
use Rattle.conflict_findings.proofs.BothRoles.{first_room, roles_more}
use Rattle.conflict_findings.proofs.roles.add_in_roles.Goals as goal

pub add_by-requires : goal.add_by-requires
add_by-requires c = (in_both_roles c.requires.0, c.requires.1, first_room (in_both_roles c.requires.0) c.args.rollback.now c.args.rollback.now.lost c.requires.2)

pub add_by-requires-2 : goal.add_by-requires-2
add_by-requires-2 c = (
  in_both_roles c.requires.0 ++ c.args.rollback.now ∷ [],
  c.in_ok-add_by.ensures (in_both_roles c.requires.0) c.requires.1,
  subst (λ (r : Rollback). HasRoom (in_both_roles c.requires.0 ++ c.args.rollback.now ∷ []) r.lost) (sym c.swapped.ensures) c.requires.2,
)

pub returns : goal.returns
returns c rs was at =
    subst (λ (r : Rollback). AreSumsBy Load ((in_both_roles rs ++ c.args.rollback.now ∷ []) ++ r ∷ []) c.add_by-2.new.sums) c.swapped.ensures
    (c.in_ok-add_by-2.ensures (in_both_roles rs ++ c.args.rollback.now ∷ []) (c.in_ok-add_by.ensures (in_both_roles rs) was)) at
    ∙ roles_more rs c.args.rollback.now at
