use Rattle.std.proofs.Common.{◌∙◌, arith, refl}
use Rattle.conflict_findings.specs.declared.part.Part.TheVariants.{Whole}
use Rattle.conflict_findings.proofs.BothRoles.{own_room, roles_room}
use Rattle.conflict_findings.proofs.Pushing.{sum_yes}
use Rattle.conflict_findings.proofs.sums.Sums.add.Goals as goal

pub more-self-requires-2 : goal.more-self-requires-2
more-self-requires-2 c = (c.requires.0, c.requires.1.kinds_are, own_room c.requires.0 c.args.rollback.now c.args.self.now.whole c.requires.1.whole_is (c.is_full.ensures.roomy c.if-is_full.false) (omega arith))

pub add_by-requires : goal.add_by-requires
add_by-requires c = (c.requires.0, c.requires.1.epochs_are, own_room c.requires.0 c.args.rollback.now c.args.self.now.whole c.requires.1.whole_is (c.is_full.ensures.roomy c.if-is_full.false) (omega arith))

pub add_by-requires-2 : goal.add_by-requires-2
add_by-requires-2 c = (c.requires.0, c.requires.1.lines_are, own_room c.requires.0 c.args.rollback.now c.args.self.now.whole c.requires.1.whole_is (c.is_full.ensures.roomy c.if-is_full.false) (omega arith))

pub add-requires : goal.add-requires
add-requires c = (c.requires.0, c.requires.1.kind_lines_are, own_room c.requires.0 c.args.rollback.now c.args.self.now.whole c.requires.1.whole_is (c.is_full.ensures.roomy c.if-is_full.false) (omega arith))

pub add_by-requires-3 : goal.add_by-requires-3
add_by-requires-3 c = (c.requires.0, c.requires.1.loads_are, own_room c.requires.0 c.args.rollback.now c.args.self.now.whole c.requires.1.whole_is (c.is_full.ensures.roomy c.if-is_full.false) (omega arith))

pub add_by-requires-4 : goal.add_by-requires-4
add_by-requires-4 c = (c.requires.0, c.requires.1.stores_are, own_room c.requires.0 c.args.rollback.now c.args.self.now.whole c.requires.1.whole_is (c.is_full.ensures.roomy c.if-is_full.false) (omega arith))

pub add-requires-2 : goal.add-requires-2
add-requires-2 c = (c.requires.0, c.requires.1.pairs_are, own_room c.requires.0 c.args.rollback.now c.args.self.now.whole c.requires.1.whole_is (c.is_full.ensures.roomy c.if-is_full.false) (omega arith))

pub add_in_roles-requires : goal.add_in_roles-requires
add_in_roles-requires c = (c.requires.0, c.requires.1.instructions_are, roles_room c.requires.0 c.args.rollback.now c.args.self.now.whole c.requires.1.whole_is (c.is_full.ensures.roomy c.if-is_full.false) (omega arith))

pub returns : goal.returns
returns c rs was = record {
  whole_is = c.more-self.ensures ∙ sum_yes Whole rs c.args.rollback.now c.args.self.now.whole refl was.whole_is;
  kinds_are = c.more-self-2.ensures rs was.kinds_are;
  epochs_are = c.in_ok-add_by.ensures rs was.epochs_are;
  lines_are = c.in_ok-add_by-2.ensures rs was.lines_are;
  kind_lines_are = c.in_ok-add.ensures rs was.kind_lines_are;
  loads_are = c.in_ok-add_by-3.ensures rs was.loads_are;
  stores_are = c.in_ok-add_by-4.ensures rs was.stores_are;
  instructions_are = c.in_ok-add_in_roles.ensures rs was.instructions_are;
  pairs_are = c.in_ok-add-2.ensures rs was.pairs_are;
}
