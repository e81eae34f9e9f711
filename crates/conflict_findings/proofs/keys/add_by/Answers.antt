use Rattle.std.proofs.Common.{◌∙◌, sym}
use Rattle.std.specs.BTreeMap.{get}
use Rattle.std.specs.Ordering.{nat_cmp}
use Rattle.conflict_findings.proofs.Keyed.{counts_fit, keyed, lost_fits, unkeyed}
use Rattle.conflict_findings.proofs.keys.add_by.Goals as goal

pub add-requires-clause-count : goal.add-requires-clause-count
add-requires-clause-count c = counts_fit c.args.key c.requires.0 c.args.rollback.now.lost c.in-Some.at _ c.requires.2 (c.requires.1 c.in-Some.at)

pub add-requires-clause-lost : goal.add-requires-clause-lost
add-requires-clause-lost c = lost_fits c.args.key c.requires.0 c.args.rollback.now.lost c.in-Some.at _ c.requires.2 (c.requires.1 c.in-Some.at)

pub returns-in_default : goal.returns-in_default
returns-in_default c rs was = unkeyed c.args.key rs c.args.rollback.now (get nat_cmp c.args.sums.now) (sym c.of.ensures ∙ c.in_default.is) was

pub returns : goal.returns
returns c rs was =
    keyed c.args.key rs c.args.rollback.now c.in-Some.at (get nat_cmp c.args.sums.now) (get nat_cmp c.add.new.sums) (sym c.in-Some.ensures) c.in_ok-add.ensures.here c.in_ok-add.ensures.others was
