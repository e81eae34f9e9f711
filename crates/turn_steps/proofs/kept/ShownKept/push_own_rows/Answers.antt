use Rattle.std.proofs.Common.{◌==◌, not}
use Rattle.std.proofs.lemmas.Result.{on_ok_weaker}
use Rattle.std.specs.BTreeSet.{contains}
use Rattle.std.specs.Ordering.{nat_cmp}
use Rattle.turn_steps.specs.Kept.{row_at}
use Rattle.turn_steps.proofs.Keeping.{kept_rows, owned_rows}
use Rattle.turn_steps.proofs.kept.ShownKept.push_own_rows.Goals as goal

pub returns-clause-kept : goal.returns-clause-kept
returns-clause-kept c = on_ok_weaker c.push_owned.result
    (kept_rows (contains nat_cmp c.args.rows.now) (contains nat_cmp c.push_owned.new.rows) (λ r. not ((row_at c.args.self.now r).own == 0))) c.push_owned.ensures

pub returns-clause-own : goal.returns-clause-own
returns-clause-own c old core shows =
    on_ok_weaker c.push_owned.result (owned_rows old core c.args.self.now c.args.rows.now c.push_owned.new.rows shows) c.push_owned.ensures
