use Rattle.std.proofs.Common.{◌<◌, ◌^◌, refl, sym, subst}
use Rattle.run_ledger.specs.declared.counts.Counts.{Counts}
use Rattle.run_ledger.specs.Counts.{no_counts}
use Rattle.violations.specs.CoreSet.{is_in}
use Rattle.homefree.specs.Arms.{running_by}
use Rattle.homefree.proofs.Fields.Coming.{went_on}
use Rattle.homefree.proofs.Fields.Noting.{loaded}
use Rattle.homefree.proofs.Fields.Steps.{steps_then}
use Rattle.homefree.proofs.Fields.Hurting.{room_after, totals_same, at_stop_after}
use Rattle.homefree.proofs.register.Register.load.Goals as goal

pub note-requires : goal.note-requires
note-requires c = room_after c.args.self.now c.hurt_all.new.self c.args.core (running_by c.args.now c.args.arrived.now.base) (is_in c.args.hurt) c.requires.may (c.hurt_all.ensures.steps no_counts)

pub count_load-requires-clause-totals : goal.count_load-requires-clause-totals
count_load-requires-clause-totals c =
    subst (λ (n : Counts). n.loads < 2 ^ 63) (sym (totals_same c.args.self.now c.hurt_all.new.self _ (c.hurt_all.ensures.steps no_counts))) c.requires.totals

pub returns-clause-steps : goal.returns-clause-steps
returns-clause-steps c =
    let mid = c.hurt_all.new.self in
    let at = at_stop_after c.args.self.now mid c.args.core (running_by c.args.now c.args.arrived.now.base) c.args.arrived.now _ c.requires.at (c.hurt_all.ensures.steps no_counts).image (c.hurt_all.ensures.spared c.args.core c.requires.may.spared) in
    steps_then c.args.self.now mid _ c.args.shares.now c.args.shares.now _ _ _ (c.hurt_all.ensures.steps c.args.shares.now)
    (loaded mid _ c.args.shares.now _ c.args.core (running_by c.args.now c.args.arrived.now.base) c.args.arrived.now c.args.arrived.now.at c.args.access.addr c.args.access.width c.args.access.value _ at
    refl refl (c.set_loaded.ensures (running_by c.args.now c.args.arrived.now.base) at.runs).len c.note.ensures.items c.note.ensures.room c.note.ensures.used c.count_load.ensures.totals c.count_load.ensures.shares refl refl refl (c.set_loaded.ensures (running_by c.args.now c.args.arrived.now.base) at.runs).each)

pub returns-clause-hart : goal.returns-clause-hart
returns-clause-hart c =
    let mid = c.hurt_all.new.self in
    let at = at_stop_after c.args.self.now mid c.args.core (running_by c.args.now c.args.arrived.now.base) c.args.arrived.now _ c.requires.at (c.hurt_all.ensures.steps no_counts).image (c.hurt_all.ensures.spared c.args.core c.requires.may.spared) in
    went_on _ c.args.core _ _ ((c.set_loaded.ensures (running_by c.args.now c.args.arrived.now.base) at.runs).each c.args.core)
