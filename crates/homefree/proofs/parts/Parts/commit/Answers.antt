use Rattle.std.proofs.Common.{rules, ◌<◌, ◌^◌, arith, sym, subst}
use Rattle.rv32_exec.specs.declared.stop.Stop.TheVariants.{Ended}
use Rattle.run_ledger.specs.declared.counts.Counts.{Counts}
use Rattle.run_ledger.specs.Counts.{no_counts}
use Rattle.violations.specs.Calls.{Leave}
use Rattle.homefree.specs.Arms.{running_by}
use Rattle.homefree.proofs.Fields.Hurting.{totals_same}
use Rattle.homefree.proofs.Cases.Accessing.{homefree_runs}
use Rattle.homefree.proofs.Cases.Ending.{room_mid, homefree_mid, at_mid, leaves, committed}
use Rattle.homefree.proofs.Cases.Moving.{leads_one}
use Rattle.homefree.specs.Moves.{publish_calls}
use Rattle.homefree.proofs.parts.Parts.commit.Goals as goal

pub commit-requires-clause-may : goal.commit-requires-clause-may
commit-requires-clause-may g c =
    let view = g.S.EpochStore.view in
    let old = c.args.self.now in
    let mid = c.settle.new.self in
    let settled = c.settle.ensures.settled in
    let there = c.requires.arrives.arrives.running.there in
    let cores = (settled.steps no_counts).cores in
    let room = room_mid old.register mid.register (view old.store) (view mid.store) c.args.core (running_by c.args.now c.args.arrived.now.base) c.requires.arrives.arrives.running c.requires.arrives.homefree settled c.requires.arrives.arrives.notes.room in
    record { there = omega (arith, there, cores); room = omega (arith, room); runs = settled.runs }

pub commit-requires-clause-totals : goal.commit-requires-clause-totals
commit-requires-clause-totals g c =
    subst (λ (n : Counts). n.commits < 2 ^ 63) (sym (totals_same c.args.self.now.register c.settle.new.self.register _ (c.settle.ensures.settled.steps no_counts))) c.requires.arrives.arrives.notes.few_commits

pub commit-requires-clause-homefree : goal.commit-requires-clause-homefree
commit-requires-clause-homefree g c =
    let view = g.S.EpochStore.view in
    let old = c.args.self.now in
    let mid = c.settle.new.self in
    homefree_mid old.register mid.register (view old.store) (view mid.store) c.args.core (running_by c.args.now c.args.arrived.now.base) c.requires.arrives.arrives.running c.requires.arrives.homefree c.settle.ensures.settled

pub commit-requires-clause-at : goal.commit-requires-clause-at
commit-requires-clause-at g c =
    let view = g.S.EpochStore.view in
    let old = c.args.self.now in
    let mid = c.settle.new.self in
    at_mid old.register mid.register (view old.store) (view mid.store) c.args.core (running_by c.args.now c.args.arrived.now.base) c.requires.arrives.arrives.running c.requires.arrives.homefree c.settle.ensures.settled c.args.arrived.now Ended
    c.requires.arrives.arrives.is_at

pub leave-requires-clause-runs : goal.leave-requires-clause-runs
leave-requires-clause-runs g c =
    let view = g.S.EpochStore.view in
    let old = c.args.self.now in
    let mid = c.settle.new.self in
    leaves old.register mid.register (view old.store) (view mid.store) c.args.core (running_by c.args.now c.args.arrived.now.base) c.requires.arrives.arrives.running c.requires.arrives.homefree c.settle.ensures.settled

pub returns : goal.returns
returns g c =
    let view = g.S.EpochStore.view in
    let old = c.args.self.now in
    let mid = c.settle.new.self in (
      committed old.register mid.register (view old.store) (view mid.store) c.args.core (running_by c.args.now c.args.arrived.now.base) c.requires.arrives.arrives.running c.requires.arrives.homefree c.settle.ensures.settled
          c.commit.new.self (view c.leave.new.self) c.args.shares.now c.commit.new.shares c.args.arrived.now _
          c.requires.arrives.arrives.is_at c.requires.stays c.leave.ensures.leaves (c.left_or_over.ensures c.commit.new.self.running.items c.args.core) c.commit.ensures.end
          c.commit.ensures.steps,
      leads_one g.S.EpochStore.makes (publish_calls c.args.now.straight c.args.core) (Leave c.args.core) old.store mid.store c.leave.new.self c.settle.ensures.moves c.leave.ensures.makes,
    )

pub settle-requires : goal.settle-requires
settle-requires g c =
    let old = c.args.self.now in (
      search rules,
      homefree_runs old.register (g.S.EpochStore.view old.store) c.args.shares.now c.args.core (running_by c.args.now c.args.arrived.now.base) c.args.arrived.now _ c.requires.arrives,
    )
