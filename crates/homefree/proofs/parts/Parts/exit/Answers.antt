use Rattle.std.proofs.Common.{rules, ◌<◌, ◌^◌, ◌∷◌, [], ◌++◌, length, arith, sym, subst, ◌∙◌}
use Rattle.run_ledger.specs.declared.counts.Counts.{Counts}
use Rattle.run_ledger.specs.Counts.{no_counts}
use Rattle.homefree.specs.Arms.{running_by}
use Rattle.homefree.proofs.Cases.Standing.{few_cores}
use Rattle.homefree.proofs.Cases.Accessing.{homefree_runs}
use Rattle.homefree.proofs.Cases.Ending.{room_mid}
use Rattle.homefree.proofs.Cases.Exiting.{others_attempts, homefree_last, room_last, totals_last, at_last, exited}
use Rattle.violations.specs.Calls.{Leave, Leads}
use Rattle.homefree.specs.Moves.{cancel_calls}
use Rattle.homefree.proofs.Cases.Moving.{leads_one}
use Rattle.homefree.proofs.parts.Parts.exit.Goals as goal

pub cancel_attempts-requires-clause-few : goal.cancel_attempts-requires-clause-few
cancel_attempts-requires-clause-few g c κs within =
    let old = c.args.self.now in
    let few = few_cores old.register (g.S.EpochStore.view old.store) c.requires.arrives.arrives.running.fits in
    let cores = (c.settle.ensures.settled.steps no_counts).cores in
    omega (arith, few, cores)

pub cancel_attempts-requires-clause-runs : goal.cancel_attempts-requires-clause-runs
cancel_attempts-requires-clause-runs g c κs within =
    let view = g.S.EpochStore.view in
    let old = c.args.self.now in
    let mid = c.settle.new.self in
    others_attempts old.register mid.register (view old.store) (view mid.store) c.args.core (running_by c.args.now c.args.arrived.now.base) c.requires.arrives.arrives.running c.requires.arrives.homefree c.settle.ensures.settled

pub cancel_all-requires-clause-few : goal.cancel_all-requires-clause-few
cancel_all-requires-clause-few g c =
    let old = c.args.self.now in
    let few = few_cores old.register (g.S.EpochStore.view old.store) c.requires.arrives.arrives.running.fits in
    let cores = (c.settle.ensures.settled.steps no_counts).cores in
    omega (arith, few, cores)

pub cancel_all-requires-clause-room : goal.cancel_all-requires-clause-room
cancel_all-requires-clause-room g c =
    let view = g.S.EpochStore.view in
    let old = c.args.self.now in
    let mid = c.settle.new.self in
    let room = room_mid old.register mid.register (view old.store) (view mid.store) c.args.core (running_by c.args.now c.args.arrived.now.base) c.requires.arrives.arrives.running c.requires.arrives.homefree c.settle.ensures.settled c.requires.arrives.arrives.notes.room in
    omega (arith, room)

pub commit-requires-clause-may : goal.commit-requires-clause-may
commit-requires-clause-may g c =
    let view = g.S.EpochStore.view in
    let old = c.args.self.now in
    let mid = c.settle.new.self in
    let settled = c.settle.ensures.settled in
    let there = c.requires.arrives.arrives.running.there in
    let first = (settled.steps no_counts).cores in
    let last = (c.cancel_all.ensures.steps no_counts).cores in record {
      there = omega (arith, there, first, last);
      room = room_last old.register mid.register (view old.store) (view mid.store) c.args.core (running_by c.args.now c.args.arrived.now.base) c.requires.arrives.arrives.running c.requires.arrives.homefree settled c.args.arrived.now
          c.requires.arrives.arrives.is_at c.requires.exits c.cancel_all.new.self c.cancel_all.ensures.steps c.requires.arrives.arrives.notes.room;
      runs = c.cancel_all.ensures.own ∙ settled.runs;
    }

pub commit-requires-clause-totals : goal.commit-requires-clause-totals
commit-requires-clause-totals g c =
    let view = g.S.EpochStore.view in
    let old = c.args.self.now in
    let mid = c.settle.new.self in
    subst (λ (n : Counts). n.commits < 2 ^ 63)
    (sym (totals_last old.register mid.register (view old.store) (view mid.store) c.args.core (running_by c.args.now c.args.arrived.now.base) c.requires.arrives.arrives.running c.requires.arrives.homefree c.settle.ensures.settled c.args.arrived.now
    c.requires.arrives.arrives.is_at c.requires.exits c.cancel_all.new.self c.cancel_all.ensures.steps))
    c.requires.arrives.arrives.notes.few_commits

pub commit-requires-clause-homefree : goal.commit-requires-clause-homefree
commit-requires-clause-homefree g c =
    let view = g.S.EpochStore.view in
    let old = c.args.self.now in
    let mid = c.settle.new.self in
    homefree_last old.register mid.register (view old.store) (view mid.store) c.args.core (running_by c.args.now c.args.arrived.now.base) c.requires.arrives.arrives.running c.requires.arrives.homefree c.settle.ensures.settled c.args.arrived.now
    c.requires.arrives.arrives.is_at c.requires.exits c.cancel_all.new.self c.cancel_all.ensures.steps

pub commit-requires-clause-at : goal.commit-requires-clause-at
commit-requires-clause-at g c =
    let view = g.S.EpochStore.view in
    let old = c.args.self.now in
    let mid = c.settle.new.self in
    at_last old.register mid.register (view old.store) (view mid.store) c.args.core (running_by c.args.now c.args.arrived.now.base) c.requires.arrives.arrives.running c.requires.arrives.homefree c.settle.ensures.settled c.args.arrived.now
    c.requires.arrives.arrives.is_at c.requires.exits c.cancel_all.new.self c.cancel_all.ensures.steps
    c.cancel_all.ensures.own

pub returns : goal.returns
returns g c =
    let view = g.S.EpochStore.view in
    let makes = g.S.EpochStore.makes in
    let old = c.args.self.now in
    let mid = c.settle.new.self in
    let core = c.args.core in
    let seen = view mid.store in (
      exited old.register mid.register (view old.store) (view mid.store) c.args.core (running_by c.args.now c.args.arrived.now.base) c.requires.arrives.arrives.running c.requires.arrives.homefree c.settle.ensures.settled c.args.arrived.now
          c.requires.arrives.arrives.is_at c.requires.exits c.cancel_all.new.self c.cancel_all.ensures.steps
          c.commit.new.self (view c.cancel_attempts.new.store) (view c.leave.new.self) c.args.shares.now c.commit.new.shares _
          c.cancel_attempts.ensures.cancels c.leave.ensures.leaves (c.left_or_over.ensures c.commit.new.self.running.items c.args.core) c.commit.ensures.end c.commit.ensures.steps,
      record {
        mid = mid.store;
        leads = c.settle.ensures.moves;
        rest = subst (λ n. Leads makes (cancel_calls n core seen ++ Leave core ∷ []) mid.store c.leave.new.self) (c.settle.ensures.settled.steps no_counts).cores
            (leads_one makes (cancel_calls (length mid.register.running.items) core seen) (Leave core) mid.store c.cancel_attempts.new.store c.leave.new.self c.cancel_attempts.ensures.moves
            c.leave.ensures.makes);
      },
    )

pub settle-requires : goal.settle-requires
settle-requires g c =
    let old = c.args.self.now in (
      search rules,
      homefree_runs old.register (g.S.EpochStore.view old.store) c.args.shares.now c.args.core (running_by c.args.now c.args.arrived.now.base) c.args.arrived.now _ c.requires.arrives,
    )
