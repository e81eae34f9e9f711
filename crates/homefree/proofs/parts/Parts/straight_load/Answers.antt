use Rattle.std.proofs.Common.{rules, ◌<◌, ◌^◌, refl, sym, subst}
use Rattle.run_ledger.specs.declared.counts.Counts.{Counts}
use Rattle.run_ledger.specs.Counts.{no_counts}
use Rattle.violations.specs.CoreSet.{is_in}
use Rattle.violations.specs.Calls.{StraightLoad}
use Rattle.homefree.specs.Arms.{running_by}
use Rattle.homefree.proofs.Fields.Hurting.{totals_same}
use Rattle.homefree.proofs.Cases.Standing.{may_load, may_hurt}
use Rattle.homefree.proofs.Cases.Accessing.{at_own, homefree_runs}
use Rattle.homefree.proofs.Cases.GoingStraight.{at_after, room_of_other, loaded_straight}
use Rattle.homefree.proofs.Cases.Moving.{leads_one}
use Rattle.homefree.specs.Moves.{publish_calls}
use Rattle.homefree.proofs.parts.Parts.straight_load.Goals as goal

pub straight_load-value-requires-clause-access : goal.straight_load-value-requires-clause-access
straight_load-value-requires-clause-access g c =
    let view = g.S.EpochStore.view in
    let old = c.args.self.now in
    let mid = c.go_straight-straight.new.self in
    let at = c.requires.arrives in
    may_load mid.register (view mid.store) c.args.core (running_by c.go_straight-straight.result c.args.arrived.now.base) c.args.arrived.now c.args.addr c.args.width at.0 at.1 c.go_straight-straight.ensures.straight.running.fits
    (at_after old.register mid.register (view old.store) (view mid.store) c.args.core (running_by c.args.now c.args.arrived.now.base) (running_by c.go_straight-straight.result c.args.arrived.now.base) c.args.arrived.now _ c.go_straight-straight.ensures.straight
    at.2.arrives.is_at)

pub load-requires-clause-may : goal.load-requires-clause-may
load-requires-clause-may g c =
    let view = g.S.EpochStore.view in
    let old = c.args.self.now in
    let mid = c.go_straight-straight.new.self in
    may_hurt mid.register (view mid.store) (view c.straight_load-value.new.self) c.args.core (running_by c.go_straight-straight.result c.args.arrived.now.base) (is_in c.straight_load-value.result.1) c.go_straight-straight.ensures.straight.running
    c.straight_load-value.ensures.loads.others
    (room_of_other old.register mid.register (view old.store) (view mid.store) c.args.core (running_by c.args.now c.args.arrived.now.base) (running_by c.go_straight-straight.result c.args.arrived.now.base) c.go_straight-straight.ensures.straight c.requires.arrives.2.arrives.notes.room)

pub load-requires-clause-totals : goal.load-requires-clause-totals
load-requires-clause-totals g c =
    subst (λ (n : Counts). n.loads < 2 ^ 63) (sym (totals_same c.args.self.now.register c.go_straight-straight.new.self.register _ (c.go_straight-straight.ensures.straight.steps no_counts)))
    c.requires.arrives.2.arrives.notes.few_loads

pub load-requires-clause-at : goal.load-requires-clause-at
load-requires-clause-at g c =
    let view = g.S.EpochStore.view in
    let old = c.args.self.now in
    let mid = c.go_straight-straight.new.self in
    at_own mid.register c.args.core (running_by c.go_straight-straight.result c.args.arrived.now.base) c.args.arrived.now _
    (at_after old.register mid.register (view old.store) (view mid.store) c.args.core (running_by c.args.now c.args.arrived.now.base) (running_by c.go_straight-straight.result c.args.arrived.now.base) c.args.arrived.now _ c.go_straight-straight.ensures.straight c.requires.arrives.2.arrives.is_at)

pub returns : goal.returns
returns g c =
    let view = g.S.EpochStore.view in
    let old = c.args.self.now in
    let mid = c.go_straight-straight.new.self in
    let at = c.requires.arrives in (
      rw c.load.ensures.hart (loaded_straight _ old.register mid.register (view old.store) (view mid.store) c.args.core (running_by c.args.now c.args.arrived.now.base) (running_by c.go_straight-straight.result c.args.arrived.now.base) c.requires.arrives.2.arrives.running at.2.homefree c.go_straight-straight.ensures.straight
          c.load.new.self (view c.straight_load-value.new.self) c.args.shares.now c.load.new.shares c.args.arrived.now c.args.addr c.args.width c.straight_load-value.result.0 at.0 at.1 (is_in c.straight_load-value.result.1) _
          at.2.arrives.is_at c.requires.waits c.look.ensures c.straight_load-value.ensures.loads refl c.load.ensures.steps),
      leads_one g.S.EpochStore.makes (publish_calls c.args.now.straight c.args.core) (StraightLoad c.args.core c.args.addr c.args.width) old.store mid.store c.straight_load-value.new.self c.go_straight-straight.ensures.moves c.straight_load-value.ensures.makes,
    )

pub go_straight-straight-requires : goal.go_straight-straight-requires
go_straight-straight-requires g c =
    let old = c.args.self.now in (
      search rules,
      homefree_runs old.register (g.S.EpochStore.view old.store) c.args.shares.now c.args.core (running_by c.args.now c.args.arrived.now.base) c.args.arrived.now _ c.requires.arrives.2,
    )
