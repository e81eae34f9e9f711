use Rattle.std.proofs.Common.{rules, ◌<◌, ◌^◌, refl, sym, subst}
use Rattle.run_ledger.specs.declared.counts.Counts.{Counts}
use Rattle.run_ledger.specs.Counts.{no_counts}
use Rattle.violations.specs.CoreSet.{is_in}
use Rattle.violations.specs.Calls.{StraightStore}
use Rattle.homefree.specs.Arms.{running_by}
use Rattle.homefree.proofs.Fields.Hurting.{totals_same}
use Rattle.homefree.proofs.Cases.Standing.{may_store, may_hurt}
use Rattle.homefree.proofs.Cases.Accessing.{homefree_runs}
use Rattle.homefree.proofs.Cases.GoingStraight.{at_after, room_of_other, stored_straight}
use Rattle.homefree.proofs.Cases.Moving.{leads_one}
use Rattle.homefree.specs.Moves.{publish_calls}
use Rattle.homefree.proofs.parts.Parts.straight_store.Goals as goal

pub straight_store-hurt-requires-clause-access : goal.straight_store-hurt-requires-clause-access
straight_store-hurt-requires-clause-access g c =
    let view = g.S.EpochStore.view in
    let old = c.args.self.now in
    let mid = c.go_straight-straight.new.self in
    may_store mid.register (view mid.store) c.args.core (running_by c.go_straight-straight.result c.args.arrived.now.base) c.args.arrived.now c.args.access.addr c.args.access.width c.args.access.value c.go_straight-straight.ensures.straight.running.fits
    (at_after old.register mid.register (view old.store) (view mid.store) c.args.core (running_by c.args.now c.args.arrived.now.base) (running_by c.go_straight-straight.result c.args.arrived.now.base) c.args.arrived.now _ c.go_straight-straight.ensures.straight
    c.requires.arrives.arrives.is_at)

pub store-requires-clause-may : goal.store-requires-clause-may
store-requires-clause-may g c =
    let view = g.S.EpochStore.view in
    let old = c.args.self.now in
    let mid = c.go_straight-straight.new.self in
    may_hurt mid.register (view mid.store) (view c.straight_store-hurt.new.self) c.args.core (running_by c.go_straight-straight.result c.args.arrived.now.base) (is_in c.straight_store-hurt.result) c.go_straight-straight.ensures.straight.running
    c.straight_store-hurt.ensures.stores.others
    (room_of_other old.register mid.register (view old.store) (view mid.store) c.args.core (running_by c.args.now c.args.arrived.now.base) (running_by c.go_straight-straight.result c.args.arrived.now.base) c.go_straight-straight.ensures.straight c.requires.arrives.arrives.notes.room)

pub store-requires-clause-totals : goal.store-requires-clause-totals
store-requires-clause-totals g c =
    subst (λ (n : Counts). n.stores < 2 ^ 63) (sym (totals_same c.args.self.now.register c.go_straight-straight.new.self.register _ (c.go_straight-straight.ensures.straight.steps no_counts)))
    c.requires.arrives.arrives.notes.few_stores

pub store-requires-clause-at : goal.store-requires-clause-at
store-requires-clause-at g c =
    let view = g.S.EpochStore.view in
    let old = c.args.self.now in
    let mid = c.go_straight-straight.new.self in
    at_after old.register mid.register (view old.store) (view mid.store) c.args.core (running_by c.args.now c.args.arrived.now.base) (running_by c.go_straight-straight.result c.args.arrived.now.base) c.args.arrived.now _ c.go_straight-straight.ensures.straight
    c.requires.arrives.arrives.is_at

pub returns : goal.returns
returns g c =
    let view = g.S.EpochStore.view in
    let old = c.args.self.now in
    let mid = c.go_straight-straight.new.self in (
      rw c.store.ensures.hart (stored_straight _ old.register mid.register (view old.store) (view mid.store) c.args.core (running_by c.args.now c.args.arrived.now.base) (running_by c.go_straight-straight.result c.args.arrived.now.base) c.requires.arrives.arrives.running c.requires.arrives.homefree c.go_straight-straight.ensures.straight
          c.store.new.self (view c.straight_store-hurt.new.self) c.args.shares.now c.store.new.shares c.args.arrived.now c.args.access.addr c.args.access.width c.args.access.value (is_in c.straight_store-hurt.result) _
          c.requires.arrives.arrives.is_at c.requires.waits c.look.ensures c.straight_store-hurt.ensures.stores refl c.store.ensures.steps),
      leads_one g.S.EpochStore.makes (publish_calls c.args.now.straight c.args.core) (StraightStore c.args.core c.args.access.addr c.args.access.width c.args.access.value) old.store mid.store c.straight_store-hurt.new.self c.go_straight-straight.ensures.moves c.straight_store-hurt.ensures.makes,
    )

pub go_straight-straight-requires : goal.go_straight-straight-requires
go_straight-straight-requires g c =
    let old = c.args.self.now in (
      search rules,
      homefree_runs old.register (g.S.EpochStore.view old.store) c.args.shares.now c.args.core (running_by c.args.now c.args.arrived.now.base) c.args.arrived.now _ c.requires.arrives,
    )
