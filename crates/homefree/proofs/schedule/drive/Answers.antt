use Rattle.std.proofs.Common.{None, Ok, refl, sym, ap, subst, ◌∙◌}
use Rattle.std.proofs.lemmas.Result.{err_from_is_err_and}
use Rattle.homefree.specs.Acted.{IfArrived}
use Rattle.homefree.specs.Driven.{Driven, driver}
use Rattle.homefree.specs.Held.{harts_of}
use Rattle.homefree.proofs.Books.Drives.{in_order, ends_over, ends_stopped, ends_fault, goes_on, none_held, no_harts}
use Rattle.homefree.proofs.schedule.drive.Goals as goal

pub loop-core-init : goal.loop-core-init
loop-core-init g c = record {
  same = record { image = refl; cores = refl; room = refl };
  held = λ k. subst (λ o. IfArrived c.args.book.now.image o) (sym (none_held 16 k)) tt;
  shares = c.requires.shares;
  drives = λ result new d. subst (λ h. Driven g.S.EpochStore.makes g.S.EpochStore.view g.S.EpochStore.waits h (driver c.args.book.now c.args.shares.now) c.args.schedule.now result new) (no_harts 16) d;
}

pub returns-in_err-end-clause-driven : goal.returns-in_err-end-clause-driven
returns-in_err-end-clause-driven g c =
    let p = err_from_is_err_and c.from_residual.result c.from_residual.ensures.1 in
    rw (p.1, p.2) (ends_fault g.S.EpochStore.makes g.S.EpochStore.view g.S.EpochStore.waits (harts_of c.loop-core.held) (driver c.loop-core.book c.loop-core.shares) (driver c.step.new.book c.step.new.shares) c.args.schedule.now c.loop-core.core-index c.loop-core-test.true
    (λ result new. Driven g.S.EpochStore.makes g.S.EpochStore.view g.S.EpochStore.waits (λ _. None) (driver c.args.book.now c.args.shares.now) c.args.schedule.now result new) c.loop-core.invariant.drives
    c.in_err-end.field-0.0 c.in_err-end.ensures.turned)

pub returns-in-Over-clause-driven : goal.returns-in-Over-clause-driven
returns-in-Over-clause-driven g c =
    ends_over g.S.EpochStore.makes g.S.EpochStore.view g.S.EpochStore.waits (harts_of c.loop-core.held) (driver c.loop-core.book c.loop-core.shares) (driver c.step.new.book c.step.new.shares) c.args.schedule.now c.loop-core.core-index c.loop-core-test.true
    (λ result new. Driven g.S.EpochStore.makes g.S.EpochStore.view g.S.EpochStore.waits (λ _. None) (driver c.args.book.now c.args.shares.now) c.args.schedule.now result new) c.loop-core.invariant.drives
    c.in_ok-end.field-0 c.in-Over.end c.in-Over.is c.in_ok-end.ensures.turned

pub returns-in-Over-clause-end : goal.returns-in-Over-clause-end
returns-in-Over-clause-end g c = in_order g.S.EpochStore.view c.step.new.book c.in-Over.end c.look.ensures
    (c.step.ensures.over c.in-Over.end c.look.ensures.state (c.in_ok-end.was ∙ ap Ok c.in-Over.is) c.look.ensures.replays)

pub returns-in-Stopped-clause-driven : goal.returns-in-Stopped-clause-driven
returns-in-Stopped-clause-driven g c =
    ends_stopped g.S.EpochStore.makes g.S.EpochStore.view g.S.EpochStore.waits (harts_of c.loop-core.held) (driver c.loop-core.book c.loop-core.shares) (driver c.step.new.book c.step.new.shares) c.args.schedule.now c.loop-core.core-index c.loop-core-test.true
    (λ result new. Driven g.S.EpochStore.makes g.S.EpochStore.view g.S.EpochStore.waits (λ _. None) (driver c.args.book.now c.args.shares.now) c.args.schedule.now result new) c.loop-core.invariant.drives
    c.in_ok-end.field-0 c.in-Stopped.field-0 c.in-Stopped.is c.in_ok-end.ensures.turned

pub loop-core-preserved : goal.loop-core-preserved
loop-core-preserved g c =
    let same = c.step.ensures.same in
    let before = c.loop-core.invariant.same in record {
      same = record { image = same.image ∙ before.image; cores = same.cores ∙ before.cores; room = same.room ∙ before.room };
      held = c.step.ensures.held;
      shares = c.step.ensures.shares;
      drives = goes_on g.S.EpochStore.makes g.S.EpochStore.view g.S.EpochStore.waits (harts_of c.loop-core.held) (driver c.loop-core.book c.loop-core.shares) (driver c.step.new.book c.step.new.shares) c.args.schedule.now c.loop-core.core-index c.loop-core-test.true
          (λ result new. Driven g.S.EpochStore.makes g.S.EpochStore.view g.S.EpochStore.waits (λ _. None) (driver c.args.book.now c.args.shares.now) c.args.schedule.now result new) c.loop-core.invariant.drives
          c.in_ok-end.field-0 (harts_of c.step.new.held) c.in_default.not-Over c.in_default.not-Stopped c.in_ok-end.ensures.harts c.in_ok-end.ensures.turned;
    }
