use Rattle.std.proofs.Common.{◌≡◌, ℕ, ◌%◌, Some, None, Ok, Err, refl, sym, ap, subst, ◌∙◌, ◌+◌, ◌≤◌, ◌<◌, Option, [], ◌++◌, arith}
use Rattle.std.proofs.lemmas.Result.{err_from_is_err_and}
use Rattle.rand_xoshiro.specs.SplitMix64.{mix_u64, next_state}
use Rattle.homefree.specs.declared.answer.StopCause.{StopCause}
use Rattle.homefree.specs.Acted.{IfArrived}
use Rattle.homefree.specs.Driven.{Driven, driver}
use Rattle.homefree.specs.Held.{harts_of}
use Rattle.homefree.proofs.Books.Drives.{none_held, no_harts}
use Rattle.all_schedules.specs.Drawn.{core_at, drawn, most_turns, state_after}
use Rattle.all_schedules.proofs.Draws.{drawn_none, drives_drawn, ends_fault, ends_over, ends_stopped, goes_on, more_drawn, open_more, more_state, most_taken, state_none}
use Rattle.all_schedules.proofs.drawing.drive_drawn.Goals as goal

pub loop-taken-init : goal.loop-taken-init
loop-taken-init g c = record {
  same = record { image = refl; cores = refl; room = refl };
  held = λ k. subst (λ o. IfArrived c.args.book.now.image o) (sym (none_held 16 k)) tt;
  shares = c.requires.shares;
  state = c.seed_from_u64-generator.ensures.same ∙ sym (state_none c.args.seed);
  is_drawn = c.requires.schedule ∙ sym (drawn_none c.args.on.now.cores c.args.seed);
  few = omega arith;
  goes_on = λ m below. absurd (omega (arith, below));
  stopped = refl;
  drives = λ rest result new d. subst (λ l. Driven g.S.EpochStore.makes g.S.EpochStore.view g.S.EpochStore.waits (λ _. None) (driver c.args.book.now c.args.shares.now) (l ++ rest) result new) (sym c.requires.schedule)
      (subst (λ h. Driven g.S.EpochStore.makes g.S.EpochStore.view g.S.EpochStore.waits h (driver c.args.book.now c.args.shares.now) rest result new) (no_harts 16) d);
}

is_core : (cores seed n state core : ℕ) → state ≡ state_after seed n → core ≡ (mix_u64 state).0 % cores → core ≡ core_at cores seed n
is_core cores seed n state core so is = is ∙ ap (λ x. (mix_u64 x).0 % cores) so

still_stopped : (now before : Option StopCause) (cause : StopCause) → now ≡ Some cause → now ≡ before → before ≡ None → ⊥
still_stopped now before cause is same fresh = absurd cc

pub returns-in_err-answer-clause-drives : goal.returns-in_err-answer-clause-drives
returns-in_err-answer-clause-drives g c =
    let p = err_from_is_err_and c.from_residual.result c.from_residual.ensures.1 in
    rw (p.1, p.2) (λ _. drives_drawn g.S.EpochStore.makes g.S.EpochStore.view g.S.EpochStore.waits c.args.on.now.cores c.args.seed (c.loop-taken._taken + 1) (driver c.args.book.now c.args.shares.now) (driver c.step.new.book c.step.new.shares) c.push.new.self.items (Err c.in_err-answer.field-0.0) (more_drawn c.args.on.now.cores c.args.seed c.loop-taken._taken c.draw-core.result c.loop-taken.schedule.items c.push.new.self.items c.loop-taken.invariant.is_drawn (is_core c.args.on.now.cores c.args.seed c.loop-taken._taken c.loop-taken.generator c.draw-core.result c.loop-taken.invariant.state c.draw-core.ensures.core) c.in-Ok.ensures.items) (omega (arith, c.loop-taken-test.true))
    (open_more g.S.EpochStore.makes g.S.EpochStore.view g.S.EpochStore.waits c.args.on.now.cores c.args.seed c.loop-taken._taken (driver c.args.book.now c.args.shares.now) (driver c.loop-taken.book c.loop-taken.shares) c.loop-taken.schedule.items
    c.loop-taken.invariant.is_drawn c.loop-taken.invariant.goes_on (c.loop-taken.invariant.drives [] (Ok None) (driver c.loop-taken.book c.loop-taken.shares) (refl, refl))) (λ none fresh. absurd cc)
    (ends_fault g.S.EpochStore.makes g.S.EpochStore.view g.S.EpochStore.waits (harts_of c.loop-taken.held) (driver c.args.book.now c.args.shares.now) (driver c.loop-taken.book c.loop-taken.shares) (driver c.step.new.book c.step.new.shares) c.loop-taken.schedule.items c.push.new.self.items c.draw-core.result c.loop-taken.invariant.drives c.in-Ok.ensures.items c.in_err-answer.field-0.0 c.in_err-answer.ensures.turned))

pub returns-in-Over-clause-drives : goal.returns-in-Over-clause-drives
returns-in-Over-clause-drives g c _ =
    drives_drawn g.S.EpochStore.makes g.S.EpochStore.view g.S.EpochStore.waits c.args.on.now.cores c.args.seed (c.loop-taken._taken + 1) (driver c.args.book.now c.args.shares.now) (driver c.step.new.book c.step.new.shares) c.push.new.self.items (Ok (Some c.in-Over.end)) (more_drawn c.args.on.now.cores c.args.seed c.loop-taken._taken c.draw-core.result c.loop-taken.schedule.items c.push.new.self.items c.loop-taken.invariant.is_drawn (is_core c.args.on.now.cores c.args.seed c.loop-taken._taken c.loop-taken.generator c.draw-core.result c.loop-taken.invariant.state c.draw-core.ensures.core) c.in-Ok.ensures.items) (omega (arith, c.loop-taken-test.true))
    (open_more g.S.EpochStore.makes g.S.EpochStore.view g.S.EpochStore.waits c.args.on.now.cores c.args.seed c.loop-taken._taken (driver c.args.book.now c.args.shares.now) (driver c.loop-taken.book c.loop-taken.shares) c.loop-taken.schedule.items
    c.loop-taken.invariant.is_drawn c.loop-taken.invariant.goes_on (c.loop-taken.invariant.drives [] (Ok None) (driver c.loop-taken.book c.loop-taken.shares) (refl, refl))) (λ none fresh. absurd cc)
    (ends_over g.S.EpochStore.makes g.S.EpochStore.view g.S.EpochStore.waits (harts_of c.loop-taken.held) (driver c.args.book.now c.args.shares.now) (driver c.loop-taken.book c.loop-taken.shares) (driver c.step.new.book c.step.new.shares) c.loop-taken.schedule.items c.push.new.self.items c.draw-core.result c.loop-taken.invariant.drives c.in-Ok.ensures.items c.in_ok-answer.answer c.in-Over.end c.in-Over.is c.in_ok-answer.ensures.turned)

pub returns-in-Stopped-clause-drives : goal.returns-in-Stopped-clause-drives
returns-in-Stopped-clause-drives g c _ =
    drives_drawn g.S.EpochStore.makes g.S.EpochStore.view g.S.EpochStore.waits c.args.on.now.cores c.args.seed (c.loop-taken._taken + 1) (driver c.args.book.now c.args.shares.now) (driver c.step.new.book c.step.new.shares) c.push.new.self.items (Ok None) (more_drawn c.args.on.now.cores c.args.seed c.loop-taken._taken c.draw-core.result c.loop-taken.schedule.items c.push.new.self.items c.loop-taken.invariant.is_drawn (is_core c.args.on.now.cores c.args.seed c.loop-taken._taken c.loop-taken.generator c.draw-core.result c.loop-taken.invariant.state c.draw-core.ensures.core) c.in-Ok.ensures.items) (omega (arith, c.loop-taken-test.true))
    (open_more g.S.EpochStore.makes g.S.EpochStore.view g.S.EpochStore.waits c.args.on.now.cores c.args.seed c.loop-taken._taken (driver c.args.book.now c.args.shares.now) (driver c.loop-taken.book c.loop-taken.shares) c.loop-taken.schedule.items
    c.loop-taken.invariant.is_drawn c.loop-taken.invariant.goes_on (c.loop-taken.invariant.drives [] (Ok None) (driver c.loop-taken.book c.loop-taken.shares) (refl, refl))) (λ none fresh. still_stopped c.loop-taken.book.stopped c.args.book.now.stopped c.in-Stopped.field-0 (c.in_ok-answer.ensures.stopped c.in-Stopped.field-0 (ap Ok c.in-Stopped.is)) c.loop-taken.invariant.stopped fresh)
    (ends_stopped g.S.EpochStore.makes g.S.EpochStore.view g.S.EpochStore.waits (harts_of c.loop-taken.held) (driver c.args.book.now c.args.shares.now) (driver c.loop-taken.book c.loop-taken.shares) (driver c.step.new.book c.step.new.shares) c.loop-taken.schedule.items c.push.new.self.items c.draw-core.result c.loop-taken.invariant.drives c.in-Ok.ensures.items c.in_ok-answer.answer c.in-Stopped.field-0 c.in-Stopped.is c.in_ok-answer.ensures.turned)

pub loop-taken-preserved : goal.loop-taken-preserved
loop-taken-preserved g c =
    let same = c.step.ensures.same in
    let before = c.loop-taken.invariant.same in record {
      same = record { image = same.image ∙ before.image; cores = same.cores ∙ before.cores; room = same.room ∙ before.room };
      held = c.step.ensures.held;
      shares = c.step.ensures.shares;
      state = c.draw-core.ensures.state ∙ (ap next_state c.loop-taken.invariant.state ∙ more_state c.args.seed c.loop-taken._taken);
      is_drawn = (more_drawn c.args.on.now.cores c.args.seed c.loop-taken._taken c.draw-core.result c.loop-taken.schedule.items c.push.new.self.items c.loop-taken.invariant.is_drawn (is_core c.args.on.now.cores c.args.seed c.loop-taken._taken c.loop-taken.generator c.draw-core.result c.loop-taken.invariant.state c.draw-core.ensures.core) c.in-Ok.ensures.items);
      few = omega (arith, c.loop-taken-test.true);
      goes_on = open_more g.S.EpochStore.makes g.S.EpochStore.view g.S.EpochStore.waits c.args.on.now.cores c.args.seed c.loop-taken._taken (driver c.args.book.now c.args.shares.now) (driver c.loop-taken.book c.loop-taken.shares) c.loop-taken.schedule.items
          c.loop-taken.invariant.is_drawn c.loop-taken.invariant.goes_on (c.loop-taken.invariant.drives [] (Ok None) (driver c.loop-taken.book c.loop-taken.shares) (refl, refl));
      stopped = c.step.ensures.grows.stopped ∙ c.loop-taken.invariant.stopped;
      drives = goes_on g.S.EpochStore.makes g.S.EpochStore.view g.S.EpochStore.waits (harts_of c.loop-taken.held) (driver c.args.book.now c.args.shares.now) (driver c.loop-taken.book c.loop-taken.shares) (driver c.step.new.book c.step.new.shares) c.loop-taken.schedule.items c.push.new.self.items c.draw-core.result c.loop-taken.invariant.drives c.in-Ok.ensures.items
          c.in_ok-answer.answer (harts_of c.step.new.held) c.in_default-answer.not-Over c.in_default-answer.not-Stopped c.in_ok-answer.ensures.harts c.in_ok-answer.ensures.turned;
    }

all_taken : (taken : ℕ) → taken ≤ most_turns → most_turns ≤ taken → taken ≡ most_turns
all_taken taken few all = omega (arith, few, all)

pub returns-clause-drives : goal.returns-clause-drives
returns-clause-drives g c _ =
    most_taken g.S.EpochStore.makes g.S.EpochStore.view g.S.EpochStore.waits c.args.on.now.cores c.args.seed (driver c.args.book.now c.args.shares.now) (driver c.loop-taken.book c.loop-taken.shares) c.loop-taken.schedule.items
    (c.loop-taken.invariant.is_drawn ∙ ap (drawn c.args.on.now.cores c.args.seed) (all_taken c.loop-taken._taken c.loop-taken.invariant.few c.loop-taken-test.false))
    (λ m below. c.loop-taken.invariant.goes_on m (subst (λ k. m < k) (sym (all_taken c.loop-taken._taken c.loop-taken.invariant.few c.loop-taken-test.false)) below))
    (c.loop-taken.invariant.drives [] (Ok None) (driver c.loop-taken.book c.loop-taken.shares) (refl, refl))
