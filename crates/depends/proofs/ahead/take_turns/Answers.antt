use Rattle.std.proofs.Common.{◌≡◌, ◌∙◌, sym, subst, refl, arith}
use Rattle.homefree.specs.Acted.{IfArrived}
use Rattle.homefree.proofs.Books.Drives.{none_held}
use Rattle.depends.proofs.ahead.take_turns.Goals as goal

pub loop-taken-init : goal.loop-taken-init
loop-taken-init g c = record {
  same = record { image = refl; cores = refl; room = refl };
  shares = c.requires.shares;
  held = λ k. subst (λ o. IfArrived c.args.book.now.image o) (sym (none_held 16 k)) tt;
  plan = c.requires.plan;
}

pub loop-taken-preserved : goal.loop-taken-preserved
loop-taken-preserved g c =
    let fits = c.loop-taken.invariant in
    let before = fits.same in
    let same = c.step.ensures.same in
    let window = fits.plan.window in
    let is : c.in-Some.next.window ≡ c.loop-taken.plan.window = c.in-Some.ensures.window in
    let cores : c.step.new.book.cores ≡ c.loop-taken.book.cores = same.cores in record {
      same = record { image = same.image ∙ before.image; cores = same.cores ∙ before.cores; room = same.room ∙ before.room };
      shares = c.step.ensures.shares;
      held = c.step.ensures.held;
      plan = record { core = c.in-Some.ensures.core fits.plan.core; window = omega (arith, is, window, cores) };
    }
