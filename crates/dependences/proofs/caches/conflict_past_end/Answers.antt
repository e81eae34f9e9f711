use Rattle.std.proofs.Common.{subst, ◌∙◌}
use Rattle.dependences.specs.KeptTouches.{AreClear, AreTouchesKept}
use Rattle.dependences.proofs.Caching.{never_at_all}
use Rattle.dependences.proofs.caches.conflict_past_end.Goals as goal

pub returns-then-ran-epochs-clause-none : goal.returns-then-ran-epochs-clause-none
returns-then-ran-epochs-clause-none c found =
    let last = c.if-ran-epochs.true ∙ c.epochs.ensures.epochs in
    never_at_all c.args.image.now c.args.cores c.args.watch.now.touches (subst (λ n. AreClear c.args.image.now c.args.cores n) last c.requires.clear)
    (subst (λ n. AreTouchesKept c.args.image.now c.args.cores n c.args.watch.now.touches) last c.requires.kept.touches)
