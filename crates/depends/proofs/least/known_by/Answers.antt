use Rattle.std.proofs.Common.{◌≡◌, ◌+◌, ◌<◌, ℕ, Some, inl, sym, subst}
use Rattle.dependences.specs.declared.caches.CacheConflict.{CacheConflict}
use Rattle.dependences.specs.Conflict.{LineConflictInOrder}
use Rattle.dependences.specs.KeptTouches.{IsFound}
use Rattle.depends.proofs.least.known_by.Goals as goal

pub returns-in-Line-clause-some : goal.returns-in-Line-clause-some
returns-in-Line-clause-some c =
    let image = c.args._image.now in
    let later = c.in-Line.later in
    let found : (conflict : LineConflictInOrder image c.args.cores) × (conflict.later ≡ later) =
    subst (λ (known : CacheConflict). IsFound image c.args.cores (Some known)) c.in-Line.is c.requires in
    inl (subst (λ (n : ℕ). LineConflictInOrder image (n + 1)) found.1
    (c.early_epochs_conflict_on_few_cores.ensures image c.args.cores found.0 (subst (λ (n : ℕ). n < c.args.cores) (sym found.1) c.if-later-cores.true)))
