use Rattle.std.proofs.Common.{◌≡◌, ◌+◌, ◌++◌, ◌∷◌, [], List, cond, not, length, sym, ap, subst, ◌∙◌, length-append}
use Rattle.spec_bus.specs.declared.bus_core.Core.{Core}
use Rattle.spec_bus.specs.Fresh.{AreIdle}
use Rattle.spec_bus.proofs.Idle.{idle_more, idle_none}
use Rattle.spec_bus.proofs.cores.idle_cores.Goals as goal

pub loop-init : goal.loop-init
loop-init c =
    let empty : c.new-cores.result.items ≡ [] = c.new-cores.ensures.items in record {
      count = ap length empty;
      idle = subst (λ (cores : List Core). AreIdle c.args.machine cores) (sym empty) (idle_none c.args.machine);
    }

pub loop-preserved : goal.loop-preserved
loop-preserved c =
    let xs = c.loop.cores.items in
    let core = c.in-Ok.core in
    let items : c.push.new.self.items ≡ xs ++ core ∷ [] =
    c.push.ensures.items ∙ ap (λ b. cond b (xs ++ core ∷ []) xs) (c.is_err.ensures.negation ∙ ap not c.if-is_err.false) in record {
      count = ap length items ∙ (length-append xs (core ∷ []) ∙ ap (λ n. n + 1) c.loop.invariant.count);
      idle = rw items (idle_more c.args.machine xs core c.loop.invariant.idle c.in-Ok.ensures);
    }
