use Rattle.std.proofs.Common.{◌≡◌, ◌+◌, ◌++◌, ◌∷◌, [], cond, not, length, ap, ◌∙◌, length-append}
use Rattle.spec_history.proofs.Replay.Reaching.{idle_more}
use Rattle.spec_history.proofs.machine.idle_cores.Goals as goal

pub loop-preserved : goal.loop-preserved
loop-preserved c =
    let xs = c.loop.cores.items in
    let core = c.new.result in
    let items : c.push.new.self.items ≡ xs ++ core ∷ [] =
    c.push.ensures.items ∙ ap (λ b. cond b (xs ++ core ∷ []) xs) (c.is_err.ensures.negation ∙ ap not c.if-is_err.false) in record {
      count = ap length items ∙ (length-append xs (core ∷ []) ∙ ap (λ n. n + 1) c.loop.invariant.count);
      idle = rw items (idle_more xs core c.new.ensures.idle c.new.ensures.fit c.loop.invariant.idle);
    }
