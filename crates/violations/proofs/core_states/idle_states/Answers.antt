use Rattle.std.proofs.Common.{◌≡◌, ◌+◌, ◌++◌, ◌∷◌, [], cond, not, length, ap, ◌∙◌, length-append}
use Rattle.violations.proofs.Changing.{idle_more}
use Rattle.violations.proofs.core_states.idle_states.Goals as goal

pub loop-preserved : goal.loop-preserved
loop-preserved c =
    let xs = c.loop.states.items in
    let state = c.new.result in
    let items : c.push.new.self.items ≡ xs ++ state ∷ [] =
    c.push.ensures.items ∙ ap (λ b. cond b (xs ++ state ∷ []) xs) (c.is_err.ensures.negation ∙ ap not c.if-is_err.false) in record {
      count = ap length items ∙ (length-append xs (state ∷ []) ∙ ap (λ n. n + 1) c.loop.invariant.count);
      idle = λ size. rw items (idle_more size xs state c.new.ensures.idle (c.new.ensures.within size) (c.loop.invariant.idle size));
    }
