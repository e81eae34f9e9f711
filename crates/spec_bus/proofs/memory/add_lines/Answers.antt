use Rattle.std.proofs.Common.{◌≡◌, ℕ, ◌+◌, ◌-◌, ◌≤◌, ◌++◌, ◌∷◌, [], List, cond, not, replicate, ap, ◌∙◌, arith}
use Rattle.rv32_image.specs.Places.{place}
use Rattle.rv32_image.proofs.Places.{place-up}
use Rattle.spec_bus.proofs.Laying.{more_zeros}
use Rattle.spec_bus.proofs.memory.add_lines.Goals as goal

pub loop-preserved : goal.loop-preserved
loop-preserved c =
    let xs = c.loop.memory.items in
    let items : c.push.new.self.items ≡ xs ++ 0 ∷ [] =
    c.push.ensures.items ∙ ap (λ b. cond b (xs ++ 0 ∷ []) xs) (c.is_err.ensures.negation ∙ ap not c.if-is_err.false) in
    items
    ∙ (ap (λ (ys : List ℕ). ys ++ 0 ∷ []) c.loop.invariant
    ∙ more_zeros c.args.image.now.bytes (c.loop.counter - c.size-size.result) (c.loop.counter + 1 - c.size-size.result) (omega arith))

pub returns : goal.returns
returns c =
    let image = c.args.image.now in
    let up = place-up image.machine image.size image.size image.size c.size-size.ensures.limits.machine_allowed (omega arith) (omega arith) in
    let size_is : c.size-size.result ≡ image.size = c.size-size.ensures.size in
    let places_is : c.place-places.result ≡ place image.machine image.size image.size =
    c.place-places.ensures.place ∙ ap (place image.machine image.size) size_is in
    let above : c.size-size.result ≤ c.place-places.result = omega (arith, up, size_is, places_is) in
    c.loop.invariant
    ∙ ap (λ k. image.bytes ++ replicate k 0) (omega (arith, above, size_is, places_is))
