use Rattle.std.proofs.Common.{◌≡◌, false, replicate, refl, arith}
use Rattle.cache_lines.specs.Lines.{invalid_line}
use Rattle.cache_lines.proofs.NotedLaws.{noted-replicate}
use Rattle.cache_lines.proofs.noted.Noted.invalid.Goals as goal

pub invariant_of-result : goal.invariant_of-result
unfolding invalid_line
invariant_of-result c =
    let lines : c.in_ok-lines.lines.items ≡ replicate c.args.count invalid_line = c.in_ok-lines.ensures.items_if_clones_equal (λ y is. is) in
    let listed : c.in_ok-listed.listed.items ≡ replicate c.args.count false = c.in_ok-listed.ensures.items_if_clones_equal (λ y is. is) in
    rw (lines, c.in_ok-places.ensures.items, listed)
    (noted-replicate c.args.count _ invalid_line refl (omega (arith, c.in_ok-places.ensures.capacity)))
