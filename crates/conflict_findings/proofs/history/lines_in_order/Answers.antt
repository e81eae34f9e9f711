use Rattle.std.proofs.Common.{◌<◌, ℕ, length, refl, arith}
use Rattle.conflict_findings.proofs.Searching.{lines_ordered}
use Rattle.conflict_findings.proofs.history.lines_in_order.Goals as goal

pub returns : goal.returns
returns c = λ reads are.
    let image = c.args.image.now in
    let read = c.args.read.now in
    let was = c.loop-addr.invariant in
    let all : (k : ℕ) → k < length read → k < c.loop-addr.addr-index = λ k below. omega (arith, below, c.loop-addr-test.false) in
    lines_ordered image reads read c.loop-addr.lines.items _ _ (omega (arith, was.long, c.loop-addr-test.false))
    (λ k below. was.each k (all k below)) (λ k below inside. was.within k (all k below) inside) refl
    c.sort_unstable.ensures.permutation c.sort_unstable.ensures.sorted are
