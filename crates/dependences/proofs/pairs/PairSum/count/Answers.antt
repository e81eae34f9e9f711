use Rattle.std.proofs.Common.{◌≡◌, ◌+◌, refl, arith}
use Rattle.dependences.proofs.pairs.PairSum.count.Goals as goal

pub returns : goal.returns
returns c =
    let more : c.in-Some.times ≡ c.args.self.now.times + 1 = omega (arith, c.in-Some.ensures) in rw (more, c.lower.ensures, c.raise.ensures, c.lower-2.ensures, c.raise-2.ensures) refl
