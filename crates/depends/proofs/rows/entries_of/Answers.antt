use Rattle.std.proofs.Common.{rules, ◌≡◌, ◌∙◌, map}
use Rattle.std.specs.Map.Iter.{deref_pair}
use Rattle.std.proofs.lemmas.Map.Iter.{iter_end}
use Rattle.depends.proofs.rows.entries_of.Goals as goal

pub returns-clause-all : goal.returns-clause-all
returns-clause-all c =
    let all : map deref_pair c.loop-pair.yielded ≡ c.args.sums.now.entries = search (rules, iter_end) in
    c.loop-pair.invariant ∙ all
