use Rattle.std.proofs.Common.{rules, ◌≡◌, ◌++◌, ◌∙◌, ap, map}
use Rattle.std.specs.List.{flat_map}
use Rattle.std.specs.Map.Iter.{deref_pair}
use Rattle.std.proofs.lemmas.Map.Iter.{iter_end}
use Rattle.conflict_text.specs.Report.{epoch_line}
use Rattle.conflict_text.proofs.sums.push_epochs.Goals as goal

pub returns-clause-told : goal.returns-clause-told
returns-clause-told c =
    let all : map deref_pair c.loop-epoch.yielded ≡ c.args.sums.now.entries = search (rules, iter_end) in
    c.loop-epoch.invariant ∙ ap (λ es. c.args.text.now.items ++ flat_map (epoch_line) es) all
