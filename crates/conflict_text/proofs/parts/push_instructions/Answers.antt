use Rattle.std.proofs.Common.{rules, ◌≡◌, ◌++◌, ◌∙◌, ap, map}
use Rattle.std.specs.List.{flat_map}
use Rattle.std.specs.Map.Iter.{deref_pair}
use Rattle.std.proofs.lemmas.Map.Iter.{iter_end}
use Rattle.std.specs.BTreeMap.{get}
use Rattle.std.specs.Ordering.{nat_cmp}
use Rattle.conflict_findings.specs.Keys.{sum_or}
use Rattle.conflict_text.specs.Report.{pc_text}
use Rattle.conflict_text.proofs.parts.push_instructions.Goals as goal

pub returns-clause-told : goal.returns-clause-told
returns-clause-told c =
    let all : map deref_pair c.loop-pc.yielded ≡ c.args.sums.now.entries = search (rules, iter_end) in
    c.loop-pc.invariant ∙ ap (λ es. c.args.text.now.items ++ flat_map (λ e. pc_text e.0 (sum_or (get nat_cmp c.args.loads.now e.0)) (sum_or (get nat_cmp c.args.stores.now e.0))) es) all
