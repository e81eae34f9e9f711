use Rattle.std.proofs.Common.{◌++◌, ◌∙◌, ℕ, List, ap}
use Rattle.conflict_findings.proofs.Searching.{ordered}
use Rattle.conflict_findings.proofs.history.in_order.Goals as goal

pub returns : goal.returns
returns c =
    ordered c.args.flat.now.image.size _ c.read_addresses.result.now _ _
    (c.in_ok-extend_from_slice.ensures.items ∙ ap (λ (xs : List ℕ). xs ++ c.read_addresses.result.now) c.new-read.ensures.items)
    c.read_addresses.ensures.within c.read_addresses.ensures.each c.sort_unstable.ensures.permutation c.sort_unstable.ensures.sorted
