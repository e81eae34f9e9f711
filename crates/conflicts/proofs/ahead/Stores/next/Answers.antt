use Rattle.std.proofs.Common.{◌≡◌, ◌+◌, min, unwrap_or, subst}
use Rattle.spec_history.specs.Searches.{IsNext}
use Rattle.conflicts.specs.Ahead.{place_of}
use Rattle.conflicts.specs.Attempts.{core_does, stores_byte}
use Rattle.conflicts.proofs.Storing.{next_is}
use Rattle.conflicts.proofs.ahead.Stores.next.Goals as goal

pub returns-clause-next : goal.returns-clause-next
returns-clause-next c size entries core ahead past small =
    let end = c.args.self.now.end in
    let index = c.count_before-index.result in
    let same : min (unwrap_or (place_of c.args.self.now.bytes.items index c.args.addr) end) end ≡ c.min.result = cc in
    subst (IsNext (λ j. core_does entries core j (stores_byte c.args.addr)) (c.args.after + 1) end) same
    (next_is size entries core c.args.addr c.args.after index c.args.self.now ahead past small c.requires (c.count_before-index.ensures.split ahead.ordered))
