use Rattle.std.proofs.Common.{◌≡◌, ℕ, ◌<◌, true, sym, subst, ap, ◌∙◌}
use Rattle.spec_states.specs.Copies.{LineCopy, IsUpToDate, merged_line}
use Rattle.spec_states.specs.States.{is_speculative}
use Rattle.cache_lines.specs.CacheInside.{contents_of}
use Rattle.cache_lines.specs.Lines.{Contents, line_in, way_at}
use Rattle.cache_lines.specs.Changes.{published_line, with_each_line, CopiesAllChange, StandIn}
use Rattle.cache_lines.specs.Protocol.{copy_at, published_copy}
use Rattle.cache_lines.proofs.CopyLaws.{copies-each, ChangesCopy-published, unmarked-published, IsUpToDate-published}
use Rattle.cache_lines.proofs.Ways.{stand-each}
use Rattle.cache_lines.proofs.WholeCache.{IsPlaced-each, line_in-each}
use Rattle.cache_lines.proofs.cache.Cache.settle_all.Goals as goal

pub invariant_of-self : goal.invariant_of-self
invariant_of-self c =
    rw c.settle.ensures
    (IsPlaced-each (published_line true) (ChangesCopy-published true).keeps (contents_of c.self.inside) c.self.invariant)

pub returns-clause-copies : goal.returns-clause-copies
returns-clause-copies c =
    rw c.settle.ensures
    (subst (λ (cache : Contents). CopiesAllChange cache (with_each_line (published_line true) (contents_of c.self.inside)) (published_copy true)) c.self.view_is
    (copies-each (published_line true) (published_copy true) (ChangesCopy-published true) (contents_of c.self.inside) c.self.invariant))

pub returns-clause-unmarked : goal.returns-clause-unmarked
returns-clause-unmarked c =
    λ addr.
    ap (λ (copy : LineCopy). is_speculative copy.state) (returns-clause-copies c addr)
    ∙ unmarked-published true (copy_at c.args.self.now addr)

pub returns-clause-up_to_date : goal.returns-clause-up_to_date
returns-clause-up_to_date c =
    λ addr committed h.
    subst (λ (copy : LineCopy). IsUpToDate copy (merged_line (copy_at c.args.self.now addr).marks.bytes (copy_at c.args.self.now addr).cell committed)) (sym (returns-clause-copies c addr))
    (IsUpToDate-published true (copy_at c.args.self.now addr) committed h)

pub returns-clause-ways : goal.returns-clause-ways
returns-clause-ways c =
    rw c.settle.ensures
    (subst (λ (cache : Contents). StandIn (with_each_line (published_line true) (contents_of c.self.inside)) (way_at cache)) c.self.view_is
    (stand-each (published_line true) (ChangesCopy-published true).keeps (contents_of c.self.inside) c.self.invariant))

pub returns-clause-lines : goal.returns-clause-lines
returns-clause-lines c =
    rw c.settle.ensures
    (subst (λ (cache : Contents). (addr way : ℕ) → way < cache.geometry.ways → line_in (with_each_line (published_line true) (contents_of c.self.inside)) addr way ≡ published_line true (line_in cache addr way)) c.self.view_is
    (line_in-each (published_line true) (contents_of c.self.inside) c.self.invariant))
