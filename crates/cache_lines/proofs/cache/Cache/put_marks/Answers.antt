use Rattle.std.proofs.Common.{◌≡◌, sym, ap, ◌∙◌}
use Rattle.cache_lines.specs.CacheInside.{contents_of}
use Rattle.cache_lines.specs.Changes.{changed_line}
use Rattle.cache_lines.specs.Lines.{Contents, place, line_in}
use Rattle.cache_lines.proofs.LineLaws.{IsPlaced-with_line}
use Rattle.cache_lines.proofs.Written.{marked_stands}
use Rattle.cache_lines.proofs.cache.Cache.put_marks.Goals as goal

pub invariant_of-self : goal.invariant_of-self
invariant_of-self c =
    let cache : Contents = contents_of c.self.inside in
    let requires = rw (← c.self.view_is) at c.requires in
    let at : c.place-place.result ≡ place cache c.args.addr c.args.way =
    c.place-place.ensures.value ∙ ap (λ (cache : Contents). place cache c.args.addr c.args.way) (sym c.self.view_is) in
    rw (c.mark.ensures, at)
    (IsPlaced-with_line cache c.args.addr c.args.way (changed_line (line_in cache c.args.addr c.args.way) c.args.next) c.self.invariant requires.in_ways
    (marked_stands cache c.args.addr c.args.way c.args.next c.self.invariant requires.in_ways requires.held requires.mask))
