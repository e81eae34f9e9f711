use Rattle.std.proofs.Common.{◌≡◌, refl, sym, ap, ◌∙◌}
use Rattle.cache_lines.specs.CacheInside.{contents_of}
use Rattle.cache_lines.specs.Cells.{line_with_number, IsWritten}
use Rattle.cache_lines.specs.Lines.{Contents, place, line_in}
use Rattle.cache_lines.proofs.LineLaws.{IsPlaced-with_line}
use Rattle.cache_lines.proofs.Written.{written_stands}
use Rattle.cache_lines.proofs.cache.Cache.put_number.Goals as goal

pub invariant_of-self : goal.invariant_of-self
invariant_of-self c =
    let cache : Contents = contents_of c.self.inside in
    let requires = rw (← c.self.view_is) at c.requires in
    let at : c.place-place.result ≡ place cache c.args.addr c.args.way =
    c.place-place.ensures.value ∙ ap (λ (cache : Contents). place cache c.args.addr c.args.way) (sym c.self.view_is) in
    let line = line_in cache c.args.addr c.args.way in
    let bytes : IsWritten line c.args.offset c.args.width c.args.value = rw at at c.write_number.ensures.bytes in
    rw (c.write_number.ensures.lines, at)
    (IsPlaced-with_line cache c.args.addr c.args.way (line_with_number line c.args.offset c.args.width c.args.value) c.self.invariant requires.in_ways
    (written_stands cache c.args.addr c.args.way c.args.offset c.args.width c.args.value (line_with_number line c.args.offset c.args.width c.args.value)
    c.self.invariant requires.in_ways requires.in_line requires.width requires.aligned refl bytes))
