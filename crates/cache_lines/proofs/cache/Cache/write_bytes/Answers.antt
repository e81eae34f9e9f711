use Rattle.std.proofs.Common.{refl}
use Rattle.cache_lines.specs.Cells.{line_with_number}
use Rattle.cache_lines.specs.Lines.{line_in}
use Rattle.cache_lines.proofs.LineLaws.{line_in-own}
use Rattle.cache_lines.proofs.CopyLaws.{copies-written}
use Rattle.cache_lines.proofs.Ways.{stand-changed}
use Rattle.cache_lines.proofs.Written.{written_stands}
use Rattle.cache_lines.proofs.cache.Cache.write_bytes.Goals as goal

pub returns-clause-copies : goal.returns-clause-copies
returns-clause-copies c =
    copies-written c.args.self.now c.put_number.new.self c.args.addr c.args.way c.args.offset c.args.width c.args.value
    (line_with_number (line_in c.args.self.now c.args.addr c.args.way) c.args.offset c.args.width c.args.value)
    c.put_number.ensures.placed c.requires.in_ways
    (written_stands c.args.self.now c.args.addr c.args.way c.args.offset c.args.width c.args.value
    (line_with_number (line_in c.args.self.now c.args.addr c.args.way) c.args.offset c.args.width c.args.value)
    c.put_number.ensures.placed c.requires.in_ways c.requires.in_line c.requires.width c.requires.aligned refl c.put_number.ensures.bytes)
    refl c.put_number.ensures.bytes c.put_number.ensures.exact

pub returns-clause-ways : goal.returns-clause-ways
returns-clause-ways c =
    rw c.put_number.ensures.exact
    (stand-changed c.args.self.now c.args.addr c.args.way (line_with_number (line_in c.args.self.now c.args.addr c.args.way) c.args.offset c.args.width c.args.value)
    c.put_number.ensures.placed c.requires.in_ways (λ x e. e))

pub returns-clause-line : goal.returns-clause-line
returns-clause-line c =
    rw c.put_number.ensures.exact
    (line_in-own c.args.self.now c.args.addr c.args.way _ c.put_number.ensures.placed c.requires.in_ways)
