use Rattle.cache_lines.proofs.CopyLaws.{copies-marked}
use Rattle.cache_lines.proofs.Ways.{stand-marked}
use Rattle.cache_lines.proofs.Written.{marked_stands}
use Rattle.cache_lines.proofs.cache.Cache.mark.Goals as goal

pub returns-clause-copies : goal.returns-clause-copies
returns-clause-copies c =
    copies-marked c.args.self.now c.put_marks.new.self c.args.addr c.args.way c.args.next c.put_marks.ensures.placed c.requires.in_ways c.requires.held
    (marked_stands c.args.self.now c.args.addr c.args.way c.args.next c.put_marks.ensures.placed c.requires.in_ways c.requires.held c.requires.mask)
    c.put_marks.ensures.exact

pub returns-clause-ways : goal.returns-clause-ways
returns-clause-ways c =
    stand-marked c.args.self.now c.put_marks.new.self c.args.addr c.args.way c.args.next c.put_marks.ensures.placed c.requires.in_ways c.requires.held
    c.put_marks.ensures.exact
