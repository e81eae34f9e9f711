use Rattle.std.proofs.Common.{arith}
use Rattle.cache_lines.proofs.ListLaws.{list_room, list_more}
use Rattle.cache_lines.proofs.noted.list.Goals as goal

pub push_reserved-requires : goal.push_reserved-requires
push_reserved-requires c =
    omega (arith, c.args.places.now.ok.0, list_room c.args.places.now.items c.args.listed.now c.args.place c.requires.within c.if-listed-place.false c.requires.list)

pub returns-clause-list : goal.returns-clause-list
returns-clause-list c =
    rw c.push_reserved.ensures.items
    (list_more c.args.places.now.items c.args.listed.now c.args.place c.requires.within c.if-listed-place.false c.requires.list)
