use Rattle.std.proofs.Common.{◌+◌, Some, None, refl, subst, arith}
use Rattle.dependences.specs.Nearest.{IsNearest}
use Rattle.dependences.proofs.Distances.{far_below, far_on, near_more, near_on, some_apart}
use Rattle.dependences.proofs.conflict.least_conflict_over_bytes.Goals as goal

pub returns-in-Some-clause-found : goal.returns-in-Some-clause-found
returns-in-Some-clause-found c =
    let image = c.args.image.now in
    let distance = c.in-Some.distance in
    let near : IsNearest image (Some distance) = subst (IsNearest image) c.in-Some.is c.requires.nearest in
    let some = some_apart image distance near in
    (omega (arith, some), omega (arith, c.if-distance-cores.true), near_on image c.requires.all (Some distance) near (distance + 1) (near_more distance))

pub returns-in-Some-clause-fewer : goal.returns-in-Some-clause-fewer
returns-in-Some-clause-fewer c fewer low =
    let image = c.args.image.now in
    let distance = c.in-Some.distance in
    far_on image c.requires.all (Some distance) (subst (IsNearest image) c.in-Some.is c.requires.nearest) fewer c.requires.limits
    (far_below distance fewer (omega (arith, low))) fewer (omega arith)

pub returns-in_default-clause-none : goal.returns-in_default-clause-none
returns-in_default-clause-none c none =
    let image = c.args.image.now in
    let distance = c.in-Some.distance in
    far_on image c.requires.all (Some distance) (subst (IsNearest image) c.in-Some.is c.requires.nearest) c.args.cores c.requires.limits
    (far_below distance c.args.cores c.if-distance-cores.false)

pub returns-in_default-2-clause-none : goal.returns-in_default-2-clause-none
returns-in_default-2-clause-none c none =
    let image = c.args.image.now in
    far_on image c.requires.all None (subst (IsNearest image) c.in_default.is c.requires.nearest) c.args.cores c.requires.limits refl
