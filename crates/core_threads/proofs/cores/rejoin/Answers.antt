use Rattle.core_threads.proofs.Passing.{both_counted, may_gather, all_gathered}
use Rattle.core_threads.proofs.cores.rejoin.Goals as goal

pub gather-shares-requires : goal.gather-shares-requires
gather-shares-requires g c =
    let both = both_counted c.args.first.pass c.args.rest.pass c.join-pass.result c.args.first.shares c.args.rest.shares c.requires.beside.0 c.requires.beside.1 c.requires.beside.2 c.args.first.counted c.args.rest.counted
    c.join-pass.ensures.joined c.join-pass.ensures.first_mine c.join-pass.ensures.second_mine in
    may_gather c.join-pass.result c.args.first.shares c.args.rest.shares both

pub invariant_of-result : goal.invariant_of-result
invariant_of-result g c =
    let both = both_counted c.args.first.pass c.args.rest.pass c.join-pass.result c.args.first.shares c.args.rest.shares c.requires.beside.0 c.requires.beside.1 c.requires.beside.2 c.args.first.counted c.args.rest.counted
    c.join-pass.ensures.joined c.join-pass.ensures.first_mine c.join-pass.ensures.second_mine in
    record { counted = all_gathered c.join-pass.result c.args.first.shares c.args.rest.shares c.gather-shares.result c.gather-shares.ensures both }
