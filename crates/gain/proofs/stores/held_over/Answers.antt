use Rattle.std.proofs.Common.{refl, rules, subst}
use Rattle.even_speed.specs.Holds.{holding_of}
use Rattle.epoch_paths.specs.declared.pieces.Pieces.{Pieces}
use Rattle.all_schedules.specs.Holding.{WaitsInOrder}
use Rattle.gain.proofs.stores.held_over.Goals as goal

pub returns-then-not-asked : goal.returns-then-not-asked
returns-then-not-asked c = rw c.if-not-asked.true refl

pub returns-in-Ok : goal.returns-in-Ok
returns-in-Ok c =
    let waits = subst (λ (pieces : Pieces). WaitsInOrder c.args.asked.now.image.now pieces (holding_of c.in-Ok.holds)) c.pieces_of.ensures c.in-Ok.ensures in
    rw c.if-not-asked.false (holding_of c.in-Ok.holds, waits, record { holds_is = refl; queues_is = refl; costs_is = search rules })
