use Rattle.std.proofs.Common.{◌∙◌, sym}
use Rattle.homefree.specs.Turned.{turn_at}
use Rattle.turn_costs.proofs.Turning.{at_load, at_store, at_end, at_fault}
use Rattle.turn_costs.proofs.turn.stop_of.Goals as goal

pub returns-in-Load : goal.returns-in-Load
returns-in-Load g c = λ s next replays.
    c.access_of.ensures s next replays
    ∙ at_load (g.S.PricedStore.prices c.args.book.now.store) (turn_at g.S.EpochStore.waits c.args.book.now s c.args.core next) c.args.running.now c.args.arrived.now.at
    c.in-Load.addr c.in-Load.width c.in-Load.signed c.in-Load.rd (sym c.at.ensures.at ∙ c.in-Load.is)

pub returns-in-Store : goal.returns-in-Store
returns-in-Store g c = λ s next replays.
    c.access_of-in-Store.ensures s next replays
    ∙ at_store (g.S.PricedStore.prices c.args.book.now.store) (turn_at g.S.EpochStore.waits c.args.book.now s c.args.core next) c.args.running.now c.args.arrived.now.at
    c.in-Store.addr c.in-Store.width c.in-Store.value (sym c.at.ensures.at ∙ c.in-Store.is)

pub returns-in-Ended : goal.returns-in-Ended
returns-in-Ended g c = λ s next replays.
    c.end_of.ensures s next replays
    ∙ at_end (g.S.PricedStore.prices c.args.book.now.store) (turn_at g.S.EpochStore.waits c.args.book.now s c.args.core next) c.args.running.now c.args.arrived.now.at
    (sym c.at.ensures.at ∙ c.in-Ended.is)

pub returns-in-Fault : goal.returns-in-Fault
returns-in-Fault g c = λ s next replays.
    c.end_of-in-Fault.ensures s next replays
    ∙ at_fault (g.S.PricedStore.prices c.args.book.now.store) (turn_at g.S.EpochStore.waits c.args.book.now s c.args.core next) c.args.running.now c.args.arrived.now.at
    c.in-Fault.cause c.in-Fault.pc (sym c.at.ensures.at ∙ c.in-Fault.is)
