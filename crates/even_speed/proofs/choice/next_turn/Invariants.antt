use Rattle.homefree.specs.Held.{harts_of}
use Rattle.even_speed.specs.Clocks.{clock_at, dues}
use Rattle.even_speed.specs.Even.{price_by}
use Rattle.even_speed.specs.Held.{held_in}
use Rattle.even_speed.specs.Holds.{holding_of}
use Rattle.even_speed.specs.Kept.{IsNext}
use Rattle.even_speed.proofs.choice.next_turn.Given as goal

abbrev pub invariant-loop-core : goal.invariant-loop-core
invariant-loop-core g l =
    IsNext l.free (price_by g.S.PricedStore.prices g.S.EpochStore.waits l.terms.costs l.book (harts_of l.hands)) (dues (held_in (holding_of l.terms.holds) l.book (harts_of l.hands)) (clock_at l.clocks.items))
    l.core l.found
