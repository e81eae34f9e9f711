use Rattle.std.proofs.Common.{◌≡◌, ◌<◌, ◌∙◌, None, length, option_map, ap, sym, subst, arith}
use Rattle.std.specs.Option.{option_copied}
use Rattle.std.proofs.lemmas.List.{get_or_default}
use Rattle.rv32_exec.specs.Arrival.{Arrival}
use Rattle.homefree.specs.Acted.{IfArrived}
use Rattle.homefree.specs.Held.{harts_of, held_at}
use Rattle.even_speed.proofs.Choosing.{priced}
use Rattle.even_speed.proofs.choice.price_at.Goals as goal

pub returns-in-Some-clause-price : goal.returns-in-Some-clause-price
returns-in-Some-clause-price g c =
    let b = c.args.book.now in
    let hands = c.args.hands.now in
    let core = c.args.core in
    let there : core < length hands = omega (arith, c.requires.there, c.requires.few, c.type_inv.hands) in
    let hand : option_copied c.as_ref-hand.result ≡ held_at hands core = c.as_ref-hand.ensures.value ∙ get_or_default hands core _ None there in
    c.price_of.ensures.price
    ∙ priced g.S.PricedStore.prices g.S.EpochStore.waits b c.args.costs c.in-Some.costs (harts_of hands) core (option_copied c.as_ref-hand.result) c.actions_of.result c.look.ensures.state c.in-Some.is c.look.ensures.replays
    (subst (IfArrived b.image) (sym hand) (c.requires.came core)) (ap (option_map (λ (a : Arrival). a.base)) hand) (c.actions_of.ensures.value c.look.ensures.state c.look.ensures.replays)
