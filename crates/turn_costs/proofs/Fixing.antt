-- What a turn does is fixed by the book, what its store holds included.
use Rattle.std.proofs.Common.{◌≡◌, sym}
use Rattle.violations.specs.View.{Waits}
use Rattle.turn_costs.specs.Fixed.{ActionsAreFixed}
use Rattle.turn_costs.specs.Prices.{Prices, AreSamePrices, PricesAreFixed, AreSameWaits, WaitsAreFixed}
use Rattle.turn_costs.specs.Turns.{actions_of}

one_price : (p q : Prices) → AreSamePrices p q → p ≡ q
one_price p q same =
    (λ i. record {
      load = λ straight core address. same.load straight core address i;
      store = λ straight core address. same.store straight core address i;
      lines = λ core. same.lines core i;
    })

one_wait : (v w : Waits) → AreSameWaits v w → v ≡ w
one_wait v w same =
    (λ i. record {
      load = λ core address width. same.load core address width i;
      store = λ core address width. same.store core address width i;
    })

pub actions_fixed : {S : Type 0} (keeps : S → Type 0) (alike : S → S → Type 0) (prices : S → Prices) (waits : S → Waits) → PricesAreFixed keeps alike prices
    → WaitsAreFixed keeps alike waits → ActionsAreFixed keeps alike prices waits
actions_fixed keeps alike prices waits price wait b c s core next k l twins =
    let p : prices b.store ≡ prices c.store = one_price (prices b.store) (prices c.store) (price b.store c.store k l twins.stores) in
    let w : waits b.store ≡ waits c.store = one_wait (waits b.store) (waits c.store) (wait b.store c.store k l twins.stores) in
    let image : b.image ≡ c.image = sym twins.image in
    let cores : b.cores ≡ c.cores = sym twins.cores in
    (λ i. actions_of (p i) (record { image = image i; cores = cores i; waits = w i; state = s; core = core; next = next }))
