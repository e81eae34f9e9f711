-- Where all costs are 0, each price has nothing to pay: so a turn begins when it would without costs.
use Rattle.std.proofs.Common.{◌≡◌, ℕ, ◌+◌, ◌≤◌, ◌==◌, Bool, true, false, Option, Some, None, refl, sym, ap, subst, ◌∙◌, arith, eq-eqb, true≢false}
use Rattle.rv32_exec.specs.Hart.{HartState}
use Rattle.spec_history.specs.FlatState.{FlatState}
use Rattle.spec_history.specs.Replay.{replay}
use Rattle.violations.specs.View.{Waits}
use Rattle.homefree.specs.declared.answer.Answer.{Answer}
use Rattle.homefree.specs.BookView.{BookView}
use Rattle.turn_costs.specs.declared.actions.Actions.{Actions}
use Rattle.turn_costs.specs.Actions.{handling_steps, memory_steps}
use Rattle.turn_costs.specs.Costs.{bus_costs}
use Rattle.turn_costs.specs.Prices.{Prices}
use Rattle.even_speed.specs.declared.clocks.Turn.{Turn}
use Rattle.even_speed.specs.declared.pricing.Free.{Free}
use Rattle.even_speed.specs.declared.pricing.Price.{Price}
use Rattle.even_speed.specs.Account.{nothing_spent, total}
use Rattle.even_speed.specs.Clocks.{IsFirst}
use Rattle.even_speed.specs.Even.{price_in, prices_in, pricing_of}
use Rattle.even_speed.specs.Pricing.{begins, free_after, held_until, if_needed, later, over_at, price_of}
use Rattle.even_speed.proofs.Sounding.{later_least, later_of, order_calm, over_calm}

-- ---- prices

pub record CostsNone (p : Price) : Type 0 where
  pub bus : p.bus ≡ 0
  pub spent : p.spent ≡ nothing_spent

zero_price : (a : Actions) → CostsNone (price_of (bus_costs 0) a)
zero_price a = record { bus = omega arith; spent = λ i. record { handling = handling i; memory = memory i; queue = 0 } }
  where
    handling : handling_steps (bus_costs 0) a ≡ 0
    handling = omega arith

    memory : memory_steps (bus_costs 0) a ≡ 0
    memory = omega arith

module _ {S : Type 0} (prices : S → Prices) (waits : S → Waits) (b : BookView S) (hands : ℕ → Option HartState) where
  zero_in : (s : Option FlatState) (k : ℕ) → CostsNone (price_in (pricing_of prices (Some (bus_costs 0))) waits b s k (hands k))
  zero_in None k = record { bus = refl; spent = refl }
  zero_in (Some s) k = zero_price _

  pub zero_prices : (k : ℕ) → CostsNone (prices_in (pricing_of prices (Some (bus_costs 0))) waits b hands k)
  zero_prices k = zero_in (replay b.image b.cores b.history) k

-- ---- when a turn begins

-- the bus and the order are free as the last turn begins
pub record IsCalm (free : Free) : Type 0 where
  pub bus : free.bus ≤ free.began
  pub order : free.order ≤ free.began

needed_calm : (needs : Bool) (free at : ℕ) → free ≤ at → if_needed needs free at ≡ at
needed_calm true free at calm = later_of free at calm
needed_calm false free at calm = refl

pub begins_calm : (free : Free) (p : Price) (due : ℕ) → IsCalm free → begins free p due ≡ later free.began due
begins_calm free p due calm =
    let least = later_least free.began due in
    let bus = needed_calm p.needs_bus free.bus (later free.began due) (omega (arith, calm.bus, least.0)) in
    let order = needed_calm p.in_order free.order (later free.began due) (omega (arith, calm.order, least.0)) in
    ap (if_needed p.in_order free.order) bus ∙ order

-- the one that begins first is the same, where all would begin at the same times
pub first_again : (free free' : Free) (prices prices' : ℕ → Price) (dues dues' : ℕ → Option ℕ) (n : ℕ) (t : Turn)
    → ((k due : ℕ) → begins free' (prices' k) due ≡ begins free (prices k) due) → ((k : ℕ) → dues' k ≡ dues k)
    → IsFirst free prices dues n t → IsFirst free' prices' dues' n (record t { price = prices' t.core })
first_again free free' prices prices' dues dues' n t begin due_is first = record {
  core = first.core;
  due = due_is t.core ∙ first.due;
  price = refl;
  begins_at = first.begins_at ∙ (ap (λ p. begins free p t.due) first.price ∙ sym (begin t.core t.due));
  soonest = λ k due below is. subst (λ m. t.at ≤ m) (sym (begin k due)) (first.soonest k due below (sym (due_is k) ∙ is));
  longest = λ k due below is at. first.longest k due below (sym (due_is k) ∙ is) (sym (begin k due) ∙ at);
  lowest = λ k below is at. first.lowest k below (sym (due_is k) ∙ is) (sym (begin k t.due) ∙ at);
}

held_calm : (bus at n : ℕ) (none : Bool) → (n == 0) ≡ none → n ≡ 0 → held_until bus at n ≡ bus
held_calm bus at n true is none = rw is refl
held_calm bus at n false is none = absurd (true≢false (sym (eq-eqb n 0 none) ∙ is))

pub calm_after : (free : Free) (t : Turn) (answer : Answer) → CostsNone t.price → IsCalm free → free.began ≤ t.at → IsCalm (free_after free t.at t.price answer)
calm_after free t answer none calm passes = record {
  bus = subst (λ n. n ≤ t.at) (sym (held_calm free.bus t.at t.price.bus (t.price.bus == 0) refl none.bus)) (omega (arith, calm.bus, passes));
  order = order_calm free t answer (ap total none.spent) calm.order passes;
}

pub over_zero : (free : Free) (t : Turn) → CostsNone t.price → free.order ≤ free.began → free.began ≤ t.at → over_at free t.at t.price ≡ t.at + 1
over_zero free t none calm passes = let spent : total t.price.spent ≡ 0 = ap total none.spent in omega (arith, over_calm free t calm passes, spent)
