-- The run at even speed: each turn is that of the core which can begin first, of several of that which is due first, and of these the one with the lowest
-- number. A core isn't due while it is held, at a load that waits; where none does, no core is held.
-- Source: this project; Oplinger, Heine and Lam, as the clocks.
use Rattle.std.specs.Prelude.{◌≡◌, ◌⊎◌, ℕ, suc, ◌-◌, ◌*◌, ◌^◌, ◌<◌, ◌≤◌, Bool, true, ◌==◌, ◌&&◌, not, is_some, List, [], ◌∷◌, Option, Some, None, Result, Ok, Err, option_map, if◌then◌else◌}
use Rattle.rv32_image.specs.Image.{LoadedImage}
use Rattle.rv32_exec.specs.declared.sequential.End.{End}
use Rattle.rv32_exec.specs.declared.sequential.End.TheVariants.{Done}
use Rattle.rv32_exec.specs.Hart.{HartState}
use Rattle.rv32_exec.specs.NextEvent.{next_event}
use Rattle.spec_history.specs.FlatState.{FlatState}
use Rattle.spec_history.specs.Replay.{replay}
use Rattle.violations.specs.View.{IsSettled, StoreView, Waits}
use Rattle.violations.specs.Calls.{Call}
use Rattle.homefree.specs.declared.answer.Answer.{Answer}
use Rattle.homefree.specs.declared.answer.Answer.TheVariants.{Go, Again, Left, Over, Stopped}
use Rattle.homefree.specs.declared.fault.TurnFault.{TurnFault}
use Rattle.homefree.specs.declared.fault.TurnFault.TheVariants.{HistoryFull, NoMemory}
use Rattle.homefree.specs.BookView.{BookView}
use Rattle.homefree.specs.Driven.{Driver, TurnedWith, arrival_of, held_after, with_held}
use Rattle.homefree.specs.Turned.{turn_at}
use Rattle.turn_costs.specs.declared.costs.Costs.{Costs}
use Rattle.turn_costs.specs.Prices.{Prices}
use Rattle.turn_costs.specs.Turns.{actions_of}
use Rattle.even_speed.specs.declared.clock.Clock.{Clock}
use Rattle.even_speed.specs.declared.clocks.Turn.{Turn}
use Rattle.even_speed.specs.declared.pricing.Free.{Free}
use Rattle.even_speed.specs.declared.pricing.Price.{Price}
use Rattle.even_speed.specs.declared.terms.Terms.{Terms}
use Rattle.even_speed.specs.declared.run.Ran.{Ran}
use Rattle.even_speed.specs.Account.{WastesNone, steps_of, useful_in}
use Rattle.even_speed.specs.InOrder.{instructions_in_order, steps_in_order}
use Rattle.even_speed.specs.Clocks.{IsFirst, account_of, answered, dues, first_clock, late_clocks, woken_by}
use Rattle.even_speed.specs.Held.{Holding, held_in}
use Rattle.even_speed.specs.Holds.{holding_of}
use Rattle.even_speed.specs.Pricing.{all_free, free_after, no_price, over_at, price_of}

-- ---- how a run is paced

-- what a store's calls do that costs, and how much that costs
pub record Pricing (S : Type 0) : Type 0 where
  pub prices : S → Prices
  pub costs : Costs

-- which loads wait, whether a core that is late is in a queue or is held, and what turns cost, where they cost something
pub record Pacing (S : Type 0) : Type 0 where
  pub holds : Holding
  pub queues : Bool
  pub pricing : Option (Pricing S)

abbrev pub pricing_of : {S : Type 0} → (S → Prices) → Option Costs → Option (Pricing S)
pricing_of prices (Some costs) = Some (record { prices = prices; costs = costs })
pricing_of prices None = None

-- who is late is in a queue where turns cost something and that is so; otherwise it is held
abbrev pub pacing : {S : Type 0} → (S → Prices) → Holding → Bool → Option Costs → Pacing S
pacing prices holds queues costs = record { holds = holds; queues = is_some costs && queues; pricing = pricing_of prices costs }

abbrev pub queues_of : Terms → Bool
queues_of terms = is_some terms.costs && terms.queues

abbrev pub pacing_of : {S : Type 0} → (S → Prices) → Terms → Pacing S
pacing_of prices terms = pacing prices (holding_of terms.holds) terms.queues terms.costs

-- the price of the turn of a core that has this in hand, in the state that the history leads to
abbrev pub price_in : {S : Type 0} → Option (Pricing S) → (S → Waits) → BookView S → Option FlatState → ℕ → Option HartState → Price
price_in (Some p) waits b (Some s) core hand = price_of p.costs (actions_of (p.prices b.store) (turn_at waits b s core (option_map (arrival_of b.image) hand)))
price_in (Some p) waits b None core hand = no_price
price_in None waits b s core hand = no_price

-- so of each core
abbrev pub prices_in : {S : Type 0} → Option (Pricing S) → (S → Waits) → BookView S → (ℕ → Option HartState) → ℕ → Price
prices_in pricing waits b hands k = price_in pricing waits b (replay b.image b.cores b.history) k (hands k)

abbrev pub price_by : {S : Type 0} → (S → Prices) → (S → Waits) → Option Costs → BookView S → (ℕ → Option HartState) → ℕ → Price
price_by prices waits costs b hands = prices_in (pricing_of prices costs) waits b hands

-- the store keeps what every one of its kind does, on which the prices stand, beside what every store keeps
abbrev pub IsKept : {S : Type 0} → Option (Pricing S) → (S → Type 0) → S → Type 0
IsKept (Some p) keeps s = keeps s
IsKept None keeps s = Unit {0}

-- ---- the turns

-- what each core has in hand, its clock, and what is free
pub record Pace : Type 0 where
  pub held : ℕ → Option HartState
  pub clocks : ℕ → Clock
  pub free : Free

-- at the start of the run
abbrev pub at_first : Pace
at_first = record { held = λ _. None; clocks = λ _. first_clock; free = all_free }

-- how many instructions the core executes from its hart to the next event
abbrev pub executed_by : LoadedImage → Answer → ℕ
executed_by image (Go hart) = (next_event image hart).now.done - hart.done
executed_by image (Again cause) = 0
executed_by image Left = 0
executed_by image (Over end) = 0
executed_by image (Stopped cause) = 0

-- the turn has a restart
abbrev pub restarts : {S : Type 0} → Driver S → Driver S → Bool
restarts old new = not (new.book.totals.restarts == old.book.totals.restarts)

-- the clocks after a turn of this core that begins at this time
abbrev pub clocks_after : {S : Type 0} → Driver S → Driver S → (ℕ → Clock) → Turn → Answer → ℕ → Clock
clocks_after old new clocks t answer =
    woken_by answer t.at (λ k. if k == t.core then answered t.at (restarts old new) (executed_by old.book.image answer) t.price.spent answer (clocks k) else clocks k)

-- what is in hand, the clocks and what is free after it
abbrev pub pace_after : {S : Type 0} → Driver S → Driver S → Bool → Pace → Turn → Answer → Pace
pace_after old new queues p t answer = record {
  held = with_held p.held t.core (held_after answer (p.held t.core));
  clocks = clocks_after old new (late_clocks queues p.clocks t) t answer;
  free = free_after p.free t.at t.price answer;
}

-- the run that the loop's end ends
abbrev pub ran_at : ℕ → ℕ → (ℕ → Clock) → End → Ran
ran_at cores end clocks over = record { end = over; steps = end; account = account_of end clocks cores }

-- the turn, below which these follow, ends the run, as the last of its schedule; or the run goes on
abbrev pub EndsOrGoes : {S : Type 0} → Driver S → Driver S → Bool → Pace → Turn → Result Answer TurnFault → List ℕ → Result (Option Ran) TurnFault → Driver S → Type 0 → Type 0
EndsOrGoes old mid queues p t (Ok (Over end)) rest result new more = (rest ≡ []) × (new ≡ mid)
    × (result ≡ Ok (Some (ran_at old.book.cores (over_at p.free t.at t.price) (clocks_after old mid (late_clocks queues p.clocks t) t (Over end)) end)))
EndsOrGoes old mid queues p t (Ok (Stopped cause)) rest result new more = (rest ≡ []) × (new ≡ mid) × (result ≡ Ok None)
EndsOrGoes old mid queues p t (Err fault) rest result new more = (rest ≡ []) × (new ≡ mid) × (result ≡ Err fault)
EndsOrGoes old mid queues p t (Ok (Go hart)) rest result new more = more
EndsOrGoes old mid queues p t (Ok (Again cause)) rest result new more = more
EndsOrGoes old mid queues p t (Ok Left) rest result new more = more

abbrev pub go_answer : Result Answer TurnFault → Answer
go_answer (Ok answer) = answer
go_answer (Err fault) = Left

-- the turns of a schedule, each of the core that begins first, up to the first that ends the run
abbrev pub Evenly : {S : Type 0} → (S → Call → S → Type 0) → (S → StoreView) → (S → Waits) → (S → Type 0) → Pacing S → Pace → Driver S → List ℕ → Result (Option Ran) TurnFault → Driver S → Type 0
Evenly makes view waits keeps paced p old [] result new = (new ≡ old) × (result ≡ Ok None)
Evenly {S} makes view waits keeps paced p old (core ∷ rest) result new =
    (t : Turn) × (mid : Driver S) × (answer : Result Answer TurnFault)
    × (t.core ≡ core) × (IsSettled (view old.book.store) × IsKept paced.pricing keeps old.book.store)
    × IsFirst p.free (prices_in paced.pricing waits old.book p.held) (dues (held_in paced.holds old.book p.held) p.clocks) old.book.cores t
    × TurnedWith makes view waits old t.core (p.held t.core) answer mid
    × EndsOrGoes old mid paced.queues p t answer rest result new
    (Evenly makes view waits keeps paced (pace_after old mid paced.queues p t (go_answer answer)) mid rest result new)

-- unless memory was refused
abbrev pub UnlessRefused : Result (Option Ran) TurnFault → Type 0 → Type 0
UnlessRefused (Ok ran) P = P
UnlessRefused (Err HistoryFull) P = P
UnlessRefused (Err NoMemory) P = Unit {0}

-- so where the loop is over
abbrev pub IfRan : Result (Option Ran) TurnFault → (Ran → Type 0) → Type 0
IfRan (Ok (Some ran)) P = P ran
IfRan (Ok None) P = Unit {0}
IfRan (Err fault) P = Unit {0}

-- the end of the loop, where there is one
abbrev pub end_in : Result (Option Ran) TurnFault → Result (Option End) TurnFault
end_in (Ok (Some ran)) = Ok (Some ran.end)
end_in (Ok None) = Ok None
end_in (Err fault) = Err fault

-- each step of each core is one of the account's
abbrev pub IsWhole : ℕ → Ran → Type 0
IsWhole cores ran = steps_of ran.account ≡ cores * ran.steps

-- it took a step at least, and not too many for sums of them
abbrev pub IsShort : Ran → Type 0
IsShort ran = (1 ≤ ran.steps) × (ran.steps < 2 ^ 56)

-- on one core no load waits, and who is late without costs isn't
abbrev pub HoldsBackNone : {S : Type 0} → Pacing S → Type 0
HoldsBackNone paced = (paced.queues ≡ true) ⊎ (paced.pricing ≡ None)

-- what its account says of the loop that began with this book
pub record AccountsFor {S : Type 0} (paced : Pacing S) (b : BookView S) (ran : Ran) : Type 0 where
  -- on one core nothing is lost, dropped or waited
  pub alone : b.cores ≡ 1 → WastesNone ran.account
  -- nor held, where nothing costs, or no load waits
  pub unheld : b.cores ≡ 1 → HoldsBackNone paced → ran.account.held ≡ 0
  -- where the loop is done, the busy steps are the instructions that it executes in order, on any number of cores, over any store, whatever turns cost
  pub busy : b.history ≡ [] → (n : ℕ) → ran.end ≡ Done n → ran.account.busy ≡ instructions_in_order b.image n
  -- and where they cost nothing, the useful steps are those that it takes in order
  pub useful : paced.pricing ≡ None → b.history ≡ [] → (n : ℕ) → ran.end ≡ Done n → useful_in ran.account ≡ steps_in_order b.image n
  -- and one core takes so many, where there is an epoch
  pub steps : paced.pricing ≡ None → b.cores ≡ 1 → b.history ≡ [] → (n : ℕ) → ran.end ≡ Done (suc n) → ran.steps ≡ steps_in_order b.image (suc n)
