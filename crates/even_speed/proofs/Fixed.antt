-- That a run at even speed is fixed, from that a turn is.
use Rattle.std.proofs.Common.{◌≡◌, ◌≢◌, ℕ, Bool, option_map, List, [], ◌∷◌, Option, Some, None, Result, Ok, Err, refl, sym, ap, subst, ◌∙◌, arith}
use Rattle.std.proofs.Math.Path.{fun_ext}
use Rattle.rv32_exec.specs.declared.sequential.End.{End}
use Rattle.violations.specs.View.{StoreView, Waits}
use Rattle.violations.specs.Calls.{Call}
use Rattle.homefree.specs.declared.answer.Answer.{Answer}
use Rattle.homefree.specs.declared.answer.Answer.TheVariants.{Go, Again, Left, Over, Stopped}
use Rattle.homefree.specs.declared.fault.TurnFault.{TurnFault}
use Rattle.homefree.specs.declared.fault.TurnFault.TheVariants.{NoMemory, HistoryFull}
use Rattle.homefree.specs.Driven.{Driver, TurnedWith}
use Rattle.homefree.specs.DriveFixed.{AreTwinDrivers}
use Rattle.homefree.specs.Fixed.{AreTwins, TurnIsFixed}
use Rattle.homefree.specs.BookView.{BookView}
use Rattle.spec_history.specs.Replay.{replay}
use Rattle.rv32_exec.specs.Hart.{HartState}
use Rattle.homefree.proofs.Fixed.Driving.{IsOneStep, one_step}
use Rattle.even_speed.specs.declared.clocks.Turn.{Turn}
use Rattle.even_speed.specs.declared.run.Ran.{Ran}
use Rattle.spec_history.specs.FlatState.{FlatState}
use Rattle.homefree.specs.Driven.{arrival_of}
use Rattle.homefree.specs.Turned.{turn_at}
use Rattle.turn_costs.specs.declared.costs.Costs.{Costs}
use Rattle.turn_costs.specs.Fixed.{ActionsAreFixed}
use Rattle.turn_costs.specs.Prices.{Prices}
use Rattle.turn_costs.specs.Turns.{actions_of}
use Rattle.even_speed.specs.declared.pricing.Free.{Free}
use Rattle.even_speed.specs.declared.pricing.Price.{Price}
use Rattle.even_speed.specs.Clocks.{IsFirst, dues, late_clocks}
use Rattle.even_speed.specs.Even.{Pace, Pacing, Evenly, EndsOrGoes, IsKept, clocks_after, go_answer, pace_after, price_in, prices_in, pricing_of, ran_at}
use Rattle.even_speed.specs.Pricing.{begins, free_after, over_at, price_of}
use Rattle.even_speed.specs.Fixed.{IsDone, IsOneRun, RunIsFixed}
use Rattle.even_speed.specs.Held.{Holding, are_held, held_in}

-- one core begins first
one_first : (free : Free) (prices : ℕ → Price) (dues : ℕ → Option ℕ) (n : ℕ) (t u : Turn) → IsFirst free prices dues n t → IsFirst free prices dues n u → u ≡ t
one_first free prices dues n t u one two = λ i. record { core = cores i; due = times i; at = begins_are i; price = prices_are i }
  where
    at_its : (v : Turn) → IsFirst free prices dues n v → begins free (prices v.core) v.due ≡ v.at
    at_its v first = ap (λ p. begins free p v.due) (sym first.price) ∙ sym first.begins_at

    begins_are : u.at ≡ t.at
    begins_are = omega (arith, one.soonest u.core u.due two.core two.due, two.soonest t.core t.due one.core one.due, at_its u two, at_its t one)

    times : u.due ≡ t.due
    times = omega (
      arith,
      one.longest u.core u.due two.core two.due (at_its u two ∙ begins_are),
      two.longest t.core t.due one.core one.due (at_its t one ∙ sym begins_are),
    )

    cores : u.core ≡ t.core
    cores = omega (
      arith,
      one.lowest u.core two.core (two.due ∙ ap Some times) (ap (begins free (prices u.core)) (sym times) ∙ (at_its u two ∙ begins_are)),
      two.lowest t.core one.core (one.due ∙ ap Some (sym times)) (ap (begins free (prices t.core)) times ∙ (at_its t one ∙ sym begins_are)),
    )

    prices_are : u.price ≡ t.price
    prices_are = two.price ∙ (ap prices cores ∙ sym one.price)

-- and the same cores are held
one_held : {S : Type 0} (alike : S → S → Type 0) (holds : Holding) (b c : BookView S) (hands : ℕ → Option HartState) → AreTwins alike b c → held_in holds c hands ≡ held_in holds b hands
one_held alike holds b c hands twins = λ i. are_held holds (twins.image i) (replay (twins.image i) (twins.cores i) (twins.history i)) hands

-- and their turns cost the same
module _ {S : Type 0} (keeps : S → Type 0) (alike : S → S → Type 0) (prices : S → Prices) (waits : S → Waits) (law : ActionsAreFixed keeps alike prices waits) (b c : BookView S) (twins : AreTwins alike b c)
    (hands : ℕ → Option HartState) where
  price_in_state : (costs : Costs) (k : ℕ) (s : Option FlatState) → keeps b.store → keeps c.store
      → price_in (Some (record { prices = prices; costs = costs })) waits c s k (hands k) ≡ price_in (Some (record { prices = prices; costs = costs })) waits b s k (hands k)
  price_in_state costs k None kept kept' = refl
  price_in_state costs k (Some s) kept kept' =
      ap (λ m. price_of costs (actions_of (prices c.store) (turn_at waits c s k (option_map (arrival_of m) (hands k))))) twins.image
      ∙ ap (price_of costs) (sym (law b c s k (option_map (arrival_of b.image) (hands k)) kept kept' twins))

  one_price : (costs : Option Costs) (k : ℕ) → IsKept (pricing_of prices costs) keeps b.store → IsKept (pricing_of prices costs) keeps c.store
      → prices_in (pricing_of prices costs) waits c hands k ≡ prices_in (pricing_of prices costs) waits b hands k
  one_price None k kept kept' = refl
  one_price (Some costs) k kept kept' =
      ap (λ s. price_in (Some (record { prices = prices; costs = costs })) waits c s k (hands k)) (λ i. replay (twins.image i) (twins.cores i) (twins.history i))
      ∙ price_in_state costs k (replay b.image b.cores b.history) kept kept'

-- the answer isn't want of memory, where the run wasn't stopped for that
fed_so : {S : Type 0} (old mid : Driver S) (queues : Bool) (p : Pace) (t : Turn) (answer : Result Answer TurnFault) (rest : List ℕ) (result : Result (Option Ran) TurnFault) (new : Driver S) (more : Type 0)
    → result ≢ Err NoMemory → EndsOrGoes old mid queues p t answer rest result new more → answer ≢ Err NoMemory
fed_so old mid queues p t (Ok a) rest result new more fed ends none = absurd cc
fed_so old mid queues p t (Err HistoryFull) rest result new more fed ends none = absurd cc
fed_so old mid queues p t (Err NoMemory) rest result new more fed ends none = fed ends.2

module _ {S : Type 0} (makes : S → Call → S → Type 0) (alike : S → S → Type 0) (view : S → StoreView) (waits : S → Waits) (prices : S → Prices) (keeps : S → Type 0) (law : TurnIsFixed makes alike view waits)
    (fixed : ActionsAreFixed keeps alike prices waits) (holds : Holding) (queues : Bool) (costs : Option Costs) where
  abbrev pacing : Pacing S
  pacing = record { holds = holds; queues = queues; pricing = pricing_of prices costs }

  -- the clocks go on as one
  one_clock : (old mid old' mid' : Driver S) (p : Pace) (t : Turn) (a : Answer) → AreTwinDrivers alike old old' → AreTwinDrivers alike mid mid'
      → clocks_after old' mid' (late_clocks queues p.clocks t) t a ≡ clocks_after old mid (late_clocks queues p.clocks t) t a
  one_clock old mid old' mid' p t a olds mids = λ i.
      clocks_after (record { book = record old.book { image = olds.books.image i; totals = olds.books.totals i }; shares = old.shares })
      (record { book = record mid.book { totals = mids.books.totals i }; shares = mid.shares }) (late_clocks queues p.clocks t) t a

  module _ (old mid old' mid' new new' : Driver S) (p : Pace) (t : Turn) (rest rest' : List ℕ) (result result' : Result (Option Ran) TurnFault) (olds : AreTwinDrivers alike old old')
      (mids : AreTwinDrivers alike mid mid')
      (more : (a : Answer) → Evenly makes view waits keeps pacing (pace_after old mid queues p t a) mid rest result new → Evenly makes view waits keeps pacing (pace_after old mid queues p t a) mid' rest' result' new'
      → IsOneRun alike rest rest' result result' new new') where
    abbrev pub goes : Answer → Type 0
    goes a = Evenly makes view waits keeps pacing (pace_after old mid queues p t a) mid rest result new

    abbrev pub goes' : Answer → Type 0
    goes' a = Evenly makes view waits keeps pacing (pace_after old' mid' queues p t a) mid' rest' result' new'

    one_pace : (a : Answer) → pace_after old' mid' queues p t a ≡ pace_after old mid queues p t a
    one_pace a = λ i. record { held = (pace_after old mid queues p t a).held; clocks = one_clock old mid old' mid' p t a olds mids i; free = free_after p.free t.at t.price a }

    on : (a : Answer) → goes a → goes' a → IsOneRun alike (t.core ∷ rest) (t.core ∷ rest') result result' new new'
    on a d d' = let run = more a d (subst (λ q. Evenly makes view waits keeps pacing q mid' rest' result' new') (one_pace a) d') in
        record { schedule_is = ap (λ l. t.core ∷ l) run.schedule_is; result_is = run.result_is; twins = run.twins }

    last : (r r' : Result (Option Ran) TurnFault) → r' ≡ r → (rest ≡ []) × (new ≡ mid) × (result ≡ r) → (rest' ≡ []) × (new' ≡ mid') × (result' ≡ r')
        → IsOneRun alike (t.core ∷ rest) (t.core ∷ rest') result result' new new'
    last r r' same one two = record {
      schedule_is = ap (λ l. t.core ∷ l) (two.0 ∙ sym one.0);
      result_is = two.2 ∙ (same ∙ sym one.2);
      twins = subst (λ d. AreTwinDrivers alike d new') (sym one.1) (subst (AreTwinDrivers alike mid) (sym two.1) mids);
    }

    over_alike : (end : End) → ran_at old'.book.cores (over_at p.free t.at t.price) (clocks_after old' mid' (late_clocks queues p.clocks t) t (Over end)) end ≡ ran_at old.book.cores (over_at p.free t.at t.price) (clocks_after old mid (late_clocks queues p.clocks t) t (Over end)) end
    over_alike end = λ i. ran_at (olds.books.cores i) (over_at p.free t.at t.price) (one_clock old mid old' mid' p t (Over end) olds mids i) end

    pub by_answer : (answer : Result Answer TurnFault) → EndsOrGoes old mid queues p t answer rest result new (goes (go_answer answer))
        → EndsOrGoes old' mid' queues p t answer rest' result' new' (goes' (go_answer answer)) → IsOneRun alike (t.core ∷ rest) (t.core ∷ rest') result result' new new'
    by_answer (Ok (Over end)) one two = last _ _ (ap (λ ran. Ok (Some ran)) (over_alike end)) one two
    by_answer (Ok (Stopped cause)) one two = last (Ok None) (Ok None) refl one two
    by_answer (Err fault) one two = last (Err fault) (Err fault) refl one two
    by_answer (Ok (Go hart)) one two = on (Go hart) one two
    by_answer (Ok (Again cause)) one two = on (Again cause) one two
    by_answer (Ok Left) one two = on Left one two

  -- the turns below one that was answered so
  abbrev below : Driver S → Driver S → Pace → List ℕ → Result (Option Ran) TurnFault → Driver S → Turn → Answer → Type 0
  below old mid p rest result new t a = Evenly makes view waits keeps pacing (pace_after old mid queues p t a) mid rest result new

  pub run_fixed_by : (p : Pace) (old new old' new' : Driver S) (schedule schedule' : List ℕ) (result result' : Result (Option Ran) TurnFault)
      → AreTwinDrivers alike old old' → Evenly makes view waits keeps pacing p old schedule result new → Evenly makes view waits keeps pacing p old' schedule' result' new'
      → IsDone result → IsDone result' → IsOneRun alike schedule schedule' result result' new new'
  run_fixed_by p old new old' new' [] schedule' result result' twins one two done done' = absurd (done.ended one.1)
  run_fixed_by p old new old' new' (core ∷ rest) [] result result' twins one two done done' = absurd (done'.ended two.1)
  run_fixed_by p old new old' new' (core ∷ rest) (core' ∷ rest') result result' twins (t, mid, answer, is, kept, first, turned, more) (t', mid', answer', is', kept', first', turned', more') done done' =
      subst (λ k. IsOneRun alike (k ∷ rest) (core' ∷ rest') result result' new new') is
      (subst (λ k. IsOneRun alike (t.core ∷ rest) (k ∷ rest') result result' new new') (sym (ap (λ (x : Turn). x.core) turn_is) ∙ is')
      (by_answer old mid old' mid' new new' p t rest rest' result result' twins step.twins
      (λ a d d'. run_fixed_by (pace_after old mid queues p t a) mid new mid' new' rest rest' result result' step.twins d d' done done') answer more second_more))
    where
      prices_are : prices_in (pricing_of prices costs) waits old'.book p.held ≡ prices_in (pricing_of prices costs) waits old.book p.held
      prices_are = fun_ext (λ k. one_price keeps alike prices waits fixed old.book old'.book twins.books p.held costs k kept.1 kept'.1)

      turn_is : t' ≡ t
      turn_is = one_first p.free (prices_in (pricing_of prices costs) waits old.book p.held) (dues (held_in holds old.book p.held) p.clocks) old.book.cores t t' first
          (subst (λ f. IsFirst p.free f (dues (held_in holds old.book p.held) p.clocks) old.book.cores t') prices_are
          (subst (λ n. IsFirst p.free (prices_in (pricing_of prices costs) waits old'.book p.held) (dues (held_in holds old.book p.held) p.clocks) n t') twins.books.cores
          (subst (λ h. IsFirst p.free (prices_in (pricing_of prices costs) waits old'.book p.held) (dues h p.clocks) old'.book.cores t') (one_held alike holds old.book old'.book p.held twins.books) first')))

      second : TurnedWith makes view waits old' t.core (p.held t.core) answer' mid'
      second = subst (λ (x : Turn). TurnedWith makes view waits old' x.core (p.held x.core) answer' mid') turn_is turned'

      second_ends : EndsOrGoes old' mid' queues p t answer' rest' result' new' (below old' mid' p rest' result' new' t (go_answer answer'))
      second_ends = subst (λ (x : Turn). EndsOrGoes old' mid' queues p x answer' rest' result' new' (below old' mid' p rest' result' new' x (go_answer answer'))) turn_is more'

      step : IsOneStep alike answer answer' mid mid'
      step = one_step makes alike view waits law old old' t.core (p.held t.core) answer answer' mid mid' twins turned second
          (fed_so old mid queues p t answer rest result new (below old mid p rest result new t (go_answer answer)) done.fed more)
          (fed_so old' mid' queues p t answer' rest' result' new' (below old' mid' p rest' result' new' t (go_answer answer')) done'.fed second_ends)

      second_more : EndsOrGoes old' mid' queues p t answer rest' result' new' (below old' mid' p rest' result' new' t (go_answer answer))
      second_more = subst (λ a. EndsOrGoes old' mid' queues p t a rest' result' new' (below old' mid' p rest' result' new' t (go_answer a))) step.answer_is second_ends

pub run_fixed : {S : Type 0} (makes : S → Call → S → Type 0) (alike : S → S → Type 0) (view : S → StoreView) (waits : S → Waits) (prices : S → Prices) (keeps : S → Type 0) → TurnIsFixed makes alike view waits
    → ActionsAreFixed keeps alike prices waits → RunIsFixed makes alike view waits prices keeps
run_fixed makes alike view waits prices keeps law fixed holds queues costs p old new old' new' schedule schedule' result result' =
    run_fixed_by makes alike view waits prices keeps law fixed holds queues costs p old new old' new' schedule schedule' result result'
