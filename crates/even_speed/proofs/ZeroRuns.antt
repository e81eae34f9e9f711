-- That a run at costs that are all 0 is the run without costs, turn for turn.
use Rattle.std.proofs.Common.{◌≡◌, ◌⊎◌, ℕ, ◌+◌, ◌-◌, ◌<◌, ◌≤◌, ◌==◌, Bool, true, false, cond, List, [], ◌∷◌, Option, Some, None, Result, Ok, Err, option_map, refl, sym, ap, subst, inl, inr, ◌∙◌, arith, eqb-true, true≢false}
use Rattle.std.proofs.Math.Path.{fun_ext}
use Rattle.std.proofs.lemmas.Option.{same_Some}
use Rattle.rv32_exec.specs.declared.sequential.End.{End}
use Rattle.rv32_exec.specs.Hart.{HartState}
use Rattle.rv32_image.specs.Image.{LoadedImage}
use Rattle.spec_history.specs.FlatState.{FlatState}
use Rattle.spec_history.specs.Replay.{replay}
use Rattle.violations.specs.View.{StoreView, Waits as StoreWaits}
use Rattle.violations.specs.Calls.{Call}
use Rattle.homefree.specs.declared.answer.Answer.{Answer}
use Rattle.homefree.specs.declared.answer.Answer.TheVariants.{Go, Again, Left, Over, Stopped}
use Rattle.homefree.specs.declared.answer.Cause.{Cause}
use Rattle.homefree.specs.declared.answer.Cause.TheVariants.{NoEpoch, NotHomefree, NoWay, OrbFull, OrbBusy}
use Rattle.homefree.specs.declared.fault.TurnFault.{TurnFault}
use Rattle.homefree.specs.BookView.{BookView}
use Rattle.homefree.specs.Driven.{Driver, TurnedWith, arrival_of, held_after, with_held}
use Rattle.homefree.specs.Turned.{Turned}
use Rattle.homefree.specs.Turned as turn
use Rattle.turn_costs.specs.Costs.{bus_costs}
use Rattle.turn_costs.specs.Prices.{Prices}
use Rattle.even_speed.specs.declared.clock.Clock.{Clock}
use Rattle.even_speed.specs.declared.clock.Next.{Next}
use Rattle.even_speed.specs.declared.clock.Next.TheVariants.{Due, Waits, Gone}
use Rattle.even_speed.specs.declared.clocks.Turn.{Turn}
use Rattle.even_speed.specs.declared.pricing.Free.{Free}
use Rattle.even_speed.specs.declared.run.Ran.{Ran}
use Rattle.even_speed.specs.Account.{nothing_spent}
use Rattle.even_speed.specs.Clocks.{IsFirst, account_of, answered, begun, due_of, dues, first_clock, late, late_clocks, waits_for, woken_by, woken_from}
use Rattle.even_speed.specs.Even.{EndsOrGoes, Evenly, Pace, Pacing, at_first, clocks_after, executed_by, go_answer, pace_after, pacing, prices_in, ran_at, restarts}
use Rattle.even_speed.specs.Held.{Holding, are_held, epoch_run, held_in, is_held, own_run}
use Rattle.even_speed.specs.Kept.{IsSound, used}
use Rattle.even_speed.specs.Pricing.{all_free, begins, free_after, later, no_price, over_at}
use Rattle.even_speed.specs.ZeroCosts.{AreOneAccount, AreOneRun, ChangeNothing, ComeToOne, WaitsNone, times_below, times_of}
use Rattle.even_speed.proofs.Seated.{no_cores_held}
use Rattle.even_speed.proofs.Sounding.{answered_sound, first_sound, free_due, late_sound, later_least, later_of, sound_later, used_due, woken_at_end, woken_sound, order_calm}
use Rattle.even_speed.proofs.ZeroPrices.{CostsNone, IsCalm, begins_calm, calm_after, first_again, over_zero, zero_prices}
use Rattle.even_speed.proofs.ZeroClocks.{AreAlike, account_alike, answered_alike, late_alike, late_same, next_alike, runs_alike, woken_alike}

-- ---- the turn without costs

abbrev unpriced : Turn → Turn
unpriced t = record t { price = no_price }

-- ---- who is held runs an attempt

held_by : (holds : Holding) (image : LoadedImage) (homefree : ℕ) (epoch : Option ℕ) (own : ℕ → Option ℕ) (hand : Option HartState)
    → is_held holds image homefree epoch own hand ≡ true → (h : HartState) × (hand ≡ Some h)
held_by holds image homefree (Some epoch) own (Some hart) is = (hart, refl)
held_by holds image homefree (Some epoch) own None is = absurd (true≢false (sym is))
held_by holds image homefree None own hand is = absurd (true≢false (sym is))

held_hand : (holds : Holding) (image : LoadedImage) (s : Option FlatState) (hands : ℕ → Option HartState) (k : ℕ) → are_held holds image s hands k ≡ true
    → (h : HartState) × (hands k ≡ Some h)
held_hand holds image (Some s) hands k is = held_by holds image s.homefree (epoch_run (s.cores k)) (own_run (s.cores k)) (hands k) is
held_hand holds image None hands k is = absurd (true≢false (sym is))

begun_runs : (at : ℕ) (restarted runs : Bool) (c : Clock) → c.runs ≡ runs → (begun at restarted c).runs ≡ true
begun_runs at true true c is = rw is refl
begun_runs at false true c is = rw is refl
begun_runs at restarted false c is = rw is refl

waits_runs : (cause : Cause) (at : ℕ) (c : Clock) → (waits_for cause at c).runs ≡ c.runs
waits_runs NoEpoch at c = refl
waits_runs NotHomefree at c = refl
waits_runs NoWay at c = refl
waits_runs OrbFull at c = refl
waits_runs OrbBusy at c = refl

woken_runs : (next : Next) (at : ℕ) (c : Clock) → (woken_from next at c).runs ≡ c.runs
woken_runs (Due due) at c = refl
woken_runs (Waits since cause) at c = refl
woken_runs Gone at c = refl

-- ---- two runs with the same turns

-- what is free, and the clocks, of the run at no cost and of the one without costs, with the same in hand
record ArePaced (queues : Bool) (holds : Holding) (cores : ℕ) (hands : ℕ → Option HartState) (f g : Free) (c d : ℕ → Clock) : Type 0 where
  pub began : g.began ≡ f.began
  pub calm : IsCalm f
  pub order : g.order ≤ g.began
  pub same : (queues ≡ false) ⊎ WaitsNone holds → c ≡ d
  pub each : (k : ℕ) → AreAlike queues (c k) (d k)
  pub sound : (k : ℕ) → IsSound g.began g.began (d k)
  -- who has something in hand runs an attempt, and so does who was due before the last turn: then some load waits
  pub hand : (k : ℕ) (h : HartState) → hands k ≡ Some h → (d k).runs ≡ true
  pub soon : (k due : ℕ) → k < cores → due_of (d k).next ≡ Some due → (g.began ≤ due) ⊎ (((d k).runs ≡ true) × (WaitsNone holds → ⊥))

first_alike : (queues : Bool) → AreAlike queues first_clock first_clock
first_alike queues = record {
  rest = refl;
  waited = refl;
  idle = λ idle. refl;
  queue = refl;
  none_held = λ is. refl;
  none_queues = refl;
  late = refl;
  lost = omega arith;
  dropped = omega arith;
}

paced_at_first : (queues : Bool) (holds : Holding) (cores : ℕ) → ArePaced queues holds cores at_first.held all_free all_free at_first.clocks at_first.clocks
paced_at_first queues holds cores = record {
  began = refl;
  calm = record { bus = omega arith; order = omega arith };
  order = omega arith;
  same = λ is. refl;
  each = λ k. first_alike queues;
  sound = λ k. first_sound;
  hand = λ k h is. absurd cc;
  soon = λ k due below is. inl (omega arith);
}

-- ---- a turn begins

module _ (queues : Bool) (holds : Holding) (cores : ℕ) (hands : ℕ → Option HartState) (f g : Free) (c d : ℕ → Clock) (x : ArePaced queues holds cores hands f g c d) (t : Turn) (none : CostsNone t.price) (held : ℕ → Bool)
    (has : (k : ℕ) → held k ≡ true → (h : HartState) × (hands k ≡ Some h)) (unheld : WaitsNone holds → (k : ℕ) → held k ≡ false) (first : IsFirst g (λ k. no_price) (dues held d) cores (unpriced t)) where
  at_is : t.at ≡ later g.began t.due
  at_is = first.begins_at

  passes : g.began ≤ t.at
  passes = let least = later_least g.began t.due in omega (arith, at_is, least.0)

  due_before : t.due ≤ t.at
  due_before = let least = later_least g.began t.due in omega (arith, at_is, least.1)

  was_due : due_of (d t.core).next ≡ Some t.due
  was_due = free_due (held t.core) (due_of (d t.core).next) t.due first.due

  -- who takes the turn was due in time, unless it runs an attempt and some load waits
  in_time : (((d t.core).runs ≡ true) × (WaitsNone holds → ⊥) → ⊥) → t.at - t.due ≡ 0
  in_time none_late = elim (x.soon t.core t.due first.core was_due) [
    | inl less ↦ let is = later_of g.began t.due less in omega (arith, at_is, is)
    | inr y ↦ absurd (none_late y)
  ]

  idle_in_time : (k : ℕ) → (k == t.core) ≡ true → (c k).runs ≡ false → t.at - t.due ≡ 0
  idle_in_time k is idle =
      let here : k ≡ t.core = eqb-true k t.core is in
      in_time (λ y. true≢false (sym y.0 ∙ (sym (ap (λ j. (d j).runs) here) ∙ (runs_alike queues (c k) (d k) (x.each k) ∙ idle))))

  late_one : (none : WaitsNone holds) (k : ℕ) (here : Bool) → cond here (late queues t.due t.at (c k)) (c k) ≡ cond here (late false t.due t.at (c k)) (c k)
  late_one none k true = late_same queues t.due t.at (c k) (in_time (λ y. y.1 none))
  late_one none k false = refl

  lates_same : (queues ≡ false) ⊎ WaitsNone holds → late_clocks queues c t ≡ late_clocks false d t
  lates_same (inl is) = λ i. late_clocks (is i) (x.same (inl is) i) t
  lates_same (inr none) = fun_ext (λ k. late_one none k (k == t.core)) ∙ ap (λ y. late_clocks false y t) (x.same (inr none))

  -- so was every other core
  still_soon : (k due : ℕ) (is : Bool) → held k ≡ is → k < cores → due_of (d k).next ≡ Some due → (t.at ≤ due) ⊎ (((d k).runs ≡ true) × (WaitsNone holds → ⊥))
  still_soon k due true is below at = let h = has k is in inr (x.hand k h.0 h.1, λ none. true≢false (sym is ∙ unheld none k))
  still_soon k due false is below at = elim (x.soon k due below at) [
    | inl less ↦
        let soonest : t.at ≤ later g.began due = first.soonest k due below (rw is at) in
        let same = later_of g.began due less in
        inl (omega (arith, soonest, same))
    | inr runs ↦ inr runs
  ]

  late_by : (k : ℕ) (here : Bool) → (k == t.core) ≡ here → AreAlike queues (cond here (late queues t.due t.at (c k)) (c k)) (cond here (late false t.due t.at (d k)) (d k))
  late_by k true is = late_alike queues t.due t.at (c k) (d k) (idle_in_time k is) (x.each k)
  late_by k false is = x.each k

  lates : (k : ℕ) → AreAlike queues (late_clocks queues c t k) (late_clocks false d t k)
  lates k = late_by k (k == t.core) refl

  sound_then : (k : ℕ) → IsSound t.at t.at (d k)
  sound_then k = sound_later g.began g.began t.at t.at (d k) passes passes (x.sound k)

  late_sound_by : (k : ℕ) (here : Bool) → (k == t.core) ≡ here → IsSound t.at t.at (cond here (late false t.due t.at (d k)) (d k))
  late_sound_by k true is =
      late_sound t.at t.at t.due false (d k) (omega arith)
      (used_due t.at t.at t.due (d k) (subst (λ j. due_of (d j).next ≡ Some t.due) (sym (eqb-true k t.core is)) was_due) (sound_then k)) due_before (sound_then k)
  late_sound_by k false is = sound_then k

  lates_sound : (k : ℕ) → IsSound t.at t.at (late_clocks false d t k)
  lates_sound k = late_sound_by k (k == t.core) refl

  -- it is answered
  module _ {S : Type 0} (old mid : Driver S) (answer : Answer) where
    abbrev restarted : Bool
    restarted = restarts old mid

    abbrev executed : ℕ
    executed = executed_by old.book.image answer

    abbrev costing : ℕ → Clock
    costing = clocks_after old mid (late_clocks queues c t) t answer

    abbrev without : ℕ → Clock
    without = clocks_after old mid (late_clocks false d (unpriced t)) (unpriced t) answer

    -- the clocks of the second before it wakes others
    abbrev turned : ℕ → Clock
    turned k = cond (k == t.core) (answered t.at restarted executed nothing_spent answer (late_clocks false d t k)) (late_clocks false d t k)

    used_at : (k : ℕ) → (k == t.core) ≡ true → used (late_clocks false d t k) ≤ t.at
    used_at k is = used_due t.at t.at t.at (late_clocks false d t k) (rw is refl) (lates_sound k)

    turned_by : (k : ℕ) (here : Bool) → (k == t.core) ≡ here
        → AreAlike queues (cond here (answered t.at restarted executed t.price.spent answer (late_clocks queues c t k)) (late_clocks queues c t k))
        (cond here (answered t.at restarted executed nothing_spent answer (late_clocks false d t k)) (late_clocks false d t k))
    turned_by k true is =
        let before = used_at k is in
        subst (λ s. AreAlike queues (answered t.at restarted executed s answer (late_clocks queues c t k)) (answered t.at restarted executed nothing_spent answer (late_clocks false d t k)))
        (sym none.spent)
        (answered_alike queues restarted t.at executed answer (late_clocks queues c t k) (late_clocks false d t k) (omega (arith, before)) (lates k))
    turned_by k false is = lates k

    turned_sound : (k : ℕ) (here : Bool) → (k == t.core) ≡ here
        → IsSound t.at t.at (cond here (answered t.at restarted executed nothing_spent answer (late_clocks false d t k)) (late_clocks false d t k))
    turned_sound k true is = answered_sound t.at t.at restarted executed nothing_spent answer (late_clocks false d t k) (omega arith) (λ left. omega arith) (lates_sound k) (used_at k is)
    turned_sound k false is = lates_sound k

    turned_hand : (a : Answer) (k : ℕ) (here : Bool) (h : HartState) → (k == t.core) ≡ here → cond here (held_after a (hands t.core)) (hands k) ≡ Some h
        → (cond here (answered t.at restarted executed nothing_spent a (late_clocks false d t k)) (late_clocks false d t k)).runs ≡ true
    turned_hand (Go hart) k true h is at = begun_runs t.at restarted (late_clocks false d t k).runs (late_clocks false d t k) refl
    turned_hand (Again cause) k true h is at =
        waits_runs cause t.at (late_clocks false d t k) ∙ (rw is (x.hand k h (ap hands (eqb-true k t.core is) ∙ at)))
    turned_hand Left k true h is at = absurd cc
    turned_hand (Over end) k true h is at = absurd cc
    turned_hand (Stopped cause) k true h is at = absurd cc
    turned_hand a k false h is at = rw is (x.hand k h at)

    waits_soon : (cause : Cause) (due : ℕ) (y : Clock) → due_of (waits_for cause t.at y).next ≡ Some due → ⊥
    waits_soon NoEpoch due y at = absurd cc
    waits_soon NotHomefree due y at = absurd cc
    waits_soon NoWay due y at = absurd cc
    waits_soon OrbFull due y at = absurd cc
    waits_soon OrbBusy due y at = absurd cc

    turned_soon : (a : Answer) (k due : ℕ) (here : Bool) → (k == t.core) ≡ here → k < cores
        → due_of (cond here (answered t.at restarted executed nothing_spent a (late_clocks false d t k)) (late_clocks false d t k)).next ≡ Some due
        → (t.at ≤ due) ⊎ (((cond here (answered t.at restarted executed nothing_spent a (late_clocks false d t k)) (late_clocks false d t k)).runs ≡ true) × (WaitsNone holds → ⊥))
    turned_soon (Go hart) k due true is below at = let same = same_Some _ due at in inl (omega (arith, same))
    turned_soon (Again cause) k due true is below at = absurd (waits_soon cause due (late_clocks false d t k) at)
    turned_soon Left k due true is below at = let same = same_Some _ due at in inl (omega (arith, same))
    turned_soon (Over end) k due true is below at = absurd cc
    turned_soon (Stopped cause) k due true is below at = let same : t.at ≡ due = same_Some t.at due (rw is at at) in inl (omega (arith, same))
    turned_soon a k due false is below at = rw is (still_soon k due (held k) refl below (rw is at at))

    -- and wakes others
    wakes_alike : (a : Answer) (e y : ℕ → Clock) → ((k : ℕ) → AreAlike queues (e k) (y k)) → (k : ℕ) → AreAlike queues (woken_by a t.at e k) (woken_by a t.at y k)
    wakes_alike (Go hart) e y each k = woken_alike queues t.at (e k) (y k) (each k)
    wakes_alike (Again cause) e y each k = each k
    wakes_alike Left e y each k = woken_alike queues t.at (e k) (y k) (each k)
    wakes_alike (Over end) e y each k = each k
    wakes_alike (Stopped cause) e y each k = each k

    wakes_sound : (a : Answer) (y : ℕ → Clock) → ((k : ℕ) → IsSound t.at t.at (y k)) → (k : ℕ) → IsSound t.at t.at (woken_by a t.at y k)
    wakes_sound (Go hart) y each k = woken_sound t.at t.at (y k) (omega arith) (each k)
    wakes_sound (Again cause) y each k = each k
    wakes_sound Left y each k = woken_sound t.at t.at (y k) (omega arith) (each k)
    wakes_sound (Over end) y each k = each k
    wakes_sound (Stopped cause) y each k = each k

    wakes_runs : (a : Answer) (y : ℕ → Clock) (k : ℕ) → (woken_by a t.at y k).runs ≡ (y k).runs
    wakes_runs (Go hart) y k = woken_runs (y k).next t.at (y k)
    wakes_runs (Again cause) y k = refl
    wakes_runs Left y k = woken_runs (y k).next t.at (y k)
    wakes_runs (Over end) y k = refl
    wakes_runs (Stopped cause) y k = refl

    woken_soon : (y : Clock) (due : ℕ) (next : Next) → (due_of y.next ≡ Some due → (t.at ≤ due) ⊎ ((y.runs ≡ true) × (WaitsNone holds → ⊥)))
        → due_of (woken_from next t.at y).next ≡ Some due → (t.at ≤ due) ⊎ ((y.runs ≡ true) × (WaitsNone holds → ⊥))
    woken_soon y due (Due at) soon is = soon is
    woken_soon y due (Waits since cause) soon is = let same : t.at ≡ due = same_Some t.at due is in inl (omega (arith, same))
    woken_soon y due Gone soon is = soon is

    wakes_soon : (a : Answer) (y : ℕ → Clock) (k due : ℕ) → (due_of (y k).next ≡ Some due → (t.at ≤ due) ⊎ (((y k).runs ≡ true) × (WaitsNone holds → ⊥)))
        → due_of (woken_by a t.at y k).next ≡ Some due → (t.at ≤ due) ⊎ (((y k).runs ≡ true) × (WaitsNone holds → ⊥))
    wakes_soon (Go hart) y k due soon is = woken_soon (y k) due (y k).next soon is
    wakes_soon (Again cause) y k due soon is = soon is
    wakes_soon Left y k due soon is = woken_soon (y k) due (y k).next soon is
    wakes_soon (Over end) y k due soon is = soon is
    wakes_soon (Stopped cause) y k due soon is = soon is

    clocks_alike : (k : ℕ) → AreAlike queues (costing k) (without k)
    clocks_alike k = wakes_alike answer _ _ (λ j. turned_by j (j == t.core) refl) k

    clocks_sound : (k : ℕ) → IsSound t.at t.at (without k)
    clocks_sound k = wakes_sound answer turned (λ j. turned_sound j (j == t.core) refl) k

    clocks_same : (queues ≡ false) ⊎ WaitsNone holds → costing ≡ without
    clocks_same is = λ i. clocks_after old mid (lates_same is i) (record t { price = record no_price { spent = none.spent i } }) answer

    paced_after : ArePaced queues holds cores (with_held hands t.core (held_after answer (hands t.core))) (free_after f t.at t.price answer) (free_after g t.at no_price answer) costing without
    paced_after = record {
      began = refl;
      calm = calm_after f t answer none x.calm (subst (λ n. n ≤ t.at) x.began passes);
      order = order_calm g (unpriced t) answer refl x.order passes;
      same = clocks_same;
      each = clocks_alike;
      sound = clocks_sound;
      hand = λ k h is. wakes_runs answer turned k ∙ turned_hand answer k (k == t.core) h refl is;
      soon = λ k due below is. elim (wakes_soon answer turned k due (turned_soon answer k due (k == t.core) refl below) is) [
        | inl less ↦ inl less
        | inr y ↦ inr (wakes_runs answer turned k ∙ y.0, y.1)
      ];
    }

    -- where it ends the run
    ends_alike : (n : ℕ) (end : End) → AreOneRun queues holds (ran_at n (over_at f t.at t.price) costing end) (ran_at n (over_at g t.at no_price) without end)
    ends_alike n end = record {
      end = refl;
      steps = steps;
      account = subst (λ m. AreOneAccount queues (account_of m costing n) (account_of (over_at g t.at no_price) without n)) (sym mine)
          (subst (λ m. AreOneAccount queues (account_of (t.at + 1) costing n) (account_of m without n)) (sym its)
          (account_alike queues (t.at + 1) costing without n (λ k. (woken_at_end t.at (without k) (clocks_sound k)).1) clocks_alike));
      same = λ is. λ i. ran_at n (steps i) (clocks_same is i) end;
    }
      where
        mine : over_at f t.at t.price ≡ t.at + 1
        mine = over_zero f t none x.calm.order (subst (λ n. n ≤ t.at) x.began passes)

        its : over_at g t.at no_price ≡ t.at + 1
        its = over_zero g (unpriced t) (record { bus = refl; spent = refl }) x.order passes

        steps : over_at f t.at t.price ≡ over_at g t.at no_price
        steps = mine ∙ sym its

-- ---- the runs

same_cores : {S : Type 0} (makes : S → Call → S → Type 0) (view : S → StoreView) (waits : S → StoreWaits) (old mid : Driver S) (core : ℕ) (hand : Option HartState) (answer : Result Answer TurnFault)
    → TurnedWith makes view waits old core hand answer mid → mid.book.cores ≡ old.book.cores
same_cores {S} makes view waits old mid core hand answer took = by_turned answer took.turns.turned
  where
    by_turned : (y : Result Answer TurnFault) → Turned view waits old.book took.state old.shares core (option_map (arrival_of old.book.image) hand) y mid.book mid.shares
        → mid.book.cores ≡ old.book.cores
    by_turned y (turn.over o same shares) = ap (λ (b : BookView S). b.cores) same
    by_turned y (turn.stopped o same shares) = ap (λ (b : BookView S). b.cores) same
    by_turned y (turn.full o same shares) = ap (λ (b : BookView S). b.cores) same
    by_turned y (turn.no_memory may view_same grows fault) = grows.cores
    by_turned y (turn.acts a) = a.grows.cores

module _ {S : Type 0} (makes : S → Call → S → Type 0) (view : S → StoreView) (waits : S → StoreWaits) (prices : S → Prices) (keeps : S → Type 0) (holds : Holding) (queues : Bool) where
  -- the two runs are paced so
  abbrev zero : Pacing S
  zero = pacing prices holds queues (Some (bus_costs 0))

  abbrev none : Pacing S
  none = pacing prices holds queues None

  -- the pace of the run without costs
  abbrev its_pace : Pace → Free → (ℕ → Clock) → Pace
  its_pace p g d = record { held = p.held; clocks = d; free = g }

  module _ (p : Pace) (g : Free) (d : ℕ → Clock) (old : Driver S) (x : ArePaced queues holds old.book.cores p.held p.free g p.clocks d) where
    dues_are : (k : ℕ) → dues (held_in holds old.book p.held) d k ≡ dues (held_in holds old.book p.held) p.clocks k
    dues_are k = ap (λ n. cond (held_in holds old.book p.held k) None (due_of n)) (next_alike queues (p.clocks k) (d k) (x.each k))

    begins_are : (k due : ℕ) → begins g no_price due ≡ begins p.free (prices_in zero.pricing waits old.book p.held k) due
    begins_are k due = ap (λ n. later n due) x.began ∙ sym (begins_calm p.free (prices_in zero.pricing waits old.book p.held k) due x.calm)

    first_without : (t : Turn) → IsFirst p.free (prices_in zero.pricing waits old.book p.held) (dues (held_in holds old.book p.held) p.clocks) old.book.cores t
        → IsFirst g (λ k. no_price) (dues (held_in holds old.book p.held) d) old.book.cores (unpriced t)
    first_without t first =
        first_again p.free g (prices_in zero.pricing waits old.book p.held) (λ k. no_price) (dues (held_in holds old.book p.held) p.clocks) (dues (held_in holds old.book p.held) d) old.book.cores t begins_are dues_are first

    first_at_zero : (t : Turn) → IsFirst g (λ k. no_price) (dues (held_in holds old.book p.held) d) old.book.cores t
        → IsFirst p.free (prices_in zero.pricing waits old.book p.held) (dues (held_in holds old.book p.held) p.clocks) old.book.cores (record t { price = prices_in zero.pricing waits old.book p.held t.core })
    first_at_zero t first =
        first_again g p.free (λ k. no_price) (prices_in zero.pricing waits old.book p.held) (dues (held_in holds old.book p.held) d) (dues (held_in holds old.book p.held) p.clocks) old.book.cores t
        (λ k due. sym (begins_are k due)) (λ k. sym (dues_are k)) first

  abbrev AtZero : Pace → Driver S → List ℕ → Result (Option Ran) TurnFault → Driver S → Type 0
  AtZero p old schedule result new = Evenly makes view waits keeps zero p old schedule result new

  abbrev Without : Pace → Driver S → List ℕ → Result (Option Ran) TurnFault → Driver S → Type 0
  Without p old schedule result new = Evenly makes view waits keeps none p old schedule result new

  abbrev times_at_zero : (p : Pace) (old : Driver S) (schedule : List ℕ) (result : Result (Option Ran) TurnFault) (new : Driver S) → AtZero p old schedule result new → List ℕ
  times_at_zero = times_of makes view waits keeps zero

  abbrev times_without : (p : Pace) (old : Driver S) (schedule : List ℕ) (result : Result (Option Ran) TurnFault) (new : Driver S) → Without p old schedule result new → List ℕ
  times_without = times_of makes view waits keeps none

  -- what stands below a turn of a run at these costs, and the times there
  abbrev BelowAtZero : (p : Pace) (old new mid : Driver S) (rest : List ℕ) (t : Turn) (answer : Result Answer TurnFault) (result : Result (Option Ran) TurnFault) → Type 0
  BelowAtZero p old new mid rest t answer result = EndsOrGoes old mid queues p t answer rest result new (AtZero (pace_after old mid queues p t (go_answer answer)) mid rest result new)

  abbrev below_at_zero : (p : Pace) (old new mid : Driver S) (rest : List ℕ) (t : Turn) (answer : Result Answer TurnFault) (result : Result (Option Ran) TurnFault)
      → BelowAtZero p old new mid rest t answer result → List ℕ
  below_at_zero p old new mid rest t answer result =
      times_below old mid queues p t answer rest result new (AtZero (pace_after old mid queues p t (go_answer answer)) mid rest result new)
      (times_at_zero (pace_after old mid queues p t (go_answer answer)) mid rest result new)

  -- and of one without costs
  abbrev BelowWithout : (p : Pace) (g : Free) (d : ℕ → Clock) (old new mid : Driver S) (rest : List ℕ) (u : Turn) (answer : Result Answer TurnFault) (r : Result (Option Ran) TurnFault) → Type 0
  BelowWithout p g d old new mid rest u answer r =
      EndsOrGoes old mid false (its_pace p g d) u answer rest r new (Without (pace_after old mid false (its_pace p g d) u (go_answer answer)) mid rest r new)

  abbrev below_without : (p : Pace) (g : Free) (d : ℕ → Clock) (old new mid : Driver S) (rest : List ℕ) (u : Turn) (answer : Result Answer TurnFault) (r : Result (Option Ran) TurnFault)
      → BelowWithout p g d old new mid rest u answer r → List ℕ
  below_without p g d old new mid rest u answer r =
      times_below old mid false (its_pace p g d) u answer rest r new (Without (pace_after old mid false (its_pace p g d) u (go_answer answer)) mid rest r new)
      (times_without (pace_after old mid false (its_pace p g d) u (go_answer answer)) mid rest r new)

  module _ (p : Pace) (g : Free) (d : ℕ → Clock) (old new mid : Driver S) (x : ArePaced queues holds old.book.cores p.held p.free g p.clocks d) (t : Turn) (costs : CostsNone t.price)
      (first : IsFirst g (λ k. no_price) (dues (held_in holds old.book p.held) d) old.book.cores (unpriced t)) (cores : mid.book.cores ≡ old.book.cores) (rest : List ℕ) where
    abbrev next : Answer → Pace
    next a = pace_after old mid queues p t a

    abbrev its_next : Answer → Pace
    its_next a = pace_after old mid false (its_pace p g d) (unpriced t) a

    has_hand : (k : ℕ) → held_in holds old.book p.held k ≡ true → (h : HartState) × (p.held k ≡ Some h)
    has_hand = held_hand holds old.book.image (replay old.book.image old.book.cores old.book.history) p.held

    no_hold : WaitsNone holds → (k : ℕ) → held_in holds old.book p.held k ≡ false
    no_hold waits_none k = no_cores_held holds waits_none.places waits_none.stores old.book.image (replay old.book.image old.book.cores old.book.history) p.held k

    paced_next : (a : Answer) → ArePaced queues holds mid.book.cores (next a).held (next a).free (its_next a).free (next a).clocks (its_next a).clocks
    paced_next a = subst (λ n. ArePaced queues holds n (next a).held (next a).free (its_next a).free (next a).clocks (its_next a).clocks) (sym cores)
        (paced_after queues holds old.book.cores p.held p.free g p.clocks d x t costs (held_in holds old.book p.held) has_hand no_hold first old mid a)

    abbrev ran : End → Ran
    ran end = ran_at old.book.cores (over_at p.free t.at t.price) (clocks_after old mid (late_clocks queues p.clocks t) t (Over end)) end

    abbrev its_ran : End → Ran
    its_ran end = ran_at old.book.cores (over_at g t.at no_price) (clocks_after old mid (late_clocks false d (unpriced t)) (unpriced t) (Over end)) end

    one_end : (end : End) → AreOneRun queues holds (ran end) (its_ran end)
    one_end end = ends_alike queues holds old.book.cores p.held p.free g p.clocks d x t costs (held_in holds old.book p.held) has_hand no_hold first old mid (Over end) old.book.cores end

    forth : (answer : Result Answer TurnFault) (result : Result (Option Ran) TurnFault)
        → ((a : Answer) (e : AtZero (next a) mid rest result new)
        → (r : Result (Option Ran) TurnFault) × (y : Without (its_next a) mid rest r new) × ComeToOne queues holds result r
        × (times_without (its_next a) mid rest r new y ≡ times_at_zero (next a) mid rest result new e))
        → (e : BelowAtZero p old new mid rest t answer result)
        → (r : Result (Option Ran) TurnFault) × (y : BelowWithout p g d old new mid rest (unpriced t) answer r) × ComeToOne queues holds result r
        × (below_without p g d old new mid rest (unpriced t) answer r y ≡ below_at_zero p old new mid rest t answer result e)
    forth (Ok (Over end)) result more e =
        (Ok (Some (its_ran end)), (e.0, e.1, refl), subst (λ y. ComeToOne queues holds y (Ok (Some (its_ran end)))) (sym e.2) (one_end end), refl)
    forth (Ok (Stopped cause)) result more e = (Ok None, (e.0, e.1, refl), subst (λ y. ComeToOne queues holds y (Ok None)) (sym e.2) refl, refl)
    forth (Err fault) result more e = (Err fault, (e.0, e.1, refl), subst (λ y. ComeToOne queues holds y (Err fault)) (sym e.2) refl, refl)
    forth (Ok (Go hart)) result more e = more (Go hart) e
    forth (Ok (Again cause)) result more e = more (Again cause) e
    forth (Ok Left) result more e = more Left e

    back : (answer : Result Answer TurnFault) (r : Result (Option Ran) TurnFault)
        → ((a : Answer) (y : Without (its_next a) mid rest r new)
        → (result : Result (Option Ran) TurnFault) × (e : AtZero (next a) mid rest result new) × ComeToOne queues holds result r
        × (times_at_zero (next a) mid rest result new e ≡ times_without (its_next a) mid rest r new y))
        → (y : BelowWithout p g d old new mid rest (unpriced t) answer r)
        → (result : Result (Option Ran) TurnFault) × (e : BelowAtZero p old new mid rest t answer result) × ComeToOne queues holds result r
        × (below_at_zero p old new mid rest t answer result e ≡ below_without p g d old new mid rest (unpriced t) answer r y)
    back (Ok (Over end)) r more e =
        (Ok (Some (ran end)), (e.0, e.1, refl), subst (ComeToOne queues holds (Ok (Some (ran end)))) (sym e.2) (one_end end), refl)
    back (Ok (Stopped cause)) r more e = (Ok None, (e.0, e.1, refl), e.2, refl)
    back (Err fault) r more e = (Err fault, (e.0, e.1, refl), e.2, refl)
    back (Ok (Go hart)) r more e = more (Go hart) e
    back (Ok (Again cause)) r more e = more (Again cause) e
    back (Ok Left) r more e = more Left e

  run_without : (schedule : List ℕ) (p : Pace) (g : Free) (d : ℕ → Clock) (old new : Driver S) (result : Result (Option Ran) TurnFault)
      → ArePaced queues holds old.book.cores p.held p.free g p.clocks d → (e : AtZero p old schedule result new)
      → (r : Result (Option Ran) TurnFault) × (y : Without (its_pace p g d) old schedule r new) × ComeToOne queues holds result r
      × (times_without (its_pace p g d) old schedule r new y ≡ times_at_zero p old schedule result new e)
  run_without [] p g d old new result x e = (Ok None, (e.0, refl), subst (λ y. ComeToOne queues holds y (Ok None)) (sym e.1) refl, refl)
  run_without (core ∷ rest) p g d old new result x (t, mid, answer, is, kept, first, turned, more) =
      let first' = first_without p g d old x t first in
      let costs = subst CostsNone (sym first.price) (zero_prices prices waits old.book p.held t.core) in
      let cores = same_cores makes view waits old mid t.core (p.held t.core) answer turned in
      let paced = paced_next p g d old new mid x t costs first' cores rest in
      let found = forth p g d old new mid x t costs first' cores rest answer result (λ a. run_without rest (pace_after old mid queues p t a) _ _ mid new result (paced a)) more in
      (found.0, (unpriced t, mid, answer, is, (kept.0, tt), first', turned, found.1), found.2, ap (λ l. t.at ∷ l) found.3)

  run_at_zero : ((store : S) → keeps store) → (schedule : List ℕ) (p : Pace) (g : Free) (d : ℕ → Clock) (old new : Driver S) (r : Result (Option Ran) TurnFault)
      → ArePaced queues holds old.book.cores p.held p.free g p.clocks d → (y : Without (its_pace p g d) old schedule r new)
      → (result : Result (Option Ran) TurnFault) × (e : AtZero p old schedule result new) × ComeToOne queues holds result r
      × (times_at_zero p old schedule result new e ≡ times_without (its_pace p g d) old schedule r new y)
  run_at_zero all [] p g d old new r x e = (Ok None, (e.0, refl), e.1, refl)
  run_at_zero all (core ∷ rest) p g d old new r x (u, mid, answer, is, kept, first, turned, more) =
      let unpaid : u ≡ unpriced u = λ i. record u { price = first.price i } in
      let first' : IsFirst g (λ k. no_price) (dues (held_in holds old.book p.held) d) old.book.cores (unpriced u) =
      subst (λ v. IsFirst g (λ k. no_price) (dues (held_in holds old.book p.held) d) old.book.cores v) unpaid first in
      let t : Turn = record u { price = prices_in zero.pricing waits old.book p.held u.core } in
      let costs = zero_prices prices waits old.book p.held u.core in
      let cores = same_cores makes view waits old mid u.core (p.held u.core) answer turned in
      let paced = paced_next p g d old new mid x t costs first' cores rest in
      let its = subst (λ v. (y : BelowWithout p g d old new mid rest v answer r) × (below_without p g d old new mid rest v answer r y ≡ below_without p g d old new mid rest u answer r more))
      unpaid (more, refl) in
      let found = back p g d old new mid x t costs first' cores rest answer r (λ a. run_at_zero all rest (pace_after old mid queues p t a) _ _ mid new r (paced a)) its.0 in
      (found.0, (t, mid, answer, is, (kept.0, all old.book.store), first_at_zero p g d old x (unpriced u) first', turned, found.1), found.2, ap (λ l. t.at ∷ l) (found.3 ∙ its.1))

pub zero_changes_nothing : {S : Type 0} (makes : S → Call → S → Type 0) (view : S → StoreView) (waits : S → StoreWaits) (prices : S → Prices) (keeps : S → Type 0)
    → ChangeNothing (bus_costs 0) makes view waits prices keeps
zero_changes_nothing makes view waits prices keeps = record {
  without = λ holds queues old new schedule times result e.
      let found = run_without makes view waits prices keeps holds queues schedule at_first all_free at_first.clocks old new result (paced_at_first queues holds old.book.cores) e.0 in
      (found.0, (found.1, found.3 ∙ e.1), found.2);
  at_costs = λ all holds queues old new schedule times other e.
      let found = run_at_zero makes view waits prices keeps holds queues all schedule at_first all_free at_first.clocks old new other (paced_at_first queues holds old.book.cores) e.0 in
      (found.0, (found.1, found.3 ∙ e.1), found.2);
}
