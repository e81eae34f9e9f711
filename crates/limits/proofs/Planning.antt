-- A turn of a run in which loads wait for stores in order, where turns cost nothing, beside a timing: no step comes later.
use Rattle.std.proofs.Common.{◌≡◌, ◌≢◌, ℕ, ◌+◌, ◌-◌, ◌<◌, ◌≤◌, ◌==◌, ◌&&◌, ◌||◌, not, Bool, false, List, ◌++◌, Some, None, if◌then◌else◌, refl, sym, ap, subst, ◌∙◌, inl, inr, arith, eq-eqb, ne_eqb}
use Rattle.std.proofs.lemmas.Bool.{cases_Bool, cases_eq, cases_lt, and_right}
use Rattle.rv32_exec.specs.declared.stop.Stop.{Stop}
use Rattle.rv32_exec.specs.declared.stop.Stop.TheVariants as stop
use Rattle.rv32_image.specs.Image.{LoadedImage}
use Rattle.rv32_image.proofs.SmallFacts.{none_and_some, one_value}
use Rattle.rv32_exec.specs.Hart.{HartState, start_of}
use Rattle.rv32_exec.specs.NextEvent.{next_event}
use Rattle.rv32_exec.proofs.LawsOfRuns.{later_event}
use Rattle.spec_history.specs.declared.entry.Entry.{Entry}
use Rattle.spec_history.specs.FlatState.{CoreState, FlatState, begun}
use Rattle.spec_history.proofs.OneEntry.Going.{Going}
use Rattle.spec_history.proofs.Replay.Joining.{history_goes_on}
use Rattle.violations.specs.View.{StoreView, Waits as StoreWaits}
use Rattle.homefree.specs.declared.answer.Answer.{Answer}
use Rattle.homefree.specs.declared.answer.Answer.TheVariants.{Go, Again, Left}
use Rattle.homefree.specs.declared.answer.Cause.{Cause}
use Rattle.homefree.specs.declared.answer.Cause.TheVariants.{NoEpoch, NotHomefree, NoWay, OrbFull, OrbBusy}
use Rattle.homefree.specs.Driven.{Driver}
use Rattle.homefree.specs.Turned.{IsEnd}
use Rattle.epoch_paths.specs.InOrder.{IsInOrder, AreAll}
use Rattle.epoch_paths.proofs.Cores.{IsFresh}
use Rattle.even_speed.specs.declared.clock.Clock.{Clock}
use Rattle.even_speed.specs.declared.clock.Next.{Next}
use Rattle.even_speed.specs.declared.clock.Next.TheVariants.{Due, Waits, Gone}
use Rattle.even_speed.specs.declared.clocks.Turn.{Turn}
use Rattle.even_speed.specs.declared.pricing.Price.{Price}
use Rattle.even_speed.specs.Account.{total}
use Rattle.even_speed.specs.Clocks.{answered, due_of, dues, late_clocks, woken}
use Rattle.even_speed.specs.Even.{Pace, Pacing, executed_by, pace_after, prices_in, restarts}
use Rattle.even_speed.specs.Held.{are_held, epoch_run, held_in, is_held, own_run, waits_by}
use Rattle.even_speed.specs.Pricing.{begins, free_after, later, leaves, no_price, over_at}
use Rattle.even_speed.proofs.Sounding.{later_bound, needed_bound}
use Rattle.limits.specs.declared.limit.Waits.TheVariants.{Commit}
use Rattle.limits.specs.Limits.{IsTiming, Timing}
use Rattle.limits.proofs.Awaiting.{held_depends}
use Rattle.limits.proofs.Bounding.{by_other, by_test, late_other}
use Rattle.limits.proofs.Dues.{by_due, by_later, by_wait, by_woken, later_from, woken_due}
use Rattle.limits.proofs.Plans.{BeginsBy, IsAccessBy, IsBy, IsEndBy, IsOnPlan, IsSlot, MayBegin, begins_commits, begins_within, both_begin, commits_rise, event_commits, later_begins, places_rise}
use Rattle.limits.proofs.Quiet.{After, AreQuiet, Began, Committed, IsAccess, IsQuiet, Passed}
use Rattle.limits.proofs.Quiet as quiet
use Rattle.limits.proofs.QuietRuns.{IsTurn}
use Rattle.limits.proofs.QuietTurns.{Waited}

-- a turn costs nothing, and begins as soon as it is due and the one before it has begun
module _ {S : Type 0} (paced : Pacing S) (view : S → StoreView) (waits : S → StoreWaits) (costless : paced.pricing ≡ None) (old mid : Driver S) (p : Pace) (t : Turn) (s : FlatState)
    (it : IsTurn paced view waits old mid p t s) where
  price_none : (k : ℕ) → prices_in paced.pricing waits old.book p.held k ≡ no_price
  price_none k = ap (λ pricing. prices_in pricing waits old.book p.held k) costless

  pub costs_none : total t.price.spent ≡ 0
  costs_none = ap (λ (q : Price). total q.spent) (it.first.price ∙ price_none t.core)

  pub begins_at : t.at ≡ later p.free.began t.due
  begins_at = it.first.begins_at ∙ ap (λ q. begins p.free q t.due) (it.first.price ∙ price_none t.core)

  pub goes_on : p.free.began ≤ t.at
  goes_on = let same = begins_at in let from = later_from p.free.began t.due in omega (arith, same, from)

  -- nor does a commit go on after it
  pub order_after : (answer : Answer) → p.free.order ≤ p.free.began → (free_after p.free t.at t.price answer).order ≤ t.at
  order_after answer before =
      let none = costs_none in
      let from = goes_on in
      needed_bound (t.price.in_order || leaves answer) (t.at + total t.price.spent) p.free.order t.at (omega (arith, none)) (omega (arith, before, from))

  pub over_soon : p.free.order ≤ p.free.began → over_at p.free t.at t.price ≤ t.at + 1
  over_soon before =
      let none = costs_none in
      let from = goes_on in
      let most = later_bound p.free.order (t.at + total t.price.spent) t.at (omega (arith, before, from)) (omega (arith, none)) in omega (arith, most)

module _ {S : Type 0} (paced : Pacing S) (view : S → StoreView) (waits : S → StoreWaits) (costless : paced.pricing ≡ None) (old mid : Driver S) (p : Pace) (t : Turn) (s : FlatState)
    (it : IsTurn paced view waits old mid p t s) (still : s.end ≡ None) (epochs : ℕ) (plan : Timing) (all : AreAll old.book.image epochs)
    (y : IsTiming old.book.image Commit old.book.cores epochs plan) (x : IsOnPlan old.book.image old.book.cores plan p.free.began s p.clocks) where
  abbrev image : LoadedImage
  image = old.book.image

  abbrev cores : ℕ
  cores = old.book.cores

  abbrev now : ℕ
  now = p.free.began

  going : Going image cores s
  going = quiet.going image cores t.core s (view old.book.store) (view old.book.store) old.book.history it.is_image it.run.reached still it.run.agrees it.run.quiet

  is_fresh : IsFresh image s
  is_fresh = quiet.is_fresh image cores t.core s (view old.book.store) (view old.book.store) old.book.history it.is_image it.run.reached still it.run.agrees it.run.quiet

  homefree_low : s.homefree < epochs
  homefree_low = all.no_more s.homefree x.left is_fresh.done

  core_low : (k : ℕ) (c : CoreState) → s.cores k ≡ Some c → IsInOrder image c.epoch → c.epoch < epochs
  core_low k c at order =
      let below = (going.kept.core k c at).below in let most = going.kept.started in all.no_more c.epoch (omega (arith, below, most)) order

  after_now : now ≤ t.at
  after_now = goes_on paced view waits costless old mid p t s it

  soon : (k d : ℕ) → k < cores → held_in paced.holds old.book p.held k ≡ false → (p.clocks k).next ≡ Due d → (bound : ℕ) → now ≤ bound → d ≤ bound → t.at ≤ bound
  soon k d below unheld is bound first second =
      let due : dues (held_in paced.holds old.book p.held) p.clocks k ≡ Some d = ap (λ (b : Bool). if b then None else due_of (p.clocks k).next) unheld ∙ ap due_of is in
      let most = it.first.soonest k d below due in
      let same : begins p.free (prices_in paced.pricing waits old.book p.held k) d ≡ later now d = ap (λ q. begins p.free q d) (price_none paced view waits costless old mid p t s it k) in
      let low = later_bound now d bound first second in omega (arith, most, same, low)

  -- ---- who is held

  held_of : (k : ℕ) → held_in paced.holds old.book p.held k ≡ is_held paced.holds image s.homefree (epoch_run (s.cores k)) (own_run (s.cores k)) (p.held k)
  held_of k = ap (λ o. are_held paced.holds image o p.held k) it.run.reached

  idle_unheld : (k : ℕ) → s.cores k ≡ None → held_in paced.holds old.book p.held k ≡ false
  idle_unheld k idle = held_of k ∙ ap (λ o. is_held paced.holds image s.homefree (epoch_run o) (own_run o) (p.held k)) idle

  run_held : (k : ℕ) (c : CoreState) → s.cores k ≡ Some c → held_in paced.holds old.book p.held k ≡ is_held paced.holds image s.homefree (Some c.epoch) c.own (Some c.hart)
  run_held k c at =
      held_of k ∙ (ap (λ o. is_held paced.holds image s.homefree (epoch_run o) (own_run o) (p.held k)) at
      ∙ (ap (λ (b : Bool). is_held paced.holds image s.homefree (if b then None else Some c.epoch) c.own (p.held k)) (it.run.quiet k c at).unhurt
      ∙ ap (λ o. is_held paced.holds image s.homefree (Some c.epoch) c.own o) (it.run.hands k c at)))

  homefree_unheld : (k : ℕ) (c : CoreState) → s.cores k ≡ Some c → c.epoch ≡ s.homefree → held_in paced.holds old.book p.held k ≡ false
  homefree_unheld k c at homefree =
      run_held k c at ∙ ap (λ b. not b && waits_by paced.holds s.homefree c.epoch c.own (next_event image c.hart).now.pc (next_event image c.hart).at) (eq-eqb c.epoch s.homefree homefree)

  store_unheld : (k : ℕ) (c : CoreState) (address width value : ℕ) → s.cores k ≡ Some c → (next_event image c.hart).at ≡ stop.Store address width value
      → held_in paced.holds old.book p.held k ≡ false
  store_unheld k c address width value at next =
      run_held k c at ∙ (ap (λ a. not (c.epoch == s.homefree) && waits_by paced.holds s.homefree c.epoch c.own (next_event image c.hart).now.pc a) next ∙ and_right (not (c.epoch == s.homefree)) false refl)

  -- ---- the turn isn't late

  by_begin : MayBegin cores s s.next_epoch → s.next_epoch < image.epochs → BeginsBy cores plan s.next_epoch t.at
  by_begin may within =
      let slot = x.slots s.next_epoch may in
      let due = slot.soon within in
      both_begin image cores epochs plan all y s.next_epoch now due.0 t.at (x.next may within) due.2
      (soon (x.slot s.next_epoch) due.0 slot.there (idle_unheld (x.slot s.next_epoch) slot.idle) due.1)

  module _ (k : ℕ) (c : CoreState) (at : s.cores k ≡ Some c) (homefree : c.epoch ≡ s.homefree) where
    order : IsInOrder image c.epoch
    order = subst (IsInOrder image) (sym homefree) is_fresh.done

    low : c.epoch < epochs
    low = core_low k c at order

    to_end : plan.at c.epoch (next_event image c.hart).now.done ≤ plan.commit s.homefree
    to_end =
        let most = event_commits image cores epochs plan all y c.epoch c.hart c.own low ((it.run.quiet k c at).path order) in
        let same = ap plan.commit homefree in omega (arith, most, same)

    by_home : (bound d : ℕ) → (p.clocks k).next ≡ Due d → now ≤ bound → d ≤ bound → t.at ≤ bound
    by_home bound d is first second = soon k d (going.kept.core k c at).there (homefree_unheld k c at homefree) is bound first second

    at_access : IsAccessBy now (plan.at c.epoch (next_event image c.hart).now.done) (p.clocks k).next → t.at ≤ plan.commit s.homefree
    at_access by =
        let most = by_home (plan.at c.epoch (next_event image c.hart).now.done) by.due by.is by.by by.soon in
        let last = to_end in omega (arith, most, last)

    at_end : (n : Next) → (p.clocks k).next ≡ n → IsEndBy now s.homefree c.epoch (plan.at c.epoch (next_event image c.hart).now.done) n → t.at ≤ plan.commit s.homefree
    at_end (Due d) is (inl early) = let last = to_end in by_home (plan.commit s.homefree) d is x.homefree (omega (arith, early, last))
    at_end (Due d) is (inr past) = let by = x.homefree in by_home (plan.commit s.homefree) d is x.homefree (omega (arith, past, by))
    at_end (Waits since cause) is by = absurd (by homefree)
    at_end Gone is by = absurd by

    by_stop : (a : Stop) → IsBy now s.homefree c.epoch (plan.at c.epoch (next_event image c.hart).now.done) a (p.clocks k).next → t.at ≤ plan.commit s.homefree
    by_stop (stop.Load address width signed rd) by = at_access by
    by_stop (stop.Store address width value) by = at_access by
    by_stop stop.Ended by = at_end (p.clocks k).next refl by
    by_stop (stop.Fault cause pc) by = at_end (p.clocks k).next refl by

    on_homefree : t.at ≤ plan.commit s.homefree
    on_homefree = by_stop (next_event image c.hart).at (x.run k c at order)

  pub by_commit : t.at ≤ plan.commit s.homefree
  by_commit = elim (cases_lt s.homefree s.next_epoch) [
    | inl started ↦ (let r = x.runs s.homefree (omega arith) started in on_homefree r.0 r.1 r.2 r.3)
    | inr none ↦
        (let before = going.kept.homefree_started in
        let same : s.next_epoch ≡ s.homefree = omega (arith, none, before) in
        let there = it.first.core in
        let left = x.left in
        let may : MayBegin cores s s.next_epoch = record { from = omega arith; near = omega (arith, same, there) } in
        begins_commits image cores epochs plan all y s.homefree t.at homefree_low (subst (λ e. BeginsBy cores plan e t.at) same (by_begin may (omega (arith, left, same)))))
  ]

  module _ (k : ℕ) (c : CoreState) (at : s.cores k ≡ Some c) (order : IsInOrder image c.epoch) where
    abbrev place : ℕ
    place = (next_event image c.hart).now.done

    unheld_access : held_in paced.holds old.book p.held k ≡ false → IsAccessBy now (plan.at c.epoch place) (p.clocks k).next → t.at ≤ plan.at c.epoch place
    unheld_access free by = soon k by.due (going.kept.core k c at).there free by.is (plan.at c.epoch place) by.by by.soon

    load_access : (address width rd : ℕ) (signed : Bool) → (next_event image c.hart).at ≡ stop.Load address width signed rd → IsAccessBy now (plan.at c.epoch place) (p.clocks k).next
        → t.at ≤ plan.at c.epoch place
    load_access address width rd signed next by = elim (cases_Bool (is_held paced.holds image s.homefree (Some c.epoch) c.own (Some c.hart))) [
      | inr free ↦ unheld_access (run_held k c at ∙ free) by
      | inl held ↦
          (let low = core_low k c at order in
          let most = all.most in
          let d = held_depends image paced.holds it.holds s.homefree c.epoch c.own c.hart address width rd signed (omega (arith, low, most)) order
          ((it.run.quiet k c at).path order) next held in
          let ready = y.ready c.epoch place d.0 d.1 d.2 d.4 in
          let before = d.4.store.before in
          let rise = commits_rise image cores epochs plan all y s.homefree d.1 d.3 (omega (arith, before, low)) in
          let commit = by_commit in omega (arith, ready, rise, commit))
    ]

    access_by : (a : Stop) → (next_event image c.hart).at ≡ a → IsAccess a → IsBy now s.homefree c.epoch (plan.at c.epoch place) a (p.clocks k).next → t.at ≤ plan.at c.epoch place
    access_by (stop.Load address width signed rd) next access by = load_access address width rd signed next by
    access_by (stop.Store address width value) next access by = unheld_access (store_unheld k c address width value at next) by
    access_by stop.Ended next access by = absurd access
    access_by (stop.Fault cause pc) next access by = absurd access

    by_access : IsAccess (next_event image c.hart).at → t.at ≤ plan.at c.epoch place
    by_access access = access_by (next_event image c.hart).at refl access (x.run k c at order)

  -- ---- clocks after the turn

  abbrev pace : Answer → Pace
  pace answer = pace_after old mid paced.queues p t answer

  abbrev its : Answer → ℕ → Clock
  its answer k = answered t.at (restarts old mid) (executed_by image answer) t.price.spent answer (late_clocks paced.queues p.clocks t k)

  go_other : (hart : HartState) (k : ℕ) → k ≢ t.core → (pace (Go hart)).clocks k ≡ woken t.at (p.clocks k)
  go_other hart k other =
      by_other (λ (c : Clock). woken t.at c ≡ woken t.at (p.clocks k)) (k == t.core) (its (Go hart) k) (late_clocks paced.queues p.clocks t k) (ne_eqb k t.core other)
      (ap (woken t.at) (late_other paced.queues p.clocks t k other))

  left_other : (k : ℕ) → k ≢ t.core → (pace Left).clocks k ≡ woken t.at (p.clocks k)
  left_other k other =
      by_other (λ (c : Clock). woken t.at c ≡ woken t.at (p.clocks k)) (k == t.core) (its Left k) (late_clocks paced.queues p.clocks t k) (ne_eqb k t.core other)
      (ap (woken t.at) (late_other paced.queues p.clocks t k other))

  again_other : (cause : Cause) (k : ℕ) → k ≢ t.core → (pace (Again cause)).clocks k ≡ p.clocks k
  again_other cause k other =
      by_other (λ (c : Clock). c ≡ p.clocks k) (k == t.core) (its (Again cause) k) (late_clocks paced.queues p.clocks t k) (ne_eqb k t.core other) (late_other paced.queues p.clocks t k other)

  go_own : (hart : HartState) → ((pace (Go hart)).clocks t.core).next ≡ Due (t.at + 1 + ((next_event image hart).now.done - hart.done))
  go_own hart =
      let e = (next_event image hart).now.done - hart.done in
      let none = costs_none paced view waits costless old mid p t s it in
      let same : t.at + 1 + total t.price.spent + e ≡ t.at + 1 + e = omega (arith, none) in
      by_test (λ (c : Clock). (woken t.at c).next ≡ Due (t.at + 1 + e)) (t.core == t.core) (its (Go hart) t.core) (late_clocks paced.queues p.clocks t t.core) (eq-eqb t.core t.core refl) (ap Due same)

  left_own : ((pace Left).clocks t.core).next ≡ Due (t.at + 1)
  left_own =
      let none = costs_none paced view waits costless old mid p t s it in
      let same : t.at + 1 + total t.price.spent ≡ t.at + 1 = omega (arith, none) in
      by_test (λ (c : Clock). (woken t.at c).next ≡ Due (t.at + 1)) (t.core == t.core) (its Left t.core) (late_clocks paced.queues p.clocks t t.core) (eq-eqb t.core t.core refl) (ap Due same)

  waits_own : ((pace (Again NotHomefree)).clocks t.core).next ≡ Waits t.at NotHomefree
  waits_own = by_test (λ (c : Clock). c.next ≡ Waits t.at NotHomefree) (t.core == t.core) (its (Again NotHomefree) t.core) (late_clocks paced.queues p.clocks t t.core) (eq-eqb t.core t.core refl) refl

  -- ---- what other cores keep

  other_run : (h : ℕ) (k : ℕ) (c : CoreState) (clock : Clock) → s.cores k ≡ Some c → IsInOrder image c.epoch → clock ≡ woken t.at (p.clocks k)
      → IsBy t.at h c.epoch (plan.at c.epoch (next_event image c.hart).now.done) (next_event image c.hart).at clock.next
  other_run h k c clock at order same =
      subst (λ (z : Clock). IsBy t.at h c.epoch (plan.at c.epoch (next_event image c.hart).now.done) (next_event image c.hart).at z.next) (sym same)
      (by_woken now t.at s.homefree h c.epoch (plan.at c.epoch (next_event image c.hart).now.done) (next_event image c.hart).at (p.clocks k) after_now (by_access k c at order) (x.run k c at order))

  same_run : (k : ℕ) (c : CoreState) (clock : Clock) → s.cores k ≡ Some c → IsInOrder image c.epoch → clock ≡ p.clocks k
      → IsBy t.at s.homefree c.epoch (plan.at c.epoch (next_event image c.hart).now.done) (next_event image c.hart).at clock.next
  same_run k c clock at order same =
      subst (λ (z : Clock). IsBy t.at s.homefree c.epoch (plan.at c.epoch (next_event image c.hart).now.done) (next_event image c.hart).at z.next) (sym same)
      (by_later now t.at s.homefree c.epoch (plan.at c.epoch (next_event image c.hart).now.done) (next_event image c.hart).at (p.clocks k).next after_now (by_access k c at order) (x.run k c at order))

  -- an idle core stays one, for this epoch or a later one
  slot_on : (u : FlatState) (clocks : ℕ → Clock) (e f k : ℕ) → e ≤ f → f < epochs + cores → (f < image.epochs → e < image.epochs) → IsSlot image cores plan s p.clocks e k
      → u.cores k ≡ s.cores k → clocks k ≡ woken t.at (p.clocks k) → IsSlot image cores plan u clocks f k
  slot_on u clocks e f k later near within slot same clock = record {
    there = slot.there;
    idle = same ∙ slot.idle;
    soon = λ low. let due = slot.soon (within low) in (
      due.0,
      ap (λ (c : Clock). c.next) clock ∙ woken_due t.at due.0 (p.clocks k) due.1,
      later_begins image cores epochs plan all y e f due.0 later near due.2,
    );
  }

  not_idle : (k : ℕ) (c : CoreState) (j : ℕ) → s.cores k ≡ Some c → s.cores j ≡ None → j ≢ k
  not_idle k c j at idle same = none_and_some (s.cores j) c idle (ap s.cores same ∙ at)

  -- ---- a core waits

  pub waited : (cause : Cause) → Waited image s t.core cause → IsOnPlan image cores plan t.at s (pace (Again cause)).clocks
  waited NoEpoch w = record {
    left = x.left;
    window = x.window;
    homefree = by_commit;
    runs = x.runs;
    run = λ k c at order. same_run k c ((pace (Again NoEpoch)).clocks k) at order (again_other NoEpoch k (λ same. not_idle k c t.core at w.0 (sym same)));
    next = λ may within. let none = w.1 in absurd (omega (arith, within, none));
    slot = x.slot;
    slots = λ e may. let slot = x.slots e may in record {
      there = slot.there;
      idle = slot.idle;
      soon = λ low. let from = may.from in let none = w.1 in absurd (omega (arith, low, from, none));
    };
    apart = x.apart;
    used = x.used;
  }
  waited NotHomefree w = record {
    left = x.left;
    window = x.window;
    homefree = by_commit;
    runs = x.runs;
    run = λ k c at order. elim (cases_eq k t.core) [
      | inl e ↦
          (let same = one_value (s.cores t.core) w.0 c w.1 (ap s.cores (sym e) ∙ at) in
          by_wait t.at s.homefree c.epoch (plan.at c.epoch (next_event image c.hart).now.done) t.at NotHomefree (next_event image c.hart).at ((pace (Again NotHomefree)).clocks k).next
          (subst (λ (d : CoreState). IsEnd (next_event image d.hart).at) same w.2)
          (ap (λ j. ((pace (Again NotHomefree)).clocks j).next) e ∙ waits_own)
          (subst (λ (d : CoreState). d.epoch ≢ s.homefree) same w.3))
      | inr other ↦ same_run k c ((pace (Again NotHomefree)).clocks k) at order (again_other NotHomefree k other)
    ];
    next = by_begin;
    slot = x.slot;
    slots = λ e may. let slot = x.slots e may in record {
      there = slot.there;
      idle = slot.idle;
      soon = λ low. let due = slot.soon low in (
        due.0,
        ap (λ (c : Clock). c.next) (again_other NotHomefree (x.slot e) (not_idle t.core w.0 (x.slot e) w.1 slot.idle)) ∙ due.1,
        due.2,
      );
    };
    apart = x.apart;
    used = x.used;
  }
  waited NoWay w = absurd w
  waited OrbFull w = absurd w
  waited OrbBusy w = absurd w

  module _ (u : FlatState) (entries : List Entry) (w : StoreView) (after : After image cores t.core s u entries w) where
    -- ---- it comes past its access

    module _ (hart : HartState) (b : Passed image s u t.core hart) where
      abbrev passed_clocks : ℕ → Clock
      passed_clocks = (pace (Go hart)).clocks

      own_passed : IsInOrder image b.now.epoch → IsBy t.at u.homefree b.now.epoch (plan.at b.now.epoch (next_event image b.now.hart).now.done) (next_event image b.now.hart).at (passed_clocks t.core).next
      own_passed order =
          let order' : IsInOrder image b.was.epoch = subst (IsInOrder image) b.epoch order in
          let low : b.now.epoch < epochs = subst (λ e. e < epochs) (sym b.epoch) (core_low t.core b.was b.ran order') in
          let n = (next_event image b.was.hart).now.done in
          let n' = (next_event image b.now.hart).now.done in
          let most : t.at ≤ plan.at b.now.epoch n = subst (λ e. t.at ≤ plan.at e n) (sym b.epoch) (by_access t.core b.was b.ran order' b.access) in
          let count : b.now.hart.done ≡ n + 1 = ap (λ (h : HartState). h.done) b.hart_is ∙ b.count in
          let before = later_event image b.now.hart in
          let rise = places_rise image cores epochs plan all y b.now.epoch n b.now.hart b.now.own low ((after.quiet t.core b.now b.runs).path order) (omega (arith, count, before)) in
          by_due t.at u.homefree b.now.epoch (plan.at b.now.epoch n') (t.at + 1 + (n' - b.now.hart.done)) (next_event image b.now.hart).at (passed_clocks t.core).next
          (go_own hart ∙ ap (λ (h : HartState). Due (t.at + 1 + ((next_event image h).now.done - h.done))) (sym b.hart_is)) (omega arith) (omega (arith, most, count, before, rise))

      may_s : (e : ℕ) → MayBegin cores u e → MayBegin cores s e
      may_s e may =
          let from = may.from in let near = may.near in let h = b.homefree in let n = b.next_epoch in record { from = omega (arith, from, n); near = omega (arith, near, h) }

      pub passed : IsOnPlan image cores plan t.at u passed_clocks
      passed = record {
        left = (let left = x.left in let h = b.homefree in omega (arith, left, h));
        window = (let window = x.window in let h = b.homefree in let n = b.next_epoch in omega (arith, window, h, n));
        homefree = (let by = by_commit in let same = ap plan.commit b.homefree in omega (arith, by, same));
        runs = λ e from below.
            let h = b.homefree in
            let n = b.next_epoch in
            let r = x.runs e (omega (arith, from, h)) (omega (arith, below, n)) in
            elim (cases_eq r.0 t.core) [
              | inl here ↦
                  (let same = one_value (s.cores t.core) b.was r.1 b.ran (ap s.cores (sym here) ∙ r.2) in
                  (t.core, b.now, b.runs, b.epoch ∙ (ap (λ (d : CoreState). d.epoch) same ∙ r.3)))
              | inr other ↦ (r.0, r.1, after.others r.0 other ∙ r.2, r.3)
            ];
        run = λ k c at order. elim (cases_eq k t.core) [
          | inl e ↦
              (let same = one_value (u.cores t.core) b.now c b.runs (ap u.cores (sym e) ∙ at) in
              subst (λ j. IsBy t.at u.homefree c.epoch (plan.at c.epoch (next_event image c.hart).now.done) (next_event image c.hart).at (passed_clocks j).next) (sym e)
              (subst (λ (d : CoreState). IsInOrder image d.epoch
              → IsBy t.at u.homefree d.epoch (plan.at d.epoch (next_event image d.hart).now.done) (next_event image d.hart).at (passed_clocks t.core).next) same own_passed order))
          | inr other ↦ other_run u.homefree k c (passed_clocks k) (sym (after.others k other) ∙ at) order (go_other hart k other)
        ];
        next = λ may within. subst (λ e. BeginsBy cores plan e t.at) (sym b.next_epoch)
            (by_begin (subst (MayBegin cores s) b.next_epoch (may_s u.next_epoch may)) (subst (λ e. e < image.epochs) b.next_epoch within));
        slot = x.slot;
        slots = λ e may.
            let slot = x.slots e (may_s e may) in
            let other = not_idle t.core b.was (x.slot e) b.ran slot.idle in
            let near = may.near in let h = b.homefree in let low = homefree_low in
            slot_on u passed_clocks e e (x.slot e) (omega arith) (omega (arith, near, h, low)) (λ within. within) slot (after.others (x.slot e) other) (go_other hart (x.slot e) other);
        apart = λ e f may may'. x.apart e f (may_s e may) (may_s f may');
        used = λ k there idle.
            let other : k ≢ t.core = λ same. none_and_some (u.cores k) b.now idle (ap u.cores same ∙ b.runs) in
            let one = x.used k there (sym (after.others k other) ∙ idle) in
            let from = one.1.from in let near = one.1.near in let h = b.homefree in let n = b.next_epoch in
            (one.0, record { from = omega (arith, from, n); near = omega (arith, near, h) }, one.2);
      }

    -- ---- it begins the next epoch

    module _ (hart : HartState) (b : Began image s u t.core hart) where
      abbrev began_clocks : ℕ → Clock
      began_clocks = (pace (Go hart)).clocks

      abbrev first : ℕ
      first = s.next_epoch

      mine : (e : ℕ) × MayBegin cores s e × (x.slot e ≡ t.core)
      mine = x.used t.core it.first.core b.idle

      may_first : MayBegin cores s first
      may_first = let from = mine.1.from in let near = mine.1.near in record { from = omega arith; near = omega (arith, from, near) }

      began_by : BeginsBy cores plan first t.at
      began_by = by_begin may_first b.left

      own_began : IsInOrder image first
          → IsBy t.at u.homefree first (plan.at first (next_event image (start_of image first)).now.done) (next_event image (start_of image first)).at (began_clocks t.core).next
      own_began order =
          let low = all.no_more first b.left order in
          let n = (next_event image (start_of image first)).now.done in
          let from = begins_within image cores epochs plan all y first t.at low began_by in
          let later = y.first first low in
          let rise = places_rise image cores epochs plan all y first 0 (start_of image first) (begun image first).own low ((after.quiet t.core (begun image first) b.runs).path order) (omega arith) in
          by_due t.at u.homefree first (plan.at first n) (t.at + 1 + (n - (start_of image first).done)) (next_event image (start_of image first)).at (began_clocks t.core).next
          (go_own hart ∙ ap (λ (h : HartState). Due (t.at + 1 + ((next_event image h).now.done - h.done))) b.hart_is) (omega arith) (omega (arith, from, later, rise))

      abbrev began_slot : ℕ → ℕ
      began_slot e = if x.slot e == t.core then x.slot first else x.slot e

      slot_here : (e : ℕ) → x.slot e ≡ t.core → began_slot e ≡ x.slot first
      slot_here e is = ap (λ (b : Bool). if b then x.slot first else x.slot e) (eq-eqb (x.slot e) t.core is)

      slot_other : (e : ℕ) → x.slot e ≢ t.core → began_slot e ≡ x.slot e
      slot_other e other = ap (λ (b : Bool). if b then x.slot first else x.slot e) (ne_eqb (x.slot e) t.core other)

      may_after : (e : ℕ) → MayBegin cores u e → MayBegin cores s e
      may_after e may =
          let from = may.from in let near = may.near in let h = b.homefree in let n = b.next_epoch in record { from = omega (arith, from, n); near = omega (arith, near, h) }

      later_than : (e : ℕ) → MayBegin cores u e → first < e
      later_than e may = let from = may.from in let n = b.next_epoch in omega (arith, from, n)

      near_enough : (e : ℕ) → MayBegin cores u e → e < epochs + cores
      near_enough e may = let near = may.near in let h = b.homefree in let low = homefree_low in omega (arith, near, h, low)

      not_first : (e : ℕ) → MayBegin cores u e → x.slot e ≡ t.core → x.slot first ≢ t.core
      not_first e may here same = let is = x.apart first e may_first (may_after e may) (same ∙ sym here) in let later = later_than e may in omega (arith, is, later)

      slot_after : (e : ℕ) → MayBegin cores u e → IsSlot image cores plan u began_clocks e (began_slot e)
      slot_after e may = elim (cases_eq (x.slot e) t.core) [
        | inl here ↦
            (let other = not_first e may here in
            let later = later_than e may in
            subst (IsSlot image cores plan u began_clocks e) (sym (slot_here e here))
            (slot_on u began_clocks first e (x.slot first) (omega (arith, later)) (near_enough e may) (λ low. b.left) (x.slots first may_first)
            (after.others (x.slot first) other) (go_other hart (x.slot first) other)))
        | inr other ↦
            subst (IsSlot image cores plan u began_clocks e) (sym (slot_other e other))
            (slot_on u began_clocks e e (x.slot e) (omega arith) (near_enough e may) (λ low. low) (x.slots e (may_after e may)) (after.others (x.slot e) other) (go_other hart (x.slot e) other))
      ]

      not_same : (e f : ℕ) → MayBegin cores u e → MayBegin cores u f → x.slot e ≡ t.core → x.slot f ≢ t.core → began_slot e ≡ began_slot f → ⊥
      not_same e f may may' here other same =
          let is = x.apart first f may_first (may_after f may') (sym (slot_here e here) ∙ (same ∙ slot_other f other)) in
          let later = later_than f may' in omega (arith, is, later)

      apart_after : (e f : ℕ) → MayBegin cores u e → MayBegin cores u f → began_slot e ≡ began_slot f → e ≡ f
      apart_after e f may may' same = elim (cases_eq (x.slot e) t.core) [
        | inl here ↦ elim (cases_eq (x.slot f) t.core) [
          | inl here' ↦ x.apart e f (may_after e may) (may_after f may') (here ∙ sym here')
          | inr other' ↦ absurd (not_same e f may may' here other' same)
        ]
        | inr other ↦ elim (cases_eq (x.slot f) t.core) [
          | inl here' ↦ absurd (not_same f e may' may here' other (sym same))
          | inr other' ↦ x.apart e f (may_after e may) (may_after f may') (sym (slot_other e other) ∙ (same ∙ slot_other f other'))
        ]
      ]

      may_before : (e : ℕ) → e ≢ first → MayBegin cores s e → MayBegin cores u e
      may_before e other may =
          let from = may.from in let near = may.near in let h = b.homefree in let n = b.next_epoch in record { from = omega (arith, from, n, other); near = omega (arith, near, h) }

      used_after : (k : ℕ) → k < cores → u.cores k ≡ None → (e : ℕ) × MayBegin cores u e × (began_slot e ≡ k)
      used_after k there idle =
          let other : k ≢ t.core = λ same. none_and_some (u.cores k) (begun image first) idle (ap u.cores same ∙ b.runs) in
          let one = x.used k there (sym (after.others k other) ∙ idle) in
          elim (cases_eq one.0 first) [
            | inl is ↦
                (let at_first : x.slot first ≡ k = ap x.slot (sym is) ∙ one.2 in
                (mine.0, may_before mine.0 (λ same. other (sym at_first ∙ (ap x.slot (sym same) ∙ mine.2))) mine.1, slot_here mine.0 mine.2 ∙ at_first))
            | inr apart ↦ (one.0, may_before one.0 apart one.1, slot_other one.0 (λ same. other (sym one.2 ∙ same)) ∙ one.2)
          ]

      pub began : IsOnPlan image cores plan t.at u began_clocks
      began = record {
        left = (let left = x.left in let h = b.homefree in omega (arith, left, h));
        window = (let near = may_first.near in let h = b.homefree in let n = b.next_epoch in omega (arith, near, h, n));
        homefree = (let by = by_commit in let same = ap plan.commit b.homefree in omega (arith, by, same));
        runs = λ e from below. elim (cases_eq e first) [
          | inl is ↦ (t.core, begun image first, b.runs, sym is)
          | inr older ↦
              (let h = b.homefree in
              let n = b.next_epoch in
              let r = x.runs e (omega (arith, from, h)) (omega (arith, below, n, older)) in
              (r.0, r.1, after.others r.0 (λ same. not_idle r.0 r.1 t.core r.2 b.idle (sym same)) ∙ r.2, r.3))
        ];
        run = λ k c at order. elim (cases_eq k t.core) [
          | inl e ↦
              (let same = one_value (u.cores t.core) (begun image first) c b.runs (ap u.cores (sym e) ∙ at) in
              subst (λ j. IsBy t.at u.homefree c.epoch (plan.at c.epoch (next_event image c.hart).now.done) (next_event image c.hart).at (began_clocks j).next) (sym e)
              (subst (λ (d : CoreState). IsInOrder image d.epoch
              → IsBy t.at u.homefree d.epoch (plan.at d.epoch (next_event image d.hart).now.done) (next_event image d.hart).at (began_clocks t.core).next) same own_began order))
          | inr other ↦ other_run u.homefree k c (began_clocks k) (sym (after.others k other) ∙ at) order (go_other hart k other)
        ];
        next = λ may within.
            let later = later_than u.next_epoch may in
            later_begins image cores epochs plan all y first u.next_epoch t.at (omega (arith, later)) (near_enough u.next_epoch may) began_by;
        slot = began_slot;
        slots = slot_after;
        apart = apart_after;
        used = used_after;
      }

    -- ---- its epoch commits

    module _ (b : Committed image s u t.core) where
      abbrev left_clocks : ℕ → Clock
      left_clocks = (pace Left).clocks

      abbrev more : ℕ
      more = s.homefree + cores

      fresh_u : IsFresh image u
      fresh_u =
          quiet.is_fresh image cores t.core u w w (old.book.history ++ entries) it.is_image
          (history_goes_on image cores old.book.history entries s u it.run.reached after.replays) after.going after.agrees after.quiet

      left_u : u.homefree < image.epochs
      left_u =
          let below = (going.kept.core t.core b.was b.ran).below in
          let most = going.kept.started in
          let epoch = b.epoch in
          let h = b.homefree in
          let other : u.homefree ≢ image.epochs = λ same. b.left (sym h ∙ same) in omega (arith, below, most, epoch, h, other)

      low_u : u.homefree < epochs
      low_u = all.no_more u.homefree left_u fresh_u.done

      abbrev left_slot : ℕ → ℕ
      left_slot e = if e == more then t.core else x.slot e

      slot_new : left_slot more ≡ t.core
      slot_new = ap (λ (b : Bool). if b then t.core else x.slot more) (eq-eqb more more refl)

      slot_old : (e : ℕ) → e ≢ more → left_slot e ≡ x.slot e
      slot_old e other = ap (λ (b : Bool). if b then t.core else x.slot e) (ne_eqb e more other)

      may_old : (e : ℕ) → e ≢ more → MayBegin cores u e → MayBegin cores s e
      may_old e other may =
          let from = may.from in let near = may.near in let h = b.homefree in let n = b.next_epoch in record { from = omega (arith, from, n); near = omega (arith, near, h, other) }

      near_u : (e : ℕ) → MayBegin cores u e → e < epochs + cores
      near_u e may = let near = may.near in let low = low_u in omega (arith, near, low)

      begins_more : (step : ℕ) → step ≤ t.at + 1 → BeginsBy cores plan more step
      begins_more step low = (
        λ early. absurd (omega (arith, early)),
        λ before sum.
            let is : s.homefree ≡ before = omega (arith, sum) in
            let by = by_commit in let same = ap plan.commit is in omega (arith, by, same, low),
      )

      slot_left : (e : ℕ) → MayBegin cores u e → IsSlot image cores plan u left_clocks e (left_slot e)
      slot_left e may = elim (cases_eq e more) [
        | inl is ↦
            subst (λ n. IsSlot image cores plan u left_clocks n (left_slot n)) (sym is)
            (subst (IsSlot image cores plan u left_clocks more) (sym slot_new)
            (record { there = it.first.core; idle = b.idle; soon = λ low. (t.at + 1, left_own, begins_more (t.at + 1) (omega arith)) }))
        | inr other ↦
            (let slot = x.slots e (may_old e other may) in
            let apart = not_idle t.core b.was (x.slot e) b.ran slot.idle in
            subst (IsSlot image cores plan u left_clocks e) (sym (slot_old e other))
            (slot_on u left_clocks e e (x.slot e) (omega arith) (near_u e may) (λ low. low) slot (after.others (x.slot e) apart) (left_other (x.slot e) apart)))
      ]

      not_both : (f : ℕ) → f ≢ more → MayBegin cores u f → t.core ≡ x.slot f → ⊥
      not_both f other may same = not_idle t.core b.was (x.slot f) b.ran (x.slots f (may_old f other may)).idle (sym same)

      apart_left : (e f : ℕ) → MayBegin cores u e → MayBegin cores u f → left_slot e ≡ left_slot f → e ≡ f
      apart_left e f may may' same = elim (cases_eq e more) [
        | inl here ↦ elim (cases_eq f more) [
          | inl here' ↦ here ∙ sym here'
          | inr other' ↦ absurd (not_both f other' may' (sym slot_new ∙ (ap left_slot (sym here) ∙ (same ∙ slot_old f other'))))
        ]
        | inr other ↦ elim (cases_eq f more) [
          | inl here' ↦ absurd (not_both e other may (sym slot_new ∙ (ap left_slot (sym here') ∙ (sym same ∙ slot_old e other))))
          | inr other' ↦ x.apart e f (may_old e other may) (may_old f other' may') (sym (slot_old e other) ∙ (same ∙ slot_old f other'))
        ]
      ]

      used_left : (k : ℕ) → k < cores → u.cores k ≡ None → (e : ℕ) × MayBegin cores u e × (left_slot e ≡ k)
      used_left k there idle = elim (cases_eq k t.core) [
        | inl is ↦
            (let below = (going.kept.core t.core b.was b.ran).below in
            let h = b.homefree in
            let n = b.next_epoch in
            let window = x.window in (more, record { from = omega (arith, n, window); near = omega (arith, h) }, slot_new ∙ sym is))
        | inr other ↦
            (let one = x.used k there (sym (after.others k other) ∙ idle) in
            let from = one.1.from in let near = one.1.near in let h = b.homefree in let n = b.next_epoch in
            (one.0, record { from = omega (arith, from, n); near = omega (arith, near, h) }, slot_old one.0 (λ same. omega (arith, near, same)) ∙ one.2))
      ]

      next_left : MayBegin cores u u.next_epoch → u.next_epoch < image.epochs → BeginsBy cores plan u.next_epoch t.at
      next_left may within = elim (cases_eq u.next_epoch more) [
        | inl is ↦ subst (λ e. BeginsBy cores plan e t.at) (sym is) (begins_more t.at (omega arith))
        | inr other ↦
            subst (λ e. BeginsBy cores plan e t.at) (sym b.next_epoch)
            (by_begin (subst (MayBegin cores s) b.next_epoch (may_old u.next_epoch other may)) (subst (λ e. e < image.epochs) b.next_epoch within))
      ]

      pub committed : IsOnPlan image cores plan t.at u left_clocks
      committed = record {
        left = left_u;
        window = (let window = x.window in let h = b.homefree in let n = b.next_epoch in omega (arith, window, h, n));
        homefree =
            (let by = by_commit in
            let h = b.homefree in
            let rise = commits_rise image cores epochs plan all y s.homefree u.homefree (omega (arith, h)) low_u in omega (arith, by, rise));
        runs = λ e from below.
            let h = b.homefree in
            let n = b.next_epoch in
            let r = x.runs e (omega (arith, from, h)) (omega (arith, below, n)) in (
              r.0,
              r.1,
              after.others r.0 (λ same.
                  let is = ap (λ (d : CoreState). d.epoch) (one_value (s.cores t.core) b.was r.1 b.ran (ap s.cores (sym same) ∙ r.2)) in
                  let epoch = r.3 in let home = b.epoch in omega (arith, is, epoch, home, from, h)) ∙ r.2,
              r.3,
            );
        run = λ k c at order.
            let other : k ≢ t.core = λ same. none_and_some (u.cores k) c (ap u.cores same ∙ b.idle) at in
            other_run u.homefree k c (left_clocks k) (sym (after.others k other) ∙ at) order (left_other k other);
        next = next_left;
        slot = left_slot;
        slots = slot_left;
        apart = apart_left;
        used = used_left;
      }
