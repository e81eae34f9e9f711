use Rattle.std.proofs.Common.{◌*◌, ◌&&◌, ◌⊎◌, suc, ◌<◌, ◌≤◌, Bool, None, Option, Ok, Err, Some, List, ℕ, ◌≡◌, ◌+◌, ◌∷◌, [], cond, true, false, ◌==◌, ◌≢◌, not, is_none, is_some, refl, sym, ap, subst, ◌∙◌, length, slice_index_or, option_map, eq-eqb, inl, inr, true≢false, arith}
use Rattle.std.proofs.Math.Path.{fun_ext}
use native.Mathlib.Decide.{dec_lt}
use Rattle.std.proofs.lemmas.List.{get_or_default, get_or_past}
use Rattle.std.proofs.lemmas.Result.{err_from_is_err_and}
use Rattle.rv32_image.specs.Image.{IsImage}
use Rattle.rv32_image.proofs.Bounds.{most_few}
use Rattle.rv32_image.proofs.SmallFacts.{none_and_some}
use Rattle.rv32_exec.specs.declared.sequential.End.{End}
use Rattle.run_ledger.specs.declared.counts.Counts.{Counts}
use Rattle.homefree.specs.declared.answer.Answer.{Answer}
use Rattle.homefree.specs.declared.answer.Answer.TheVariants.{Again, Go, Over, Stopped}
use Rattle.homefree.specs.declared.answer.Cause.{Cause}
use Rattle.homefree.specs.declared.answer.StopCause.{StopCause}
use Rattle.homefree.specs.Acted.{IfArrived}
use Rattle.rv32_exec.specs.Arrival.{Arrival}
use Rattle.rv32_exec.specs.Hart.{HartState}
use Rattle.homefree.specs.Driven.{Driver, driver, with_held}
use Rattle.homefree.specs.Held.{harts_of, held_by}
use Rattle.homefree.proofs.Books.Drives.{in_order, none_held, no_harts}
use Rattle.even_speed.specs.declared.clock.Clock.{Clock}
use Rattle.even_speed.specs.declared.clocks.Turn.{Turn}
use Rattle.turn_costs.specs.declared.costs.Costs.{Costs}
use Rattle.turn_costs.specs.Prices.{Prices}
use Rattle.even_speed.specs.declared.pricing.Price.{Price}
use Rattle.even_speed.specs.Account.{WastesNone, steps_of, total}
use Rattle.even_speed.specs.Clocks.{account_of, answered, clock_at, dues}
use Rattle.even_speed.specs.Held.{held_in}
use Rattle.even_speed.specs.Holds.{holding_of}
use Rattle.even_speed.specs.Even.{Evenly, HoldsBackNone, IsKept, Pace, at_first, clocks_after, executed_by, pacing_of, price_by, pricing_of, queues_of, restarts}
use Rattle.even_speed.specs.InOrder.{instructions_in_order, steps_in_order}
use Rattle.even_speed.specs.Timed.{IsNeverIdle, Leads}
use Rattle.even_speed.specs.Kept.{AreSound, IsAloneClock, NeverWaits, IsWaitBefore, told, used}
use Rattle.even_speed.specs.Pricing.{all_free, free_after, no_price}
use Rattle.even_speed.proofs.Alone.{no_restarts_in, the_first}
use Rattle.even_speed.specs.Seats.{seat_at}
use Rattle.even_speed.specs.Owns.{own_at}
use Rattle.even_speed.proofs.Choosing.{free_price}
use Rattle.even_speed.proofs.Owning.{first_owned, owns_before}
use Rattle.even_speed.proofs.Seated.{first_seats, seats_before}
use Rattle.even_speed.proofs.Lasting.{first_lasts, halted, lasts_on, late_lasts, never_spent, never_undue}
use Rattle.even_speed.proofs.OneCore.{first_alone, late_alone, over_none, over_unheld, turn_alone}
use Rattle.even_speed.proofs.Sounding.{all_first, at_turn, begins_by, by_bound, due_before, end_least, end_most, late_turn, lates_sound, may_wake_all, order_calm, over_calm, passes, turned_end, turned_sound, used_at, used_before, was_due, whole_at, whole_before, woken_all}
use Rattle.even_speed.proofs.OnTime.{busy_on, busy_timed, first_busy, late_never_idle, late_timed, over_steps, over_timed, start_on_time, timed_on}
use Rattle.even_speed.proofs.Evening.{at_start, ends_fault, ends_over, ends_stopped, goes_on, is_at_first, is_driven, last_are, no_more, turned_are, unless_driven, waits_are, woken_are}
use Rattle.even_speed.proofs.run.drive_evenly.Goals.{in-Again, in_default-answer}
use Rattle.even_speed.proofs.run.drive_evenly.Goals as goal

each_by : (clocks clocks' : List Clock) (core : ℕ) (set now : Clock) → ((k : ℕ) → clock_at clocks' k ≡ cond (k == core) set (clock_at clocks k)) → set ≡ now
    → (k : ℕ) → clock_at clocks' k ≡ cond (k == core) now (clock_at clocks k)
each_by clocks clocks' core set now each is k = each k ∙ ap (λ c. cond (k == core) c (clock_at clocks k)) is

same_restarts : (a b x y : Counts) → a ≡ x → b ≡ y → not (a.restarts == b.restarts) ≡ not (x.restarts == y.restarts)
same_restarts a b x y this that = rw (this, that) refl

again_not_over : (answer : Answer) (cause : Cause) (end : End) → answer ≡ Again cause → answer ≢ Over end
again_not_over answer cause end is over = absurd cc

again_not_stopped : (answer : Answer) (cause : Cause) (stop : StopCause) → answer ≡ Again cause → answer ≢ Stopped stop
again_not_stopped answer cause stop is stopped = absurd cc

no_restart : (before after : ℕ) → before ≡ 0 → after ≡ 0 → not (after == before) ≡ false
no_restart before after none still = rw (none, still) refl

-- where turns cost nothing
no_queue : (o : Option Costs) (none : Bool) → is_none o ≡ true → (is_some o && none) ≡ false
no_queue None none is = refl
no_queue (Some costs) none is = absurd cc

no_pricing : {S : Type 0} (prices : S → Prices) (o : Option Costs) → pricing_of prices o ≡ None → is_none o ≡ true
no_pricing prices None is = refl
no_pricing prices (Some costs) is = absurd cc

no_costs : {S : Type 0} (prices : S → Prices) (o : Option Costs) (queues : Bool) → (queues ≡ true) ⊎ (pricing_of prices o ≡ None) → queues ≡ false → o ≡ None
no_costs prices None queues unheld none = refl
no_costs prices (Some costs) queues unheld none = elim unheld [
  | inl is ↦ absurd (true≢false (sym is ∙ none))
  | inr is ↦ absurd cc
]

free_spent : (prices : ℕ → Price) (t : Turn) (o : Option Costs) → t.price ≡ prices t.core → (o ≡ None → prices t.core ≡ no_price) → is_none o ≡ true → total t.price.spent ≡ 0
free_spent prices t None price free is = rw (price ∙ free refl) refl
free_spent prices t (Some costs) price free is = absurd cc

kept_by : {S : Type 0} (prices : S → Prices) (keeps : S → Type 0) (store : S) (o : Option Costs) → keeps store → IsKept (pricing_of prices o) keeps store
kept_by prices keeps store None kept = tt
kept_by prices keeps store (Some costs) kept = kept

pub loop-taken-init : goal.loop-taken-init
loop-taken-init g c =
    let hands = harts_of (None ∷ None ∷ None ∷ None ∷ None ∷ None ∷ None ∷ None ∷ None ∷ None ∷ None ∷ None ∷ None ∷ None ∷ None ∷ None ∷ []) in
    let p : Pace = record { held = hands; clocks = clock_at c.in-Ok.clocks.items; free = all_free } in
    let first = is_at_first p (λ k. ap (λ f. f k) (no_harts 16)) c.in-Ok.ensures.first refl in record {
      same = record { image = refl; cores = refl; room = refl };
      held = λ k. subst (λ o. IfArrived c.args.book.now.image o) (sym (none_held 16 k)) tt;
      shares = c.requires.shares;
      sound = all_first c.args.book.now.cores c.in-Ok.clocks.items (c.in-Ok.ensures.count ∙ sym c.requires.book.1)
          (omega (arith, c.look.ensures.core_count.most, most_few c.args.book.now.image.version)) c.in-Ok.ensures.first;
      calm = λ none. omega arith;
      drives = at_start g.S.EpochStore.makes g.S.EpochStore.view g.S.EpochStore.waits g.S.PricedStore.keeps (pacing_of g.S.PricedStore.prices c.args.terms.now) p (driver c.args.book.now c.args.shares.now) c.args.schedule.now.items (λ k. ap (λ f. f k) (no_harts 16)) c.in-Ok.ensures.first refl c.requires.schedule;
      seats = c.note_from.ensures;
      count = c.keep_from.ensures.cores ∙ (c.in-Ok-first_owns.ensures.count ∙ sym c.requires.book.1);
      owns = c.in-Ok-keep_from.ensures.owns;
      timed = λ none. (
        c.look.ensures.state,
        c.look.ensures.replays,
        start_on_time (is_none c.args.terms.now.costs) c.args.book.now.image c.args.book.now.cores c.args.book.now.history c.look.ensures.state p none
            c.look.ensures.replays first,
      );
      lasting = λ none. first_lasts c.args.book.now c.look.ensures.state (clock_at c.in-Ok.clocks.items) none c.look.ensures.replays c.in-Ok.ensures.first;
      few = omega (arith, c.look.ensures.within, c.look.ensures.most);
      stopped = refl;
      busy = λ costless fresh one. subst IsNeverIdle (sym (c.in-Ok.ensures.first 0)) first_busy;
      alone = λ one. (
        no_restarts_in g.S.EpochStore.view c.args.book.now c.look.ensures one,
        subst (IsAloneClock (HoldsBackNone (pacing_of g.S.PricedStore.prices c.args.terms.now)) 0) (sym (c.in-Ok.ensures.first 0)) (first_alone (HoldsBackNone (pacing_of g.S.PricedStore.prices c.args.terms.now))),
      );
    }

pub returns-in_default-next_turn-clause-evenly : goal.returns-in_default-next_turn-clause-evenly
returns-in_default-next_turn-clause-evenly g c = no_more g.S.EpochStore.makes g.S.EpochStore.view g.S.EpochStore.waits g.S.PricedStore.keeps (pacing_of g.S.PricedStore.prices c.args.terms.now) at_first (record { held = harts_of c.loop-taken.held; clocks = clock_at c.loop-taken.clocks.items; free = c.loop-taken.free }) (driver c.args.book.now c.args.shares.now) (driver c.loop-taken.book c.loop-taken.shares) c.loop-taken.schedule.items c.loop-taken.invariant.drives

pub returns-in_default-next_turn-clause-driven : goal.returns-in_default-next_turn-clause-driven
returns-in_default-next_turn-clause-driven g c =
    is_driven g.S.EpochStore.makes g.S.EpochStore.view g.S.EpochStore.waits g.S.PricedStore.keeps (pacing_of g.S.PricedStore.prices c.args.terms.now) at_first (driver c.args.book.now c.args.shares.now) (driver c.loop-taken.book c.loop-taken.shares) c.loop-taken.schedule.items (Ok None) (no_more g.S.EpochStore.makes g.S.EpochStore.view g.S.EpochStore.waits g.S.PricedStore.keeps (pacing_of g.S.PricedStore.prices c.args.terms.now) at_first (record { held = harts_of c.loop-taken.held; clocks = clock_at c.loop-taken.clocks.items; free = c.loop-taken.free }) (driver c.args.book.now c.args.shares.now) (driver c.loop-taken.book c.loop-taken.shares) c.loop-taken.schedule.items c.loop-taken.invariant.drives)

pub returns-in_err-answer-clause-evenly : goal.returns-in_err-answer-clause-evenly
returns-in_err-answer-clause-evenly g c =
    let p = err_from_is_err_and c.from_residual.result c.from_residual.ensures.1 in
    rw (p.1, p.2) (ends_fault g.S.EpochStore.makes g.S.EpochStore.view g.S.EpochStore.waits g.S.PricedStore.keeps (pacing_of g.S.PricedStore.prices c.args.terms.now) at_first (record { held = harts_of c.loop-taken.held; clocks = clock_at c.loop-taken.clocks.items; free = c.loop-taken.free }) (driver c.args.book.now c.args.shares.now) (driver c.loop-taken.book c.loop-taken.shares) (driver c.step.new.book c.step.new.shares) c.loop-taken.schedule.items c.push.new.self.items c.in-Some.turn c.loop-taken.invariant.drives c.in-Some.ensures.next.0 (c.next_turn.ensures.settled, kept_by g.S.PricedStore.prices g.S.PricedStore.keeps c.loop-taken.book.store c.args.terms.now.costs c.next_turn.ensures.kept) c.in-Ok-push.ensures.items
    c.in_err-answer.field-0.0 c.in_err-answer.ensures.turned)

pub returns-in_err-answer-clause-driven : goal.returns-in_err-answer-clause-driven
returns-in_err-answer-clause-driven g c =
    let p = err_from_is_err_and c.from_residual.result c.from_residual.ensures.1 in
    rw (p.1, p.2) (unless_driven g.S.EpochStore.makes g.S.EpochStore.view g.S.EpochStore.waits g.S.PricedStore.keeps (pacing_of g.S.PricedStore.prices c.args.terms.now) at_first (driver c.args.book.now c.args.shares.now) (driver c.step.new.book c.step.new.shares) c.push.new.self.items (Err c.in_err-answer.field-0.0)
    (ends_fault g.S.EpochStore.makes g.S.EpochStore.view g.S.EpochStore.waits g.S.PricedStore.keeps (pacing_of g.S.PricedStore.prices c.args.terms.now) at_first (record { held = harts_of c.loop-taken.held; clocks = clock_at c.loop-taken.clocks.items; free = c.loop-taken.free }) (driver c.args.book.now c.args.shares.now) (driver c.loop-taken.book c.loop-taken.shares) (driver c.step.new.book c.step.new.shares) c.loop-taken.schedule.items c.push.new.self.items c.in-Some.turn c.loop-taken.invariant.drives c.in-Some.ensures.next.0 (c.next_turn.ensures.settled, kept_by g.S.PricedStore.prices g.S.PricedStore.keeps c.loop-taken.book.store c.args.terms.now.costs c.next_turn.ensures.kept) c.in-Ok-push.ensures.items
    c.in_err-answer.field-0.0 c.in_err-answer.ensures.turned))

pub note_from-requires-clause-seats : goal.note_from-requires-clause-seats
note_from-requires-clause-seats g c κs within = first_seats 16 c.args.book.now.history

pub note_from-requires-in-loop-taken-clause-seats : goal.note_from-requires-in-loop-taken-clause-seats
note_from-requires-in-loop-taken-clause-seats g c κs within =
    seats_before (seat_at c.loop-taken.seats) c.loop-taken.book.history c.step.ensures.grows.entries c.step.new.book.history c.len-place.result c.step.ensures.grows.history c.len-place.ensures
    c.loop-taken.invariant.seats

pub keep_from-requires-clause-owns : goal.keep_from-requires-clause-owns
keep_from-requires-clause-owns g c κs within some = first_owned (own_at c.in-Ok-first_owns.owns.items) c.args.book.now.history c.in-Ok-first_owns.ensures.none

pub keep_from-requires-in-loop-taken-clause-owns : goal.keep_from-requires-in-loop-taken-clause-owns
keep_from-requires-in-loop-taken-clause-owns g c κs within some =
    owns_before (own_at c.loop-taken.owns.items) c.loop-taken.book.history c.step.ensures.grows.entries c.step.new.book.history c.len-place.result c.step.ensures.grows.history c.len-place.ensures
    (c.loop-taken.invariant.owns some)

pub next_turn-requires-clause-cores : goal.next_turn-requires-clause-cores
next_turn-requires-clause-cores g c κs within = c.loop-taken.invariant.sound.count

pub next_turn-requires-clause-waiting : goal.next_turn-requires-clause-waiting
next_turn-requires-clause-waiting g c κs within = λ k below. c.held_cores-waiting.ensures k (subst (λ n. k < n) (c.loop-taken.invariant.same.cores ∙ c.requires.book.1) below)

pub be_late-requires-clause-may : goal.be_late-requires-clause-may
be_late-requires-clause-may g c = record {
  before = used_before c.loop-taken._taken c.loop-taken.book.cores c.loop-taken.free c.loop-taken.clocks.items c.loop-taken.invariant.sound (held_in (holding_of c.args.terms.now.holds) c.loop-taken.book (harts_of c.loop-taken.held)) (price_by g.S.PricedStore.prices g.S.EpochStore.waits c.args.terms.now.costs c.loop-taken.book (harts_of c.loop-taken.held)) c.in-Some.turn c.in-Some.ensures.next.0;
  whole = whole_before c.loop-taken._taken c.loop-taken.book.cores c.loop-taken.free c.loop-taken.clocks.items c.loop-taken.invariant.sound (held_in (holding_of c.args.terms.now.holds) c.loop-taken.book (harts_of c.loop-taken.held)) (price_by g.S.PricedStore.prices g.S.EpochStore.waits c.args.terms.now.costs c.loop-taken.book (harts_of c.loop-taken.held)) c.in-Some.turn c.in-Some.ensures.next.0;
  later_on = due_before c.loop-taken._taken c.loop-taken.book.cores c.loop-taken.free c.loop-taken.clocks.items c.loop-taken.invariant.sound (held_in (holding_of c.args.terms.now.holds) c.loop-taken.book (harts_of c.loop-taken.held)) (price_by g.S.PricedStore.prices g.S.EpochStore.waits c.args.terms.now.costs c.loop-taken.book (harts_of c.loop-taken.held)) c.in-Some.turn c.in-Some.ensures.next.0;
  soon = omega (arith, begins_by c.loop-taken._taken c.loop-taken.book.cores c.loop-taken.free c.loop-taken.clocks.items c.loop-taken.invariant.sound (held_in (holding_of c.args.terms.now.holds) c.loop-taken.book (harts_of c.loop-taken.held)) (price_by g.S.PricedStore.prices g.S.EpochStore.waits c.args.terms.now.costs c.loop-taken.book (harts_of c.loop-taken.held)) c.in-Some.turn c.in-Some.ensures.next.0, c.loop-taken-test.true);
}

pub answered-clock-requires-clause-turn : goal.answered-clock-requires-clause-turn
answered-clock-requires-clause-turn g c = record {
  before = subst (λ (k : Clock). used k ≤ c.in-Some.turn.at) (sym c.clock_of-clock.ensures) (used_at c.loop-taken._taken c.loop-taken.book.cores c.loop-taken.free c.be_late.new.clocks.items c.in-Some.turn c.in-Some.ensures.next.1 (lates_sound c.loop-taken._taken c.loop-taken.book.cores c.loop-taken.free c.loop-taken.clocks.items c.loop-taken.invariant.sound (held_in (holding_of c.args.terms.now.holds) c.loop-taken.book (harts_of c.loop-taken.held)) (price_by g.S.PricedStore.prices g.S.EpochStore.waits c.args.terms.now.costs c.loop-taken.book (harts_of c.loop-taken.held)) c.in-Some.turn c.in-Some.ensures.next.0 (queues_of c.args.terms.now) c.be_late.new.clocks.items c.be_late.ensures.len c.be_late.ensures.each) (late_turn c.loop-taken.free (price_by g.S.PricedStore.prices g.S.EpochStore.waits c.args.terms.now.costs c.loop-taken.book (harts_of c.loop-taken.held)) (dues (held_in (holding_of c.args.terms.now.holds) c.loop-taken.book (harts_of c.loop-taken.held)) (clock_at c.loop-taken.clocks.items)) (queues_of c.args.terms.now) (clock_at c.loop-taken.clocks.items) (clock_at c.be_late.new.clocks.items) c.loop-taken.book.cores c.in-Some.turn c.in-Some.ensures.next.0 c.be_late.ensures.each));
  whole = subst (λ (k : Clock). steps_of k.account ≡ told k) (sym c.clock_of-clock.ensures) (whole_at c.loop-taken._taken c.loop-taken.book.cores c.loop-taken.free c.be_late.new.clocks.items c.in-Some.turn c.in-Some.ensures.next.1 (lates_sound c.loop-taken._taken c.loop-taken.book.cores c.loop-taken.free c.loop-taken.clocks.items c.loop-taken.invariant.sound (held_in (holding_of c.args.terms.now.holds) c.loop-taken.book (harts_of c.loop-taken.held)) (price_by g.S.PricedStore.prices g.S.EpochStore.waits c.args.terms.now.costs c.loop-taken.book (harts_of c.loop-taken.held)) c.in-Some.turn c.in-Some.ensures.next.0 (queues_of c.args.terms.now) c.be_late.new.clocks.items c.be_late.ensures.len c.be_late.ensures.each) (late_turn c.loop-taken.free (price_by g.S.PricedStore.prices g.S.EpochStore.waits c.args.terms.now.costs c.loop-taken.book (harts_of c.loop-taken.held)) (dues (held_in (holding_of c.args.terms.now.holds) c.loop-taken.book (harts_of c.loop-taken.held)) (clock_at c.loop-taken.clocks.items)) (queues_of c.args.terms.now) (clock_at c.loop-taken.clocks.items) (clock_at c.be_late.new.clocks.items) c.loop-taken.book.cores c.in-Some.turn c.in-Some.ensures.next.0 c.be_late.ensures.each));
  soon = omega (arith, begins_by c.loop-taken._taken c.loop-taken.book.cores c.loop-taken.free c.loop-taken.clocks.items c.loop-taken.invariant.sound (held_in (holding_of c.args.terms.now.holds) c.loop-taken.book (harts_of c.loop-taken.held)) (price_by g.S.PricedStore.prices g.S.EpochStore.waits c.args.terms.now.costs c.loop-taken.book (harts_of c.loop-taken.held)) c.in-Some.turn c.in-Some.ensures.next.0, c.loop-taken-test.true);
}

pub answered-clock-requires-clause-spent : goal.answered-clock-requires-clause-spent
answered-clock-requires-clause-spent g c = omega (arith, c.in-Some.ensures.next.1.spent)

pub over-steps-requires-clause-at : goal.over-steps-requires-clause-at
over-steps-requires-clause-at g c = omega (arith, by_bound c.loop-taken._taken c.loop-taken.book.cores c.loop-taken.free c.be_late.new.clocks.items c.in-Some.turn c.in-Some.ensures.next.1 (lates_sound c.loop-taken._taken c.loop-taken.book.cores c.loop-taken.free c.loop-taken.clocks.items c.loop-taken.invariant.sound (held_in (holding_of c.args.terms.now.holds) c.loop-taken.book (harts_of c.loop-taken.held)) (price_by g.S.PricedStore.prices g.S.EpochStore.waits c.args.terms.now.costs c.loop-taken.book (harts_of c.loop-taken.held)) c.in-Some.turn c.in-Some.ensures.next.0 (queues_of c.args.terms.now) c.be_late.new.clocks.items c.be_late.ensures.len c.be_late.ensures.each) (late_turn c.loop-taken.free (price_by g.S.PricedStore.prices g.S.EpochStore.waits c.args.terms.now.costs c.loop-taken.book (harts_of c.loop-taken.held)) (dues (held_in (holding_of c.args.terms.now.holds) c.loop-taken.book (harts_of c.loop-taken.held)) (clock_at c.loop-taken.clocks.items)) (queues_of c.args.terms.now) (clock_at c.loop-taken.clocks.items) (clock_at c.be_late.new.clocks.items) c.loop-taken.book.cores c.in-Some.turn c.in-Some.ensures.next.0 c.be_late.ensures.each), c.loop-taken-test.true)

pub after-free-requires-clause-at : goal.after-free-requires-clause-at
after-free-requires-clause-at g c = omega (arith, by_bound c.loop-taken._taken c.loop-taken.book.cores c.loop-taken.free c.be_late.new.clocks.items c.in-Some.turn c.in-Some.ensures.next.1 (lates_sound c.loop-taken._taken c.loop-taken.book.cores c.loop-taken.free c.loop-taken.clocks.items c.loop-taken.invariant.sound (held_in (holding_of c.args.terms.now.holds) c.loop-taken.book (harts_of c.loop-taken.held)) (price_by g.S.PricedStore.prices g.S.EpochStore.waits c.args.terms.now.costs c.loop-taken.book (harts_of c.loop-taken.held)) c.in-Some.turn c.in-Some.ensures.next.0 (queues_of c.args.terms.now) c.be_late.new.clocks.items c.be_late.ensures.len c.be_late.ensures.each) (late_turn c.loop-taken.free (price_by g.S.PricedStore.prices g.S.EpochStore.waits c.args.terms.now.costs c.loop-taken.book (harts_of c.loop-taken.held)) (dues (held_in (holding_of c.args.terms.now.holds) c.loop-taken.book (harts_of c.loop-taken.held)) (clock_at c.loop-taken.clocks.items)) (queues_of c.args.terms.now) (clock_at c.loop-taken.clocks.items) (clock_at c.be_late.new.clocks.items) c.loop-taken.book.cores c.in-Some.turn c.in-Some.ensures.next.0 c.be_late.ensures.each), c.loop-taken-test.true)

pub account_of-account-requires-clause-least : goal.account_of-account-requires-clause-least
account_of-account-requires-clause-least g c = end_least c.loop-taken._taken c.loop-taken.book.cores c.loop-taken.free c.be_late.new.clocks.items c.in-Some.turn c.in-Some.ensures.next.1 (lates_sound c.loop-taken._taken c.loop-taken.book.cores c.loop-taken.free c.loop-taken.clocks.items c.loop-taken.invariant.sound (held_in (holding_of c.args.terms.now.holds) c.loop-taken.book (harts_of c.loop-taken.held)) (price_by g.S.PricedStore.prices g.S.EpochStore.waits c.args.terms.now.costs c.loop-taken.book (harts_of c.loop-taken.held)) c.in-Some.turn c.in-Some.ensures.next.0 (queues_of c.args.terms.now) c.be_late.new.clocks.items c.be_late.ensures.len c.be_late.ensures.each) (late_turn c.loop-taken.free (price_by g.S.PricedStore.prices g.S.EpochStore.waits c.args.terms.now.costs c.loop-taken.book (harts_of c.loop-taken.held)) (dues (held_in (holding_of c.args.terms.now.holds) c.loop-taken.book (harts_of c.loop-taken.held)) (clock_at c.loop-taken.clocks.items)) (queues_of c.args.terms.now) (clock_at c.loop-taken.clocks.items) (clock_at c.be_late.new.clocks.items) c.loop-taken.book.cores c.in-Some.turn c.in-Some.ensures.next.0 c.be_late.ensures.each) (not (c.totals.result.restarts == c.totals-restarts.result.restarts)) c.executed_by-executed.result c.in_ok-answer.answer c.executed_by-executed.ensures.few c.set_clock.new.clocks.items c.set_clock.ensures.len (each_by c.be_late.new.clocks.items c.set_clock.new.clocks.items c.in-Some.turn.core c.answered-clock.result
    (answered c.in-Some.turn.at (not (c.totals.result.restarts == c.totals-restarts.result.restarts)) c.executed_by-executed.result c.in-Some.turn.price.spent c.in_ok-answer.answer (clock_at c.be_late.new.clocks.items c.in-Some.turn.core)) c.set_clock.ensures.each
    (c.answered-clock.ensures ∙ ap (answered c.in-Some.turn.at (not (c.totals.result.restarts == c.totals-restarts.result.restarts)) c.executed_by-executed.result c.in-Some.turn.price.spent c.in_ok-answer.answer) c.clock_of-clock.ensures)) c.over-steps.result c.over-steps.ensures

pub account_of-account-requires-clause-end : goal.account_of-account-requires-clause-end
account_of-account-requires-clause-end g c = omega (
  arith,
  end_most c.loop-taken._taken c.loop-taken.book.cores c.loop-taken.free c.be_late.new.clocks.items c.in-Some.turn c.in-Some.ensures.next.1 (lates_sound c.loop-taken._taken c.loop-taken.book.cores c.loop-taken.free c.loop-taken.clocks.items c.loop-taken.invariant.sound (held_in (holding_of c.args.terms.now.holds) c.loop-taken.book (harts_of c.loop-taken.held)) (price_by g.S.PricedStore.prices g.S.EpochStore.waits c.args.terms.now.costs c.loop-taken.book (harts_of c.loop-taken.held)) c.in-Some.turn c.in-Some.ensures.next.0 (queues_of c.args.terms.now) c.be_late.new.clocks.items c.be_late.ensures.len c.be_late.ensures.each) (late_turn c.loop-taken.free (price_by g.S.PricedStore.prices g.S.EpochStore.waits c.args.terms.now.costs c.loop-taken.book (harts_of c.loop-taken.held)) (dues (held_in (holding_of c.args.terms.now.holds) c.loop-taken.book (harts_of c.loop-taken.held)) (clock_at c.loop-taken.clocks.items)) (queues_of c.args.terms.now) (clock_at c.loop-taken.clocks.items) (clock_at c.be_late.new.clocks.items) c.loop-taken.book.cores c.in-Some.turn c.in-Some.ensures.next.0 c.be_late.ensures.each) (not (c.totals.result.restarts == c.totals-restarts.result.restarts)) c.executed_by-executed.result c.in_ok-answer.answer c.executed_by-executed.ensures.few c.set_clock.new.clocks.items c.set_clock.ensures.len (each_by c.be_late.new.clocks.items c.set_clock.new.clocks.items c.in-Some.turn.core c.answered-clock.result
      (answered c.in-Some.turn.at (not (c.totals.result.restarts == c.totals-restarts.result.restarts)) c.executed_by-executed.result c.in-Some.turn.price.spent c.in_ok-answer.answer (clock_at c.be_late.new.clocks.items c.in-Some.turn.core)) c.set_clock.ensures.each
      (c.answered-clock.ensures ∙ ap (answered c.in-Some.turn.at (not (c.totals.result.restarts == c.totals-restarts.result.restarts)) c.executed_by-executed.result c.in-Some.turn.price.spent c.in_ok-answer.answer) c.clock_of-clock.ensures)) c.over-steps.result c.over-steps.ensures,
  c.loop-taken-test.true,
)

pub account_of-account-requires-clause-sound : goal.account_of-account-requires-clause-sound
account_of-account-requires-clause-sound g c = turned_end c.loop-taken._taken c.loop-taken.book.cores c.loop-taken.free c.be_late.new.clocks.items c.in-Some.turn c.in-Some.ensures.next.1 (lates_sound c.loop-taken._taken c.loop-taken.book.cores c.loop-taken.free c.loop-taken.clocks.items c.loop-taken.invariant.sound (held_in (holding_of c.args.terms.now.holds) c.loop-taken.book (harts_of c.loop-taken.held)) (price_by g.S.PricedStore.prices g.S.EpochStore.waits c.args.terms.now.costs c.loop-taken.book (harts_of c.loop-taken.held)) c.in-Some.turn c.in-Some.ensures.next.0 (queues_of c.args.terms.now) c.be_late.new.clocks.items c.be_late.ensures.len c.be_late.ensures.each) (late_turn c.loop-taken.free (price_by g.S.PricedStore.prices g.S.EpochStore.waits c.args.terms.now.costs c.loop-taken.book (harts_of c.loop-taken.held)) (dues (held_in (holding_of c.args.terms.now.holds) c.loop-taken.book (harts_of c.loop-taken.held)) (clock_at c.loop-taken.clocks.items)) (queues_of c.args.terms.now) (clock_at c.loop-taken.clocks.items) (clock_at c.be_late.new.clocks.items) c.loop-taken.book.cores c.in-Some.turn c.in-Some.ensures.next.0 c.be_late.ensures.each) (not (c.totals.result.restarts == c.totals-restarts.result.restarts)) c.executed_by-executed.result c.in_ok-answer.answer c.executed_by-executed.ensures.few c.set_clock.new.clocks.items c.set_clock.ensures.len (each_by c.be_late.new.clocks.items c.set_clock.new.clocks.items c.in-Some.turn.core c.answered-clock.result
    (answered c.in-Some.turn.at (not (c.totals.result.restarts == c.totals-restarts.result.restarts)) c.executed_by-executed.result c.in-Some.turn.price.spent c.in_ok-answer.answer (clock_at c.be_late.new.clocks.items c.in-Some.turn.core)) c.set_clock.ensures.each
    (c.answered-clock.ensures ∙ ap (answered c.in-Some.turn.at (not (c.totals.result.restarts == c.totals-restarts.result.restarts)) c.executed_by-executed.result c.in-Some.turn.price.spent c.in_ok-answer.answer) c.clock_of-clock.ensures)) c.over-steps.result c.over-steps.ensures

pub returns-in-Over-clause-evenly : goal.returns-in-Over-clause-evenly
returns-in-Over-clause-evenly g c = subst (λ n. Evenly g.S.EpochStore.makes g.S.EpochStore.view g.S.EpochStore.waits g.S.PricedStore.keeps (pacing_of g.S.PricedStore.prices c.args.terms.now) at_first (driver c.args.book.now c.args.shares.now) c.push.new.self.items (Ok (Some (record { end = c.in-Over.end; steps = n; account = c.account_of-account.result }))) (driver c.step.new.book c.step.new.shares)) (sym c.over-steps.ensures)
    (ends_over g.S.EpochStore.makes g.S.EpochStore.view g.S.EpochStore.waits g.S.PricedStore.keeps (pacing_of g.S.PricedStore.prices c.args.terms.now) at_first (record { held = harts_of c.loop-taken.held; clocks = clock_at c.loop-taken.clocks.items; free = c.loop-taken.free }) (driver c.args.book.now c.args.shares.now) (driver c.loop-taken.book c.loop-taken.shares) (driver c.step.new.book c.step.new.shares) c.loop-taken.schedule.items c.push.new.self.items c.in-Some.turn c.loop-taken.invariant.drives c.in-Some.ensures.next.0 (c.next_turn.ensures.settled, kept_by g.S.PricedStore.prices g.S.PricedStore.keeps c.loop-taken.book.store c.args.terms.now.costs c.next_turn.ensures.kept) c.in-Ok-push.ensures.items
    c.in_ok-answer.answer c.in-Over.end (clock_at c.set_clock.new.clocks.items) c.account_of-account.result c.in-Over.is
    (λ k. (last_are (driver c.loop-taken.book c.loop-taken.shares) (driver c.step.new.book c.step.new.shares) (clock_at c.be_late.new.clocks.items) (clock_at c.set_clock.new.clocks.items) c.in-Some.turn c.in_ok-answer.answer (not (c.totals.result.restarts == c.totals-restarts.result.restarts)) c.executed_by-executed.result
    (same_restarts c.totals.result c.totals-restarts.result c.step.new.book.totals c.loop-taken.book.totals c.totals.ensures c.totals-restarts.ensures)
    (c.executed_by-executed.ensures.is ∙ ap (λ m. executed_by m c.in_ok-answer.answer) (sym (c.loop-taken.invariant.same.image ∙ c.requires.book.0))) (each_by c.be_late.new.clocks.items c.set_clock.new.clocks.items c.in-Some.turn.core c.answered-clock.result
    (answered c.in-Some.turn.at (not (c.totals.result.restarts == c.totals-restarts.result.restarts)) c.executed_by-executed.result c.in-Some.turn.price.spent c.in_ok-answer.answer (clock_at c.be_late.new.clocks.items c.in-Some.turn.core)) c.set_clock.ensures.each
    (c.answered-clock.ensures ∙ ap (answered c.in-Some.turn.at (not (c.totals.result.restarts == c.totals-restarts.result.restarts)) c.executed_by-executed.result c.in-Some.turn.price.spent c.in_ok-answer.answer) c.clock_of-clock.ensures)) c.in-Over.end c.in-Over.is) k ∙ ap (λ (f : ℕ → Clock). clocks_after (driver c.loop-taken.book c.loop-taken.shares) (driver c.step.new.book c.step.new.shares) f c.in-Some.turn (Over c.in-Over.end) k) (fun_ext c.be_late.ensures.each))
    (subst (λ n. c.account_of-account.result ≡ account_of n (clock_at c.set_clock.new.clocks.items) c.loop-taken.book.cores) c.over-steps.ensures (c.account_of-account.ensures.is ∙ ap (account_of c.over-steps.result (clock_at c.set_clock.new.clocks.items)) (c.set_clock.ensures.len ∙ (c.be_late.ensures.len ∙ c.loop-taken.invariant.sound.count)))) c.in_ok-answer.ensures.turned)

pub returns-in-Over-clause-driven : goal.returns-in-Over-clause-driven
returns-in-Over-clause-driven g c =
    is_driven g.S.EpochStore.makes g.S.EpochStore.view g.S.EpochStore.waits g.S.PricedStore.keeps (pacing_of g.S.PricedStore.prices c.args.terms.now) at_first (driver c.args.book.now c.args.shares.now) (driver c.step.new.book c.step.new.shares) c.push.new.self.items (Ok (Some (record { end = c.in-Over.end; steps = c.over-steps.result; account = c.account_of-account.result }))) (subst (λ n. Evenly g.S.EpochStore.makes g.S.EpochStore.view g.S.EpochStore.waits g.S.PricedStore.keeps (pacing_of g.S.PricedStore.prices c.args.terms.now) at_first (driver c.args.book.now c.args.shares.now) c.push.new.self.items (Ok (Some (record { end = c.in-Over.end; steps = n; account = c.account_of-account.result }))) (driver c.step.new.book c.step.new.shares)) (sym c.over-steps.ensures)
    (ends_over g.S.EpochStore.makes g.S.EpochStore.view g.S.EpochStore.waits g.S.PricedStore.keeps (pacing_of g.S.PricedStore.prices c.args.terms.now) at_first (record { held = harts_of c.loop-taken.held; clocks = clock_at c.loop-taken.clocks.items; free = c.loop-taken.free }) (driver c.args.book.now c.args.shares.now) (driver c.loop-taken.book c.loop-taken.shares) (driver c.step.new.book c.step.new.shares) c.loop-taken.schedule.items c.push.new.self.items c.in-Some.turn c.loop-taken.invariant.drives c.in-Some.ensures.next.0 (c.next_turn.ensures.settled, kept_by g.S.PricedStore.prices g.S.PricedStore.keeps c.loop-taken.book.store c.args.terms.now.costs c.next_turn.ensures.kept) c.in-Ok-push.ensures.items
    c.in_ok-answer.answer c.in-Over.end (clock_at c.set_clock.new.clocks.items) c.account_of-account.result c.in-Over.is
    (λ k. (last_are (driver c.loop-taken.book c.loop-taken.shares) (driver c.step.new.book c.step.new.shares) (clock_at c.be_late.new.clocks.items) (clock_at c.set_clock.new.clocks.items) c.in-Some.turn c.in_ok-answer.answer (not (c.totals.result.restarts == c.totals-restarts.result.restarts)) c.executed_by-executed.result
    (same_restarts c.totals.result c.totals-restarts.result c.step.new.book.totals c.loop-taken.book.totals c.totals.ensures c.totals-restarts.ensures)
    (c.executed_by-executed.ensures.is ∙ ap (λ m. executed_by m c.in_ok-answer.answer) (sym (c.loop-taken.invariant.same.image ∙ c.requires.book.0))) (each_by c.be_late.new.clocks.items c.set_clock.new.clocks.items c.in-Some.turn.core c.answered-clock.result
    (answered c.in-Some.turn.at (not (c.totals.result.restarts == c.totals-restarts.result.restarts)) c.executed_by-executed.result c.in-Some.turn.price.spent c.in_ok-answer.answer (clock_at c.be_late.new.clocks.items c.in-Some.turn.core)) c.set_clock.ensures.each
    (c.answered-clock.ensures ∙ ap (answered c.in-Some.turn.at (not (c.totals.result.restarts == c.totals-restarts.result.restarts)) c.executed_by-executed.result c.in-Some.turn.price.spent c.in_ok-answer.answer) c.clock_of-clock.ensures)) c.in-Over.end c.in-Over.is) k ∙ ap (λ (f : ℕ → Clock). clocks_after (driver c.loop-taken.book c.loop-taken.shares) (driver c.step.new.book c.step.new.shares) f c.in-Some.turn (Over c.in-Over.end) k) (fun_ext c.be_late.ensures.each))
    (subst (λ n. c.account_of-account.result ≡ account_of n (clock_at c.set_clock.new.clocks.items) c.loop-taken.book.cores) c.over-steps.ensures (c.account_of-account.ensures.is ∙ ap (account_of c.over-steps.result (clock_at c.set_clock.new.clocks.items)) (c.set_clock.ensures.len ∙ (c.be_late.ensures.len ∙ c.loop-taken.invariant.sound.count)))) c.in_ok-answer.ensures.turned))

pub returns-in-Over-clause-short : goal.returns-in-Over-clause-short
returns-in-Over-clause-short g c = (
  end_least c.loop-taken._taken c.loop-taken.book.cores c.loop-taken.free c.be_late.new.clocks.items c.in-Some.turn c.in-Some.ensures.next.1 (lates_sound c.loop-taken._taken c.loop-taken.book.cores c.loop-taken.free c.loop-taken.clocks.items c.loop-taken.invariant.sound (held_in (holding_of c.args.terms.now.holds) c.loop-taken.book (harts_of c.loop-taken.held)) (price_by g.S.PricedStore.prices g.S.EpochStore.waits c.args.terms.now.costs c.loop-taken.book (harts_of c.loop-taken.held)) c.in-Some.turn c.in-Some.ensures.next.0 (queues_of c.args.terms.now) c.be_late.new.clocks.items c.be_late.ensures.len c.be_late.ensures.each) (late_turn c.loop-taken.free (price_by g.S.PricedStore.prices g.S.EpochStore.waits c.args.terms.now.costs c.loop-taken.book (harts_of c.loop-taken.held)) (dues (held_in (holding_of c.args.terms.now.holds) c.loop-taken.book (harts_of c.loop-taken.held)) (clock_at c.loop-taken.clocks.items)) (queues_of c.args.terms.now) (clock_at c.loop-taken.clocks.items) (clock_at c.be_late.new.clocks.items) c.loop-taken.book.cores c.in-Some.turn c.in-Some.ensures.next.0 c.be_late.ensures.each) (not (c.totals.result.restarts == c.totals-restarts.result.restarts)) c.executed_by-executed.result c.in_ok-answer.answer c.executed_by-executed.ensures.few c.set_clock.new.clocks.items c.set_clock.ensures.len (each_by c.be_late.new.clocks.items c.set_clock.new.clocks.items c.in-Some.turn.core c.answered-clock.result
      (answered c.in-Some.turn.at (not (c.totals.result.restarts == c.totals-restarts.result.restarts)) c.executed_by-executed.result c.in-Some.turn.price.spent c.in_ok-answer.answer (clock_at c.be_late.new.clocks.items c.in-Some.turn.core)) c.set_clock.ensures.each
      (c.answered-clock.ensures ∙ ap (answered c.in-Some.turn.at (not (c.totals.result.restarts == c.totals-restarts.result.restarts)) c.executed_by-executed.result c.in-Some.turn.price.spent c.in_ok-answer.answer) c.clock_of-clock.ensures)) c.over-steps.result c.over-steps.ensures,
  omega (
    arith,
    end_most c.loop-taken._taken c.loop-taken.book.cores c.loop-taken.free c.be_late.new.clocks.items c.in-Some.turn c.in-Some.ensures.next.1 (lates_sound c.loop-taken._taken c.loop-taken.book.cores c.loop-taken.free c.loop-taken.clocks.items c.loop-taken.invariant.sound (held_in (holding_of c.args.terms.now.holds) c.loop-taken.book (harts_of c.loop-taken.held)) (price_by g.S.PricedStore.prices g.S.EpochStore.waits c.args.terms.now.costs c.loop-taken.book (harts_of c.loop-taken.held)) c.in-Some.turn c.in-Some.ensures.next.0 (queues_of c.args.terms.now) c.be_late.new.clocks.items c.be_late.ensures.len c.be_late.ensures.each) (late_turn c.loop-taken.free (price_by g.S.PricedStore.prices g.S.EpochStore.waits c.args.terms.now.costs c.loop-taken.book (harts_of c.loop-taken.held)) (dues (held_in (holding_of c.args.terms.now.holds) c.loop-taken.book (harts_of c.loop-taken.held)) (clock_at c.loop-taken.clocks.items)) (queues_of c.args.terms.now) (clock_at c.loop-taken.clocks.items) (clock_at c.be_late.new.clocks.items) c.loop-taken.book.cores c.in-Some.turn c.in-Some.ensures.next.0 c.be_late.ensures.each) (not (c.totals.result.restarts == c.totals-restarts.result.restarts)) c.executed_by-executed.result c.in_ok-answer.answer c.executed_by-executed.ensures.few c.set_clock.new.clocks.items c.set_clock.ensures.len (each_by c.be_late.new.clocks.items c.set_clock.new.clocks.items c.in-Some.turn.core c.answered-clock.result
        (answered c.in-Some.turn.at (not (c.totals.result.restarts == c.totals-restarts.result.restarts)) c.executed_by-executed.result c.in-Some.turn.price.spent c.in_ok-answer.answer (clock_at c.be_late.new.clocks.items c.in-Some.turn.core)) c.set_clock.ensures.each
        (c.answered-clock.ensures ∙ ap (answered c.in-Some.turn.at (not (c.totals.result.restarts == c.totals-restarts.result.restarts)) c.executed_by-executed.result c.in-Some.turn.price.spent c.in_ok-answer.answer) c.clock_of-clock.ensures)) c.over-steps.result c.over-steps.ensures,
    c.loop-taken-test.true,
  ),
)

pub returns-in-Over-clause-end : goal.returns-in-Over-clause-end
returns-in-Over-clause-end g c = in_order g.S.EpochStore.view c.step.new.book c.in-Over.end c.look-in-Over.ensures
    (c.step.ensures.over c.in-Over.end c.look-in-Over.ensures.state (c.in_ok-answer.was ∙ ap Ok c.in-Over.is) c.look-in-Over.ensures.replays)

pub returns-in-Over-clause-accounts : goal.returns-in-Over-clause-accounts
returns-in-Over-clause-accounts g c =
    let old = (driver c.loop-taken.book c.loop-taken.shares) in
    let mid = (driver c.step.new.book c.step.new.shares) in
    let pace : Pace = (record { held = harts_of c.loop-taken.held; clocks = clock_at c.be_late.new.clocks.items; free = at_turn c.loop-taken.free c.in-Some.turn }) in
    let turn = c.in-Some.turn in
    let end = c.in-Over.end in
    let clocks = clock_at c.set_clock.new.clocks.items in
    let account = c.account_of-account.result in
    let steps = c.over-steps.result in
    let first = (late_turn c.loop-taken.free (price_by g.S.PricedStore.prices g.S.EpochStore.waits c.args.terms.now.costs c.loop-taken.book (harts_of c.loop-taken.held)) (dues (held_in (holding_of c.args.terms.now.holds) c.loop-taken.book (harts_of c.loop-taken.held)) (clock_at c.loop-taken.clocks.items)) (queues_of c.args.terms.now) (clock_at c.loop-taken.clocks.items) (clock_at c.be_late.new.clocks.items) c.loop-taken.book.cores c.in-Some.turn c.in-Some.ensures.next.0 c.be_late.ensures.each) in
    let are = (last_are (driver c.loop-taken.book c.loop-taken.shares) (driver c.step.new.book c.step.new.shares) (clock_at c.be_late.new.clocks.items) (clock_at c.set_clock.new.clocks.items) c.in-Some.turn c.in_ok-answer.answer (not (c.totals.result.restarts == c.totals-restarts.result.restarts)) c.executed_by-executed.result
    (same_restarts c.totals.result c.totals-restarts.result c.step.new.book.totals c.loop-taken.book.totals c.totals.ensures c.totals-restarts.ensures)
    (c.executed_by-executed.ensures.is ∙ ap (λ m. executed_by m c.in_ok-answer.answer) (sym (c.loop-taken.invariant.same.image ∙ c.requires.book.0))) (each_by c.be_late.new.clocks.items c.set_clock.new.clocks.items c.in-Some.turn.core c.answered-clock.result
    (answered c.in-Some.turn.at (not (c.totals.result.restarts == c.totals-restarts.result.restarts)) c.executed_by-executed.result c.in-Some.turn.price.spent c.in_ok-answer.answer (clock_at c.be_late.new.clocks.items c.in-Some.turn.core)) c.set_clock.ensures.each
    (c.answered-clock.ensures ∙ ap (answered c.in-Some.turn.at (not (c.totals.result.restarts == c.totals-restarts.result.restarts)) c.executed_by-executed.result c.in-Some.turn.price.spent c.in_ok-answer.answer) c.clock_of-clock.ensures)) c.in-Over.end c.in-Over.is) in
    let sum = (c.account_of-account.ensures.is ∙ ap (account_of c.over-steps.result (clock_at c.set_clock.new.clocks.items)) (c.set_clock.ensures.len ∙ (c.be_late.ensures.len ∙ c.loop-taken.invariant.sound.count))) in
    let leads : Leads old mid turn.core (harts_of c.loop-taken.held turn.core) (Ok (Over end)) =
    subst (λ a. Leads old mid turn.core (harts_of c.loop-taken.held turn.core) (Ok a)) c.in-Over.is c.in_ok-answer.ensures.leads in
    let image = c.loop-taken.invariant.same.image in
    let only : c.args.book.now.cores ≡ 1 → c.loop-taken.book.cores ≡ 1 = λ one. c.loop-taken.invariant.same.cores ∙ one in
    let at_zero : c.args.book.now.cores ≡ 1 → turn.core ≡ 0 = λ one. the_first turn.core c.loop-taken.book.cores first.core (only one) in
    let restart = λ (one : c.args.book.now.cores ≡ 1).
    no_restart c.loop-taken.book.totals.restarts c.step.new.book.totals.restarts (c.loop-taken.invariant.alone (only one)).0 (c.step.ensures.alone (only one)).0 in
    let late = λ (one : c.args.book.now.cores ≡ 1). late_alone (HoldsBackNone (pacing_of g.S.PricedStore.prices c.args.terms.now)) c.loop-taken.free (price_by g.S.PricedStore.prices g.S.EpochStore.waits c.args.terms.now.costs c.loop-taken.book (harts_of c.loop-taken.held)) (queues_of c.args.terms.now) (held_in (holding_of c.args.terms.now.holds) c.loop-taken.book (harts_of c.loop-taken.held)) (clock_at c.loop-taken.clocks.items) (clock_at c.be_late.new.clocks.items) c.loop-taken.book.cores c.in-Some.turn
    (λ unheld none k. free_price g.S.PricedStore.prices g.S.EpochStore.waits c.loop-taken.book (harts_of c.loop-taken.held) k c.args.terms.now.costs (no_costs g.S.PricedStore.prices c.args.terms.now.costs (queues_of c.args.terms.now) unheld none)) (at_zero one) c.in-Some.ensures.next.0 c.be_late.ensures.each (c.loop-taken.invariant.alone (only one)).1 in
    let wastes : c.args.book.now.cores ≡ 1 → WastesNone account = λ one.
    over_none (HoldsBackNone (pacing_of g.S.PricedStore.prices c.args.terms.now)) old mid pace.clocks turn (at_zero one) (restart one) end steps clocks are account c.loop-taken.book.cores (only one) sum (late one) in
    let unheld : c.args.book.now.cores ≡ 1 → (HoldsBackNone (pacing_of g.S.PricedStore.prices c.args.terms.now)) → account.held ≡ 0 = λ one.
    over_unheld (HoldsBackNone (pacing_of g.S.PricedStore.prices c.args.terms.now)) old mid pace.clocks turn (at_zero one) (restart one) end steps clocks are account c.loop-taken.book.cores (only one) sum (late one) in record {
      alone = wastes;
      unheld = unheld;
      busy = λ fresh n done.
          busy_timed (is_none c.args.terms.now.costs) old mid pace turn c.step.ensures.same first (free_spent (price_by g.S.PricedStore.prices g.S.EpochStore.waits c.args.terms.now.costs c.loop-taken.book (harts_of c.loop-taken.held)) c.in-Some.turn c.args.terms.now.costs c.in-Some.ensures.next.0.price (free_price g.S.PricedStore.prices g.S.EpochStore.waits c.loop-taken.book (harts_of c.loop-taken.held) c.in-Some.turn.core c.args.terms.now.costs)) (late_timed (is_none c.args.terms.now.costs) c.loop-taken.book (record { held = harts_of c.loop-taken.held; clocks = clock_at c.loop-taken.clocks.items; free = c.loop-taken.free }) (queues_of c.args.terms.now) (clock_at c.be_late.new.clocks.items) c.in-Some.turn (was_due c.loop-taken._taken c.loop-taken.book.cores c.loop-taken.free c.loop-taken.clocks.items c.loop-taken.invariant.sound (held_in (holding_of c.args.terms.now.holds) c.loop-taken.book (harts_of c.loop-taken.held)) (price_by g.S.PricedStore.prices g.S.EpochStore.waits c.args.terms.now.costs c.loop-taken.book (harts_of c.loop-taken.held)) c.in-Some.turn c.in-Some.ensures.next.0) (due_before c.loop-taken._taken c.loop-taken.book.cores c.loop-taken.free c.loop-taken.clocks.items c.loop-taken.invariant.sound (held_in (holding_of c.args.terms.now.holds) c.loop-taken.book (harts_of c.loop-taken.held)) (price_by g.S.PricedStore.prices g.S.EpochStore.waits c.args.terms.now.costs c.loop-taken.book (harts_of c.loop-taken.held)) c.in-Some.turn c.in-Some.ensures.next.0) (no_queue c.args.terms.now.costs c.args.terms.now.queues) c.be_late.ensures.each c.in-Some.ensures.next.0.core (c.loop-taken.invariant.timed fresh)) end n steps clocks account leads done are sum ∙ ap (λ i. instructions_in_order i n) image;
      useful = λ none fresh n done.
          over_timed (is_none c.args.terms.now.costs) old mid pace turn c.step.ensures.same first (free_spent (price_by g.S.PricedStore.prices g.S.EpochStore.waits c.args.terms.now.costs c.loop-taken.book (harts_of c.loop-taken.held)) c.in-Some.turn c.args.terms.now.costs c.in-Some.ensures.next.0.price (free_price g.S.PricedStore.prices g.S.EpochStore.waits c.loop-taken.book (harts_of c.loop-taken.held) c.in-Some.turn.core c.args.terms.now.costs)) (late_timed (is_none c.args.terms.now.costs) c.loop-taken.book (record { held = harts_of c.loop-taken.held; clocks = clock_at c.loop-taken.clocks.items; free = c.loop-taken.free }) (queues_of c.args.terms.now) (clock_at c.be_late.new.clocks.items) c.in-Some.turn (was_due c.loop-taken._taken c.loop-taken.book.cores c.loop-taken.free c.loop-taken.clocks.items c.loop-taken.invariant.sound (held_in (holding_of c.args.terms.now.holds) c.loop-taken.book (harts_of c.loop-taken.held)) (price_by g.S.PricedStore.prices g.S.EpochStore.waits c.args.terms.now.costs c.loop-taken.book (harts_of c.loop-taken.held)) c.in-Some.turn c.in-Some.ensures.next.0) (due_before c.loop-taken._taken c.loop-taken.book.cores c.loop-taken.free c.loop-taken.clocks.items c.loop-taken.invariant.sound (held_in (holding_of c.args.terms.now.holds) c.loop-taken.book (harts_of c.loop-taken.held)) (price_by g.S.PricedStore.prices g.S.EpochStore.waits c.args.terms.now.costs c.loop-taken.book (harts_of c.loop-taken.held)) c.in-Some.turn c.in-Some.ensures.next.0) (no_queue c.args.terms.now.costs c.args.terms.now.queues) c.be_late.ensures.each c.in-Some.ensures.next.0.core (c.loop-taken.invariant.timed fresh)) end n steps clocks account leads done are sum (no_pricing g.S.PricedStore.prices c.args.terms.now.costs none) ∙ ap (λ i. steps_in_order i n) image;
      steps = λ none one fresh n done.
          let costless = no_pricing g.S.PricedStore.prices c.args.terms.now.costs none in
          let long = c.set_clock.ensures.len ∙ (c.be_late.ensures.len ∙ (c.loop-taken.invariant.sound.count ∙ only one)) in
          over_steps (is_none c.args.terms.now.costs) old mid pace turn c.step.ensures.same first (free_spent (price_by g.S.PricedStore.prices g.S.EpochStore.waits c.args.terms.now.costs c.loop-taken.book (harts_of c.loop-taken.held)) c.in-Some.turn c.args.terms.now.costs c.in-Some.ensures.next.0.price (free_price g.S.PricedStore.prices g.S.EpochStore.waits c.loop-taken.book (harts_of c.loop-taken.held) c.in-Some.turn.core c.args.terms.now.costs)) (late_timed (is_none c.args.terms.now.costs) c.loop-taken.book (record { held = harts_of c.loop-taken.held; clocks = clock_at c.loop-taken.clocks.items; free = c.loop-taken.free }) (queues_of c.args.terms.now) (clock_at c.be_late.new.clocks.items) c.in-Some.turn (was_due c.loop-taken._taken c.loop-taken.book.cores c.loop-taken.free c.loop-taken.clocks.items c.loop-taken.invariant.sound (held_in (holding_of c.args.terms.now.holds) c.loop-taken.book (harts_of c.loop-taken.held)) (price_by g.S.PricedStore.prices g.S.EpochStore.waits c.args.terms.now.costs c.loop-taken.book (harts_of c.loop-taken.held)) c.in-Some.turn c.in-Some.ensures.next.0) (due_before c.loop-taken._taken c.loop-taken.book.cores c.loop-taken.free c.loop-taken.clocks.items c.loop-taken.invariant.sound (held_in (holding_of c.args.terms.now.holds) c.loop-taken.book (harts_of c.loop-taken.held)) (price_by g.S.PricedStore.prices g.S.EpochStore.waits c.args.terms.now.costs c.loop-taken.book (harts_of c.loop-taken.held)) c.in-Some.turn c.in-Some.ensures.next.0) (no_queue c.args.terms.now.costs c.args.terms.now.queues) c.be_late.ensures.each c.in-Some.ensures.next.0.core (c.loop-taken.invariant.timed fresh)) end n steps clocks account leads done are sum costless
          (c.over-steps.ensures ∙ over_calm c.loop-taken.free turn (c.loop-taken.invariant.calm costless) (passes c.loop-taken._taken c.loop-taken.book.cores c.loop-taken.free c.loop-taken.clocks.items c.loop-taken.invariant.sound (held_in (holding_of c.args.terms.now.holds) c.loop-taken.book (harts_of c.loop-taken.held)) (price_by g.S.PricedStore.prices g.S.EpochStore.waits c.args.terms.now.costs c.loop-taken.book (harts_of c.loop-taken.held)) c.in-Some.turn c.in-Some.ensures.next.0)) (at_zero one) (only one)
          (late_never_idle (is_none c.args.terms.now.costs) c.loop-taken.book.image c.loop-taken.book.cores (c.loop-taken.invariant.timed fresh).0 (record { held = harts_of c.loop-taken.held; clocks = clock_at c.loop-taken.clocks.items; free = c.loop-taken.free }) (queues_of c.args.terms.now) (clock_at c.be_late.new.clocks.items) turn (was_due c.loop-taken._taken c.loop-taken.book.cores c.loop-taken.free c.loop-taken.clocks.items c.loop-taken.invariant.sound (held_in (holding_of c.args.terms.now.holds) c.loop-taken.book (harts_of c.loop-taken.held)) (price_by g.S.PricedStore.prices g.S.EpochStore.waits c.args.terms.now.costs c.loop-taken.book (harts_of c.loop-taken.held)) c.in-Some.turn c.in-Some.ensures.next.0) (due_before c.loop-taken._taken c.loop-taken.book.cores c.loop-taken.free c.loop-taken.clocks.items c.loop-taken.invariant.sound (held_in (holding_of c.args.terms.now.holds) c.loop-taken.book (harts_of c.loop-taken.held)) (price_by g.S.PricedStore.prices g.S.EpochStore.waits c.args.terms.now.costs c.loop-taken.book (harts_of c.loop-taken.held)) c.in-Some.turn c.in-Some.ensures.next.0) (no_queue c.args.terms.now.costs c.args.terms.now.queues)
          c.be_late.ensures.each ((no_queue c.args.terms.now.costs c.args.terms.now.queues) costless) (c.loop-taken.invariant.busy costless fresh (only one))) (wastes one) (unheld one (inr none))
          (c.account_of-account.ensures.whole ∙ ap (λ k. k * steps) long) ∙ ap (λ i. steps_in_order i (suc n)) image;
    }

pub returns-in-Stopped-clause-evenly : goal.returns-in-Stopped-clause-evenly
returns-in-Stopped-clause-evenly g c = ends_stopped g.S.EpochStore.makes g.S.EpochStore.view g.S.EpochStore.waits g.S.PricedStore.keeps (pacing_of g.S.PricedStore.prices c.args.terms.now) at_first (record { held = harts_of c.loop-taken.held; clocks = clock_at c.loop-taken.clocks.items; free = c.loop-taken.free }) (driver c.args.book.now c.args.shares.now) (driver c.loop-taken.book c.loop-taken.shares) (driver c.step.new.book c.step.new.shares) c.loop-taken.schedule.items c.push.new.self.items c.in-Some.turn c.loop-taken.invariant.drives c.in-Some.ensures.next.0 (c.next_turn.ensures.settled, kept_by g.S.PricedStore.prices g.S.PricedStore.keeps c.loop-taken.book.store c.args.terms.now.costs c.next_turn.ensures.kept) c.in-Ok-push.ensures.items
    c.in_ok-answer.answer c.in-Stopped.field-0 c.in-Stopped.is c.in_ok-answer.ensures.turned

pub returns-in-Stopped-clause-driven : goal.returns-in-Stopped-clause-driven
returns-in-Stopped-clause-driven g c = is_driven g.S.EpochStore.makes g.S.EpochStore.view g.S.EpochStore.waits g.S.PricedStore.keeps (pacing_of g.S.PricedStore.prices c.args.terms.now) at_first (driver c.args.book.now c.args.shares.now) (driver c.step.new.book c.step.new.shares) c.push.new.self.items (Ok None) (ends_stopped g.S.EpochStore.makes g.S.EpochStore.view g.S.EpochStore.waits g.S.PricedStore.keeps (pacing_of g.S.PricedStore.prices c.args.terms.now) at_first (record { held = harts_of c.loop-taken.held; clocks = clock_at c.loop-taken.clocks.items; free = c.loop-taken.free }) (driver c.args.book.now c.args.shares.now) (driver c.loop-taken.book c.loop-taken.shares) (driver c.step.new.book c.step.new.shares) c.loop-taken.schedule.items c.push.new.self.items c.in-Some.turn c.loop-taken.invariant.drives c.in-Some.ensures.next.0 (c.next_turn.ensures.settled, kept_by g.S.PricedStore.prices g.S.PricedStore.keeps c.loop-taken.book.store c.args.terms.now.costs c.next_turn.ensures.kept) c.in-Ok-push.ensures.items
    c.in_ok-answer.answer c.in-Stopped.field-0 c.in-Stopped.is c.in_ok-answer.ensures.turned)

pub wake_all-requires-clause-at : goal.wake_all-requires-clause-at
wake_all-requires-clause-at g c = omega (arith, begins_by c.loop-taken._taken c.loop-taken.book.cores c.loop-taken.free c.loop-taken.clocks.items c.loop-taken.invariant.sound (held_in (holding_of c.args.terms.now.holds) c.loop-taken.book (harts_of c.loop-taken.held)) (price_by g.S.PricedStore.prices g.S.EpochStore.waits c.args.terms.now.costs c.loop-taken.book (harts_of c.loop-taken.held)) c.in-Some.turn c.in-Some.ensures.next.0, c.loop-taken-test.true)

pub wake_all-requires-clause-may : goal.wake_all-requires-clause-may
wake_all-requires-clause-may g c = may_wake_all c.loop-taken._taken c.loop-taken.book.cores c.loop-taken.free c.be_late.new.clocks.items c.in-Some.turn c.in-Some.ensures.next.1 (lates_sound c.loop-taken._taken c.loop-taken.book.cores c.loop-taken.free c.loop-taken.clocks.items c.loop-taken.invariant.sound (held_in (holding_of c.args.terms.now.holds) c.loop-taken.book (harts_of c.loop-taken.held)) (price_by g.S.PricedStore.prices g.S.EpochStore.waits c.args.terms.now.costs c.loop-taken.book (harts_of c.loop-taken.held)) c.in-Some.turn c.in-Some.ensures.next.0 (queues_of c.args.terms.now) c.be_late.new.clocks.items c.be_late.ensures.len c.be_late.ensures.each) (late_turn c.loop-taken.free (price_by g.S.PricedStore.prices g.S.EpochStore.waits c.args.terms.now.costs c.loop-taken.book (harts_of c.loop-taken.held)) (dues (held_in (holding_of c.args.terms.now.holds) c.loop-taken.book (harts_of c.loop-taken.held)) (clock_at c.loop-taken.clocks.items)) (queues_of c.args.terms.now) (clock_at c.loop-taken.clocks.items) (clock_at c.be_late.new.clocks.items) c.loop-taken.book.cores c.in-Some.turn c.in-Some.ensures.next.0 c.be_late.ensures.each) (not (c.totals.result.restarts == c.totals-restarts.result.restarts)) c.executed_by-executed.result c.in_ok-answer.answer c.executed_by-executed.ensures.few c.set_clock.new.clocks.items c.set_clock.ensures.len (each_by c.be_late.new.clocks.items c.set_clock.new.clocks.items c.in-Some.turn.core c.answered-clock.result
    (answered c.in-Some.turn.at (not (c.totals.result.restarts == c.totals-restarts.result.restarts)) c.executed_by-executed.result c.in-Some.turn.price.spent c.in_ok-answer.answer (clock_at c.be_late.new.clocks.items c.in-Some.turn.core)) c.set_clock.ensures.each
    (c.answered-clock.ensures ∙ ap (answered c.in-Some.turn.at (not (c.totals.result.restarts == c.totals-restarts.result.restarts)) c.executed_by-executed.result c.in-Some.turn.price.spent c.in_ok-answer.answer) c.clock_of-clock.ensures)) (omega (arith, c.loop-taken-test.true))

-- what a turn leaves that doesn't end the run
record GoesOn {S : Type 0} (old mid : Driver S) (before : ℕ → Clock) (t : Turn) (answer : Answer) (sound : List Clock → Type 0) (clocks : List Clock) : Type 0 where
  are : (k : ℕ) → clock_at clocks k ≡ clocks_after old mid before t answer k
  going : (end : End) → answer ≢ Over end
  unstopped : (cause : StopCause) → answer ≢ Stopped cause
  sounds : sound clocks

pub loop-taken-preserved : goal.loop-taken-preserved
loop-taken-preserved g c =
    let same = c.step.ensures.same in
    let before = c.loop-taken.invariant.same in
    let sounds = AreSound (c.loop-taken._taken + 1) c.loop-taken.book.cores (free_after c.loop-taken.free c.in-Some.turn.at c.in-Some.turn.price c.in_ok-answer.answer) in
    let free : c.after-free.result ≡ free_after c.loop-taken.free c.in-Some.turn.at c.in-Some.turn.price c.in_ok-answer.answer = c.after-free.ensures in
    let waits : (k : ℕ) → k < c.loop-taken.book.cores → IsWaitBefore c.in-Some.turn.at (cond (k == c.in-Some.turn.core)
    (answered c.in-Some.turn.at (restarts (driver c.loop-taken.book c.loop-taken.shares) (driver c.step.new.book c.step.new.shares)) (executed_by c.loop-taken.book.image c.in_ok-answer.answer) c.in-Some.turn.price.spent c.in_ok-answer.answer (clock_at c.be_late.new.clocks.items k))
    (clock_at c.be_late.new.clocks.items k)).next =
    λ k below. subst (λ (x : Clock). IsWaitBefore c.in-Some.turn.at x.next) (turned_are (driver c.loop-taken.book c.loop-taken.shares) (driver c.step.new.book c.step.new.shares) (clock_at c.be_late.new.clocks.items) (clock_at c.set_clock.new.clocks.items) c.in-Some.turn c.in_ok-answer.answer (not (c.totals.result.restarts == c.totals-restarts.result.restarts)) c.executed_by-executed.result
    (same_restarts c.totals.result c.totals-restarts.result c.step.new.book.totals c.loop-taken.book.totals c.totals.ensures c.totals-restarts.ensures)
    (c.executed_by-executed.ensures.is ∙ ap (λ m. executed_by m c.in_ok-answer.answer) (sym (c.loop-taken.invariant.same.image ∙ c.requires.book.0))) (each_by c.be_late.new.clocks.items c.set_clock.new.clocks.items c.in-Some.turn.core c.answered-clock.result
    (answered c.in-Some.turn.at (not (c.totals.result.restarts == c.totals-restarts.result.restarts)) c.executed_by-executed.result c.in-Some.turn.price.spent c.in_ok-answer.answer (clock_at c.be_late.new.clocks.items c.in-Some.turn.core)) c.set_clock.ensures.each
    (c.answered-clock.ensures ∙ ap (answered c.in-Some.turn.at (not (c.totals.result.restarts == c.totals-restarts.result.restarts)) c.executed_by-executed.result c.in-Some.turn.price.spent c.in_ok-answer.answer) c.clock_of-clock.ensures)) k)
    (may_wake_all c.loop-taken._taken c.loop-taken.book.cores c.loop-taken.free c.be_late.new.clocks.items c.in-Some.turn c.in-Some.ensures.next.1 (lates_sound c.loop-taken._taken c.loop-taken.book.cores c.loop-taken.free c.loop-taken.clocks.items c.loop-taken.invariant.sound (held_in (holding_of c.args.terms.now.holds) c.loop-taken.book (harts_of c.loop-taken.held)) (price_by g.S.PricedStore.prices g.S.EpochStore.waits c.args.terms.now.costs c.loop-taken.book (harts_of c.loop-taken.held)) c.in-Some.turn c.in-Some.ensures.next.0 (queues_of c.args.terms.now) c.be_late.new.clocks.items c.be_late.ensures.len c.be_late.ensures.each) (late_turn c.loop-taken.free (price_by g.S.PricedStore.prices g.S.EpochStore.waits c.args.terms.now.costs c.loop-taken.book (harts_of c.loop-taken.held)) (dues (held_in (holding_of c.args.terms.now.holds) c.loop-taken.book (harts_of c.loop-taken.held)) (clock_at c.loop-taken.clocks.items)) (queues_of c.args.terms.now) (clock_at c.loop-taken.clocks.items) (clock_at c.be_late.new.clocks.items) c.loop-taken.book.cores c.in-Some.turn c.in-Some.ensures.next.0 c.be_late.ensures.each) (not (c.totals.result.restarts == c.totals-restarts.result.restarts)) c.executed_by-executed.result c.in_ok-answer.answer c.executed_by-executed.ensures.few c.set_clock.new.clocks.items c.set_clock.ensures.len (each_by c.be_late.new.clocks.items c.set_clock.new.clocks.items c.in-Some.turn.core c.answered-clock.result
    (answered c.in-Some.turn.at (not (c.totals.result.restarts == c.totals-restarts.result.restarts)) c.executed_by-executed.result c.in-Some.turn.price.spent c.in_ok-answer.answer (clock_at c.be_late.new.clocks.items c.in-Some.turn.core)) c.set_clock.ensures.each
    (c.answered-clock.ensures ∙ ap (answered c.in-Some.turn.at (not (c.totals.result.restarts == c.totals-restarts.result.restarts)) c.executed_by-executed.result c.in-Some.turn.price.spent c.in_ok-answer.answer) c.clock_of-clock.ensures)) (omega (arith, c.loop-taken-test.true)) k (subst (λ n. k < n) (sym (c.set_clock.ensures.len ∙ (c.be_late.ensures.len ∙ c.loop-taken.invariant.sound.count))) below)).before in
    let on : GoesOn (driver c.loop-taken.book c.loop-taken.shares) (driver c.step.new.book c.step.new.shares) (clock_at c.be_late.new.clocks.items) c.in-Some.turn c.in_ok-answer.answer sounds c.match-answer.clocks.items = elim c.match-answer.branch [
      | in-Again w ↦ subst (λ (clocks : List Clock). GoesOn (driver c.loop-taken.book c.loop-taken.shares) (driver c.step.new.book c.step.new.shares) (clock_at c.be_late.new.clocks.items) c.in-Some.turn c.in_ok-answer.answer sounds clocks) (sym (ap (λ v. v.items) w.clocks-is)) (record {
        are = waits_are (driver c.loop-taken.book c.loop-taken.shares) (driver c.step.new.book c.step.new.shares) (clock_at c.be_late.new.clocks.items) (clock_at c.set_clock.new.clocks.items) c.in-Some.turn c.in_ok-answer.answer (not (c.totals.result.restarts == c.totals-restarts.result.restarts)) c.executed_by-executed.result
            (same_restarts c.totals.result c.totals-restarts.result c.step.new.book.totals c.loop-taken.book.totals c.totals.ensures c.totals-restarts.ensures)
            (c.executed_by-executed.ensures.is ∙ ap (λ m. executed_by m c.in_ok-answer.answer) (sym (c.loop-taken.invariant.same.image ∙ c.requires.book.0))) (each_by c.be_late.new.clocks.items c.set_clock.new.clocks.items c.in-Some.turn.core c.answered-clock.result
            (answered c.in-Some.turn.at (not (c.totals.result.restarts == c.totals-restarts.result.restarts)) c.executed_by-executed.result c.in-Some.turn.price.spent c.in_ok-answer.answer (clock_at c.be_late.new.clocks.items c.in-Some.turn.core)) c.set_clock.ensures.each
            (c.answered-clock.ensures ∙ ap (answered c.in-Some.turn.at (not (c.totals.result.restarts == c.totals-restarts.result.restarts)) c.executed_by-executed.result c.in-Some.turn.price.spent c.in_ok-answer.answer) c.clock_of-clock.ensures)) w.in-Again.field-0 w.in-Again.is;
        going = λ end over. again_not_over c.in_ok-answer.answer w.in-Again.field-0 end w.in-Again.is over;
        unstopped = λ cause stopped. again_not_stopped c.in_ok-answer.answer w.in-Again.field-0 cause w.in-Again.is stopped;
        sounds = turned_sound c.loop-taken._taken c.loop-taken.book.cores c.loop-taken.free c.be_late.new.clocks.items c.in-Some.turn c.in-Some.ensures.next.1 (lates_sound c.loop-taken._taken c.loop-taken.book.cores c.loop-taken.free c.loop-taken.clocks.items c.loop-taken.invariant.sound (held_in (holding_of c.args.terms.now.holds) c.loop-taken.book (harts_of c.loop-taken.held)) (price_by g.S.PricedStore.prices g.S.EpochStore.waits c.args.terms.now.costs c.loop-taken.book (harts_of c.loop-taken.held)) c.in-Some.turn c.in-Some.ensures.next.0 (queues_of c.args.terms.now) c.be_late.new.clocks.items c.be_late.ensures.len c.be_late.ensures.each) (late_turn c.loop-taken.free (price_by g.S.PricedStore.prices g.S.EpochStore.waits c.args.terms.now.costs c.loop-taken.book (harts_of c.loop-taken.held)) (dues (held_in (holding_of c.args.terms.now.holds) c.loop-taken.book (harts_of c.loop-taken.held)) (clock_at c.loop-taken.clocks.items)) (queues_of c.args.terms.now) (clock_at c.loop-taken.clocks.items) (clock_at c.be_late.new.clocks.items) c.loop-taken.book.cores c.in-Some.turn c.in-Some.ensures.next.0 c.be_late.ensures.each) (not (c.totals.result.restarts == c.totals-restarts.result.restarts)) c.executed_by-executed.result c.in_ok-answer.answer c.executed_by-executed.ensures.few c.set_clock.new.clocks.items c.set_clock.ensures.len (each_by c.be_late.new.clocks.items c.set_clock.new.clocks.items c.in-Some.turn.core c.answered-clock.result
            (answered c.in-Some.turn.at (not (c.totals.result.restarts == c.totals-restarts.result.restarts)) c.executed_by-executed.result c.in-Some.turn.price.spent c.in_ok-answer.answer (clock_at c.be_late.new.clocks.items c.in-Some.turn.core)) c.set_clock.ensures.each
            (c.answered-clock.ensures ∙ ap (answered c.in-Some.turn.at (not (c.totals.result.restarts == c.totals-restarts.result.restarts)) c.executed_by-executed.result c.in-Some.turn.price.spent c.in_ok-answer.answer) c.clock_of-clock.ensures));
      })
      | in_default-answer w ↦ subst (λ (clocks : List Clock). GoesOn (driver c.loop-taken.book c.loop-taken.shares) (driver c.step.new.book c.step.new.shares) (clock_at c.be_late.new.clocks.items) c.in-Some.turn c.in_ok-answer.answer sounds clocks) (sym (ap (λ v. v.items) w.clocks-is)) (record {
        are = woken_are (driver c.loop-taken.book c.loop-taken.shares) (driver c.step.new.book c.step.new.shares) (clock_at c.be_late.new.clocks.items) (clock_at c.set_clock.new.clocks.items) c.in-Some.turn c.in_ok-answer.answer (not (c.totals.result.restarts == c.totals-restarts.result.restarts)) c.executed_by-executed.result
            (same_restarts c.totals.result c.totals-restarts.result c.step.new.book.totals c.loop-taken.book.totals c.totals.ensures c.totals-restarts.ensures)
            (c.executed_by-executed.ensures.is ∙ ap (λ m. executed_by m c.in_ok-answer.answer) (sym (c.loop-taken.invariant.same.image ∙ c.requires.book.0))) (each_by c.be_late.new.clocks.items c.set_clock.new.clocks.items c.in-Some.turn.core c.answered-clock.result
            (answered c.in-Some.turn.at (not (c.totals.result.restarts == c.totals-restarts.result.restarts)) c.executed_by-executed.result c.in-Some.turn.price.spent c.in_ok-answer.answer (clock_at c.be_late.new.clocks.items c.in-Some.turn.core)) c.set_clock.ensures.each
            (c.answered-clock.ensures ∙ ap (answered c.in-Some.turn.at (not (c.totals.result.restarts == c.totals-restarts.result.restarts)) c.executed_by-executed.result c.in-Some.turn.price.spent c.in_ok-answer.answer) c.clock_of-clock.ensures)) (clock_at w.wake_all.new.clocks.items) w.in_default-answer.not-Again w.in_default-answer.not-Over w.in_default-answer.not-Stopped w.wake_all.ensures.each;
        going = w.in_default-answer.not-Over;
        unstopped = w.in_default-answer.not-Stopped;
        sounds = woken_all c.loop-taken._taken c.loop-taken.book.cores c.loop-taken.free c.be_late.new.clocks.items c.in-Some.turn c.in-Some.ensures.next.1 (lates_sound c.loop-taken._taken c.loop-taken.book.cores c.loop-taken.free c.loop-taken.clocks.items c.loop-taken.invariant.sound (held_in (holding_of c.args.terms.now.holds) c.loop-taken.book (harts_of c.loop-taken.held)) (price_by g.S.PricedStore.prices g.S.EpochStore.waits c.args.terms.now.costs c.loop-taken.book (harts_of c.loop-taken.held)) c.in-Some.turn c.in-Some.ensures.next.0 (queues_of c.args.terms.now) c.be_late.new.clocks.items c.be_late.ensures.len c.be_late.ensures.each) (late_turn c.loop-taken.free (price_by g.S.PricedStore.prices g.S.EpochStore.waits c.args.terms.now.costs c.loop-taken.book (harts_of c.loop-taken.held)) (dues (held_in (holding_of c.args.terms.now.holds) c.loop-taken.book (harts_of c.loop-taken.held)) (clock_at c.loop-taken.clocks.items)) (queues_of c.args.terms.now) (clock_at c.loop-taken.clocks.items) (clock_at c.be_late.new.clocks.items) c.loop-taken.book.cores c.in-Some.turn c.in-Some.ensures.next.0 c.be_late.ensures.each) (not (c.totals.result.restarts == c.totals-restarts.result.restarts)) c.executed_by-executed.result c.in_ok-answer.answer c.executed_by-executed.ensures.few c.set_clock.new.clocks.items c.set_clock.ensures.len (each_by c.be_late.new.clocks.items c.set_clock.new.clocks.items c.in-Some.turn.core c.answered-clock.result
            (answered c.in-Some.turn.at (not (c.totals.result.restarts == c.totals-restarts.result.restarts)) c.executed_by-executed.result c.in-Some.turn.price.spent c.in_ok-answer.answer (clock_at c.be_late.new.clocks.items c.in-Some.turn.core)) c.set_clock.ensures.each
            (c.answered-clock.ensures ∙ ap (answered c.in-Some.turn.at (not (c.totals.result.restarts == c.totals-restarts.result.restarts)) c.executed_by-executed.result c.in-Some.turn.price.spent c.in_ok-answer.answer) c.clock_of-clock.ensures)) w.wake_all.new.clocks.items w.wake_all.ensures.len w.wake_all.ensures.each;
      })
    ] in
    let next : Pace = record { held = harts_of c.step.new.held; clocks = clock_at c.match-answer.clocks.items; free = c.after-free.result } in record {
      same = record { image = same.image ∙ before.image; cores = same.cores ∙ before.cores; room = same.room ∙ before.room };
      held = c.step.ensures.held;
      shares = c.step.ensures.shares;
      sound = subst (λ n. AreSound (c.loop-taken._taken + 1) n c.after-free.result c.match-answer.clocks.items) (sym same.cores)
          (subst (λ f. AreSound (c.loop-taken._taken + 1) c.loop-taken.book.cores f c.match-answer.clocks.items) (sym free) on.sounds);
      calm = λ none. subst (λ f. f.order ≤ f.began) (sym free) (order_calm c.loop-taken.free c.in-Some.turn c.in_ok-answer.answer ((free_spent (price_by g.S.PricedStore.prices g.S.EpochStore.waits c.args.terms.now.costs c.loop-taken.book (harts_of c.loop-taken.held)) c.in-Some.turn c.args.terms.now.costs c.in-Some.ensures.next.0.price (free_price g.S.PricedStore.prices g.S.EpochStore.waits c.loop-taken.book (harts_of c.loop-taken.held) c.in-Some.turn.core c.args.terms.now.costs)) none) (c.loop-taken.invariant.calm none) (passes c.loop-taken._taken c.loop-taken.book.cores c.loop-taken.free c.loop-taken.clocks.items c.loop-taken.invariant.sound (held_in (holding_of c.args.terms.now.holds) c.loop-taken.book (harts_of c.loop-taken.held)) (price_by g.S.PricedStore.prices g.S.EpochStore.waits c.args.terms.now.costs c.loop-taken.book (harts_of c.loop-taken.held)) c.in-Some.turn c.in-Some.ensures.next.0));
      drives = goes_on g.S.EpochStore.makes g.S.EpochStore.view g.S.EpochStore.waits g.S.PricedStore.keeps (pacing_of g.S.PricedStore.prices c.args.terms.now) at_first (record { held = harts_of c.loop-taken.held; clocks = clock_at c.loop-taken.clocks.items; free = c.loop-taken.free }) (driver c.args.book.now c.args.shares.now) (driver c.loop-taken.book c.loop-taken.shares) (driver c.step.new.book c.step.new.shares) c.loop-taken.schedule.items c.push.new.self.items c.in-Some.turn c.loop-taken.invariant.drives c.in-Some.ensures.next.0 (c.next_turn.ensures.settled, kept_by g.S.PricedStore.prices g.S.PricedStore.keeps c.loop-taken.book.store c.args.terms.now.costs c.next_turn.ensures.kept) c.in-Ok-push.ensures.items
          c.in_ok-answer.answer next on.going on.unstopped c.in_ok-answer.ensures.harts
          (λ k. (on.are) k ∙ ap (λ (f : ℕ → Clock). clocks_after (driver c.loop-taken.book c.loop-taken.shares) (driver c.step.new.book c.step.new.shares) f c.in-Some.turn c.in_ok-answer.answer k) (fun_ext c.be_late.ensures.each)) free c.in_ok-answer.ensures.turned;
      timed = λ fresh. timed_on (is_none c.args.terms.now.costs) (driver c.loop-taken.book c.loop-taken.shares) (driver c.step.new.book c.step.new.shares) (record { held = harts_of c.loop-taken.held; clocks = clock_at c.be_late.new.clocks.items; free = at_turn c.loop-taken.free c.in-Some.turn }) c.in-Some.turn same (late_turn c.loop-taken.free (price_by g.S.PricedStore.prices g.S.EpochStore.waits c.args.terms.now.costs c.loop-taken.book (harts_of c.loop-taken.held)) (dues (held_in (holding_of c.args.terms.now.holds) c.loop-taken.book (harts_of c.loop-taken.held)) (clock_at c.loop-taken.clocks.items)) (queues_of c.args.terms.now) (clock_at c.loop-taken.clocks.items) (clock_at c.be_late.new.clocks.items) c.loop-taken.book.cores c.in-Some.turn c.in-Some.ensures.next.0 c.be_late.ensures.each) (free_spent (price_by g.S.PricedStore.prices g.S.EpochStore.waits c.args.terms.now.costs c.loop-taken.book (harts_of c.loop-taken.held)) c.in-Some.turn c.args.terms.now.costs c.in-Some.ensures.next.0.price (free_price g.S.PricedStore.prices g.S.EpochStore.waits c.loop-taken.book (harts_of c.loop-taken.held) c.in-Some.turn.core c.args.terms.now.costs)) (late_timed (is_none c.args.terms.now.costs) c.loop-taken.book (record { held = harts_of c.loop-taken.held; clocks = clock_at c.loop-taken.clocks.items; free = c.loop-taken.free }) (queues_of c.args.terms.now) (clock_at c.be_late.new.clocks.items) c.in-Some.turn (was_due c.loop-taken._taken c.loop-taken.book.cores c.loop-taken.free c.loop-taken.clocks.items c.loop-taken.invariant.sound (held_in (holding_of c.args.terms.now.holds) c.loop-taken.book (harts_of c.loop-taken.held)) (price_by g.S.PricedStore.prices g.S.EpochStore.waits c.args.terms.now.costs c.loop-taken.book (harts_of c.loop-taken.held)) c.in-Some.turn c.in-Some.ensures.next.0) (due_before c.loop-taken._taken c.loop-taken.book.cores c.loop-taken.free c.loop-taken.clocks.items c.loop-taken.invariant.sound (held_in (holding_of c.args.terms.now.holds) c.loop-taken.book (harts_of c.loop-taken.held)) (price_by g.S.PricedStore.prices g.S.EpochStore.waits c.args.terms.now.costs c.loop-taken.book (harts_of c.loop-taken.held)) c.in-Some.turn c.in-Some.ensures.next.0) (no_queue c.args.terms.now.costs c.args.terms.now.queues) c.be_late.ensures.each c.in-Some.ensures.next.0.core (c.loop-taken.invariant.timed fresh)) c.in_ok-answer.answer next c.in_ok-answer.ensures.leads on.going on.unstopped
          c.in_ok-answer.ensures.harts on.are free waits;
      lasting = λ fresh. let timed = (late_timed (is_none c.args.terms.now.costs) c.loop-taken.book (record { held = harts_of c.loop-taken.held; clocks = clock_at c.loop-taken.clocks.items; free = c.loop-taken.free }) (queues_of c.args.terms.now) (clock_at c.be_late.new.clocks.items) c.in-Some.turn (was_due c.loop-taken._taken c.loop-taken.book.cores c.loop-taken.free c.loop-taken.clocks.items c.loop-taken.invariant.sound (held_in (holding_of c.args.terms.now.holds) c.loop-taken.book (harts_of c.loop-taken.held)) (price_by g.S.PricedStore.prices g.S.EpochStore.waits c.args.terms.now.costs c.loop-taken.book (harts_of c.loop-taken.held)) c.in-Some.turn c.in-Some.ensures.next.0) (due_before c.loop-taken._taken c.loop-taken.book.cores c.loop-taken.free c.loop-taken.clocks.items c.loop-taken.invariant.sound (held_in (holding_of c.args.terms.now.holds) c.loop-taken.book (harts_of c.loop-taken.held)) (price_by g.S.PricedStore.prices g.S.EpochStore.waits c.args.terms.now.costs c.loop-taken.book (harts_of c.loop-taken.held)) c.in-Some.turn c.in-Some.ensures.next.0) (no_queue c.args.terms.now.costs c.args.terms.now.queues) c.be_late.ensures.each c.in-Some.ensures.next.0.core (c.loop-taken.invariant.timed fresh)) in
          lasts_on (is_none c.args.terms.now.costs) (driver c.loop-taken.book c.loop-taken.shares) (driver c.step.new.book c.step.new.shares) (record { held = harts_of c.loop-taken.held; clocks = clock_at c.be_late.new.clocks.items; free = at_turn c.loop-taken.free c.in-Some.turn }) c.in-Some.turn same (late_turn c.loop-taken.free (price_by g.S.PricedStore.prices g.S.EpochStore.waits c.args.terms.now.costs c.loop-taken.book (harts_of c.loop-taken.held)) (dues (held_in (holding_of c.args.terms.now.holds) c.loop-taken.book (harts_of c.loop-taken.held)) (clock_at c.loop-taken.clocks.items)) (queues_of c.args.terms.now) (clock_at c.loop-taken.clocks.items) (clock_at c.be_late.new.clocks.items) c.loop-taken.book.cores c.in-Some.turn c.in-Some.ensures.next.0 c.be_late.ensures.each) c.loop-taken.invariant.sound.few
          c.in_ok-answer.answer (clock_at c.match-answer.clocks.items) c.loop-taken._taken timed.0 c.in_ok-answer.ensures.leads on.going on.unstopped on.are timed.1 timed.2
          (late_lasts c.loop-taken.book (queues_of c.args.terms.now) (clock_at c.loop-taken.clocks.items) (clock_at c.be_late.new.clocks.items) c.loop-taken._taken c.in-Some.turn (was_due c.loop-taken._taken c.loop-taken.book.cores c.loop-taken.free c.loop-taken.clocks.items c.loop-taken.invariant.sound (held_in (holding_of c.args.terms.now.holds) c.loop-taken.book (harts_of c.loop-taken.held)) (price_by g.S.PricedStore.prices g.S.EpochStore.waits c.args.terms.now.costs c.loop-taken.book (harts_of c.loop-taken.held)) c.in-Some.turn c.in-Some.ensures.next.0) c.be_late.ensures.each
          (c.loop-taken.invariant.lasting fresh));
      seats = c.note_from-in-loop-taken.ensures;
      count = c.keep_from-in-loop-taken.ensures.cores ∙ (c.loop-taken.invariant.count ∙ sym same.cores);
      owns = c.in-Ok-keep_from-2.ensures.owns;
      few = c.step.ensures.leads.few;
      stopped = c.step.ensures.leads.stopped ∙ c.loop-taken.invariant.stopped;
      busy = λ costless fresh one. let was = sym same.cores ∙ one in
          busy_on (is_none c.args.terms.now.costs) (driver c.loop-taken.book c.loop-taken.shares) (driver c.step.new.book c.step.new.shares) (record { held = harts_of c.loop-taken.held; clocks = clock_at c.be_late.new.clocks.items; free = at_turn c.loop-taken.free c.in-Some.turn }) c.in-Some.turn same (late_turn c.loop-taken.free (price_by g.S.PricedStore.prices g.S.EpochStore.waits c.args.terms.now.costs c.loop-taken.book (harts_of c.loop-taken.held)) (dues (held_in (holding_of c.args.terms.now.holds) c.loop-taken.book (harts_of c.loop-taken.held)) (clock_at c.loop-taken.clocks.items)) (queues_of c.args.terms.now) (clock_at c.loop-taken.clocks.items) (clock_at c.be_late.new.clocks.items) c.loop-taken.book.cores c.in-Some.turn c.in-Some.ensures.next.0 c.be_late.ensures.each) (free_spent (price_by g.S.PricedStore.prices g.S.EpochStore.waits c.args.terms.now.costs c.loop-taken.book (harts_of c.loop-taken.held)) c.in-Some.turn c.args.terms.now.costs c.in-Some.ensures.next.0.price (free_price g.S.PricedStore.prices g.S.EpochStore.waits c.loop-taken.book (harts_of c.loop-taken.held) c.in-Some.turn.core c.args.terms.now.costs)) (late_timed (is_none c.args.terms.now.costs) c.loop-taken.book (record { held = harts_of c.loop-taken.held; clocks = clock_at c.loop-taken.clocks.items; free = c.loop-taken.free }) (queues_of c.args.terms.now) (clock_at c.be_late.new.clocks.items) c.in-Some.turn (was_due c.loop-taken._taken c.loop-taken.book.cores c.loop-taken.free c.loop-taken.clocks.items c.loop-taken.invariant.sound (held_in (holding_of c.args.terms.now.holds) c.loop-taken.book (harts_of c.loop-taken.held)) (price_by g.S.PricedStore.prices g.S.EpochStore.waits c.args.terms.now.costs c.loop-taken.book (harts_of c.loop-taken.held)) c.in-Some.turn c.in-Some.ensures.next.0) (due_before c.loop-taken._taken c.loop-taken.book.cores c.loop-taken.free c.loop-taken.clocks.items c.loop-taken.invariant.sound (held_in (holding_of c.args.terms.now.holds) c.loop-taken.book (harts_of c.loop-taken.held)) (price_by g.S.PricedStore.prices g.S.EpochStore.waits c.args.terms.now.costs c.loop-taken.book (harts_of c.loop-taken.held)) c.in-Some.turn c.in-Some.ensures.next.0) (no_queue c.args.terms.now.costs c.args.terms.now.queues) c.be_late.ensures.each c.in-Some.ensures.next.0.core (c.loop-taken.invariant.timed fresh)) c.in_ok-answer.answer next c.in_ok-answer.ensures.leads on.going on.are
          (the_first c.in-Some.turn.core c.loop-taken.book.cores (late_turn c.loop-taken.free (price_by g.S.PricedStore.prices g.S.EpochStore.waits c.args.terms.now.costs c.loop-taken.book (harts_of c.loop-taken.held)) (dues (held_in (holding_of c.args.terms.now.holds) c.loop-taken.book (harts_of c.loop-taken.held)) (clock_at c.loop-taken.clocks.items)) (queues_of c.args.terms.now) (clock_at c.loop-taken.clocks.items) (clock_at c.be_late.new.clocks.items) c.loop-taken.book.cores c.in-Some.turn c.in-Some.ensures.next.0 c.be_late.ensures.each).core was)
          (late_never_idle (is_none c.args.terms.now.costs) c.loop-taken.book.image c.loop-taken.book.cores (c.loop-taken.invariant.timed fresh).0 (record { held = harts_of c.loop-taken.held; clocks = clock_at c.loop-taken.clocks.items; free = c.loop-taken.free }) (queues_of c.args.terms.now) (clock_at c.be_late.new.clocks.items) c.in-Some.turn (was_due c.loop-taken._taken c.loop-taken.book.cores c.loop-taken.free c.loop-taken.clocks.items c.loop-taken.invariant.sound (held_in (holding_of c.args.terms.now.holds) c.loop-taken.book (harts_of c.loop-taken.held)) (price_by g.S.PricedStore.prices g.S.EpochStore.waits c.args.terms.now.costs c.loop-taken.book (harts_of c.loop-taken.held)) c.in-Some.turn c.in-Some.ensures.next.0) (due_before c.loop-taken._taken c.loop-taken.book.cores c.loop-taken.free c.loop-taken.clocks.items c.loop-taken.invariant.sound (held_in (holding_of c.args.terms.now.holds) c.loop-taken.book (harts_of c.loop-taken.held)) (price_by g.S.PricedStore.prices g.S.EpochStore.waits c.args.terms.now.costs c.loop-taken.book (harts_of c.loop-taken.held)) c.in-Some.turn c.in-Some.ensures.next.0) (no_queue c.args.terms.now.costs c.args.terms.now.queues)
          c.be_late.ensures.each ((no_queue c.args.terms.now.costs c.args.terms.now.queues) costless) (c.loop-taken.invariant.busy costless fresh was));
      alone = λ one. let was = sym same.cores ∙ one in
          let at_zero = the_first c.in-Some.turn.core c.loop-taken.book.cores (late_turn c.loop-taken.free (price_by g.S.PricedStore.prices g.S.EpochStore.waits c.args.terms.now.costs c.loop-taken.book (harts_of c.loop-taken.held)) (dues (held_in (holding_of c.args.terms.now.holds) c.loop-taken.book (harts_of c.loop-taken.held)) (clock_at c.loop-taken.clocks.items)) (queues_of c.args.terms.now) (clock_at c.loop-taken.clocks.items) (clock_at c.be_late.new.clocks.items) c.loop-taken.book.cores c.in-Some.turn c.in-Some.ensures.next.0 c.be_late.ensures.each).core was in (
            (c.step.ensures.alone was).0,
            subst (λ n. IsAloneClock (HoldsBackNone (pacing_of g.S.PricedStore.prices c.args.terms.now)) n (clock_at c.match-answer.clocks.items 0)) (sym (ap (λ f. f.began) free)) (subst (IsAloneClock (HoldsBackNone (pacing_of g.S.PricedStore.prices c.args.terms.now)) c.in-Some.turn.at) (sym (on.are 0))
                (turn_alone (HoldsBackNone (pacing_of g.S.PricedStore.prices c.args.terms.now)) (driver c.loop-taken.book c.loop-taken.shares) (driver c.step.new.book c.step.new.shares) (clock_at c.be_late.new.clocks.items) c.in-Some.turn c.in_ok-answer.answer at_zero
                (no_restart c.loop-taken.book.totals.restarts c.step.new.book.totals.restarts (c.loop-taken.invariant.alone was).0 (c.step.ensures.alone was).0)
                (subst NeverWaits c.in_ok-answer.was (c.step.ensures.alone was).1) (late_alone (HoldsBackNone (pacing_of g.S.PricedStore.prices c.args.terms.now)) c.loop-taken.free (price_by g.S.PricedStore.prices g.S.EpochStore.waits c.args.terms.now.costs c.loop-taken.book (harts_of c.loop-taken.held)) (queues_of c.args.terms.now) (held_in (holding_of c.args.terms.now.holds) c.loop-taken.book (harts_of c.loop-taken.held)) (clock_at c.loop-taken.clocks.items) (clock_at c.be_late.new.clocks.items) c.loop-taken.book.cores c.in-Some.turn
                (λ unheld none k. free_price g.S.PricedStore.prices g.S.EpochStore.waits c.loop-taken.book (harts_of c.loop-taken.held) k c.args.terms.now.costs (no_costs g.S.PricedStore.prices c.args.terms.now.costs (queues_of c.args.terms.now) unheld none)) at_zero c.in-Some.ensures.next.0 c.be_late.ensures.each (c.loop-taken.invariant.alone was).1))),
          );
    }

pub returns-clause-evenly : goal.returns-clause-evenly
returns-clause-evenly g c = no_more g.S.EpochStore.makes g.S.EpochStore.view g.S.EpochStore.waits g.S.PricedStore.keeps (pacing_of g.S.PricedStore.prices c.args.terms.now) at_first (record { held = harts_of c.loop-taken.held; clocks = clock_at c.loop-taken.clocks.items; free = c.loop-taken.free }) (driver c.args.book.now c.args.shares.now) (driver c.loop-taken.book c.loop-taken.shares) c.loop-taken.schedule.items c.loop-taken.invariant.drives

pub returns-clause-driven : goal.returns-clause-driven
returns-clause-driven g c =
    is_driven g.S.EpochStore.makes g.S.EpochStore.view g.S.EpochStore.waits g.S.PricedStore.keeps (pacing_of g.S.PricedStore.prices c.args.terms.now) at_first (driver c.args.book.now c.args.shares.now) (driver c.loop-taken.book c.loop-taken.shares) c.loop-taken.schedule.items (Ok None) (no_more g.S.EpochStore.makes g.S.EpochStore.view g.S.EpochStore.waits g.S.PricedStore.keeps (pacing_of g.S.PricedStore.prices c.args.terms.now) at_first (record { held = harts_of c.loop-taken.held; clocks = clock_at c.loop-taken.clocks.items; free = c.loop-taken.free }) (driver c.args.book.now c.args.shares.now) (driver c.loop-taken.book c.loop-taken.shares) c.loop-taken.schedule.items c.loop-taken.invariant.drives)

pub returns-in_default-next_turn-clause-ends : goal.returns-in_default-next_turn-clause-ends
returns-in_default-next_turn-clause-ends g c = λ fresh unstopped is.
    let same = c.loop-taken.invariant.same in
    never_undue c.loop-taken.book (holding_of c.args.terms.now.holds) (harts_of c.loop-taken.held) c.loop-taken.free
    (price_by g.S.PricedStore.prices g.S.EpochStore.waits c.args.terms.now.costs c.loop-taken.book (harts_of c.loop-taken.held)) (clock_at c.loop-taken.clocks.items) c.loop-taken._taken c.loop-taken.book.cores
    c.next_turn.result (subst IsImage (sym same.image) c.look.ensures.is_image) (subst (λ n. 1 ≤ n) (sym same.cores) c.look.ensures.core_count.least) refl
    (c.loop-taken.invariant.lasting fresh) c.in_default-next_turn.not-Some c.next_turn.ensures.next

pub returns-in-Stopped-clause-ends : goal.returns-in-Stopped-clause-ends
returns-in-Stopped-clause-ends g c = λ fresh unstopped is.
    none_and_some c.loop-taken.book.stopped c.in-Stopped.field-0 (c.loop-taken.invariant.stopped ∙ unstopped)
    (halted (driver c.loop-taken.book c.loop-taken.shares) (driver c.step.new.book c.step.new.shares) c.in-Some.turn.core (harts_of c.loop-taken.held c.in-Some.turn.core) c.in_ok-answer.answer
    c.in-Stopped.field-0 c.in_ok-answer.ensures.leads c.in-Stopped.is)

pub returns-clause-ends : goal.returns-clause-ends
returns-clause-ends g c = λ fresh unstopped is.
    never_spent c.loop-taken.book (clock_at c.loop-taken.clocks.items) c.loop-taken._taken (c.loop-taken.invariant.lasting fresh) c.loop-taken.invariant.few c.loop-taken.invariant.sound.few
    c.loop-taken-test.false

-- what it goes on with
goes_with : (hands : ℕ → Option HartState) (core : ℕ) (answer : Answer) (hart : HartState) → answer ≡ Go hart → with_held hands core (held_by (Ok answer) (hands core)) core ≡ Some hart
goes_with hands core answer hart is = rw (is, eq-eqb core core refl) refl

-- is in hand: the core is one of the list's
in_hand : (held : List (Option Arrival)) (core : ℕ) (a : Option Arrival) (hart : HartState) → harts_of held core ≡ Some hart → option_map (λ (b : Arrival). b.base) (slice_index_or held core a) ≡ Some hart
in_hand held core a hart is = elim (dec_lt core (length held)) [
  | yes there ↦ ap (option_map (λ (b : Arrival). b.base)) (get_or_default held core a None there) ∙ is
  | no past ↦ absurd (none_and_some (harts_of held core) hart (ap (option_map (λ (b : Arrival). b.base)) (get_or_past held core None (omega (arith, past)))) is)
]

pub executed_by-executed-requires-clause-base : goal.executed_by-executed-requires-clause-base
executed_by-executed-requires-clause-base g c = λ hart is.
    let core = c.in-Some.turn.core in
    in_hand c.step.new.held core c.index-held-turn.result hart (c.in_ok-answer.ensures.harts core ∙ goes_with (harts_of c.loop-taken.held) core c.in_ok-answer.answer hart is)
