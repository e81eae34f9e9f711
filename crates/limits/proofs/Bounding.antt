-- The turns of a run at even speed, one after another: their steps are a timing.
use Rattle.std.proofs.Common.{◌≡◌, ◌≢◌, ℕ, ◌+◌, ◌-◌, ◌<◌, ◌≤◌, ◌==◌, Bool, true, false, List, [], ◌∷◌, ◌++◌, Option, Some, None, Result, Ok, Err, option_map, if◌then◌else◌, refl, sym, ap, subst, ◌∙◌, inl, inr, arith, true≢false, eq-eqb, ne_eqb, eqb-true}
use Rattle.std.proofs.lemmas.Bool.{cases_eq}
use Rattle.rv32_image.specs.Image.{IsImage, LoadedImage}
use Rattle.rv32_image.proofs.SmallFacts.{none_and_some, one_value}
use Rattle.rv32_exec.specs.declared.sequential.End.{End}
use Rattle.rv32_exec.specs.declared.sequential.End.TheVariants as end
use Rattle.rv32_exec.specs.Hart.{HartState}
use Rattle.rv32_exec.specs.Arrival.{Arrival}
use Rattle.rv32_exec.specs.NextEvent.{next_event}
use Rattle.spec_history.specs.declared.entry.Entry.{Entry}
use Rattle.spec_history.specs.FlatState.{FlatState, first_state}
use Rattle.spec_history.specs.Replay.{replay, replay_from}
use Rattle.spec_history.proofs.Replay.Joining.{history_goes_on, no_entry}
use Rattle.spec_history.proofs.Replay.Reaching.{no_entries}
use Rattle.violations.specs.View.{IsClear, IsSettled, StoreView, Waits as StoreWaits, line_of, never_waits}
use Rattle.violations.specs.Calls.{Call}
use Rattle.violations.specs.Rule.{IsSameView}
use Rattle.homefree.specs.declared.answer.Answer.{Answer}
use Rattle.homefree.specs.declared.answer.Answer.TheVariants.{Go, Again, Left, Over, Stopped}
use Rattle.homefree.specs.declared.answer.Cause.{Cause}
use Rattle.homefree.specs.declared.answer.Cause.TheVariants.{NoEpoch, NotHomefree, NoWay, OrbFull, OrbBusy}
use Rattle.homefree.specs.declared.fault.TurnFault.{TurnFault}
use Rattle.homefree.specs.Agrees.{Agrees}
use Rattle.homefree.specs.BookView.{BookView}
use Rattle.homefree.specs.Driven.{Driver, TurnedWith, arrival_of}
use Rattle.homefree.specs.InStep.{InStep}
use Rattle.homefree.specs.Turned.{Acting, Turned, turn_at}
use Rattle.homefree.specs.Turned as turn
use Rattle.homefree.proofs.State.Others.{same_at}
use Rattle.epoch_paths.specs.InOrder.{AreAll}
use Rattle.even_speed.specs.declared.clock.Clock.{Clock}
use Rattle.even_speed.specs.declared.clock.Next.{Next}
use Rattle.even_speed.specs.declared.clock.Next.TheVariants.{Due, Waits, Gone}
use Rattle.even_speed.specs.declared.clocks.Turn.{Turn}
use Rattle.even_speed.specs.declared.pricing.Free.{Free}
use Rattle.even_speed.specs.declared.pricing.Price.{Price}
use Rattle.even_speed.specs.declared.run.Ran.{Ran}
use Rattle.even_speed.specs.Account.{total}
use Rattle.even_speed.specs.Clocks.{IsFirst, answered, due_of, dues, late_clocks, woken, woken_from}
use Rattle.even_speed.specs.Even.{EndsOrGoes, Evenly, Pace, Pacing, at_first, executed_by, go_answer, pace_after, prices_in, restarts}
use Rattle.even_speed.specs.Held.{held_in}
use Rattle.even_speed.specs.Pricing.{over_at}
use Rattle.even_speed.proofs.Sounding.{begins_least, later_least}
use Rattle.limits.specs.declared.limit.Waits.TheVariants as kind
use Rattle.limits.specs.declared.limit.Waits.{Waits as Kind}
use Rattle.limits.specs.Bound.{IsBelowRuns}
use Rattle.limits.proofs.Marks.{IsTimedIn, Marks}
use Rattle.limits.proofs.Marking as mark
use Rattle.limits.proofs.Beginning.{first_timed, no_marks}
use Rattle.limits.proofs.Finishing.{IsBound, bounds, no_epochs}
use Rattle.limits.proofs.Acting.{Went, gap}
use Rattle.limits.proofs.Turns.{ComesTo, GoesOn, IsFor, acts}

-- ---- when a turn begins

over_after : (free : Free) (at : ℕ) (p : Price) → at + 1 ≤ over_at free at p
over_after free at p = let most = (later_least free.order (at + total p.spent)).1 in omega (arith, most)

-- ---- when cores are due

-- not before this step; and it waits since then, up to now
abbrev IsDueFrom : ℕ → ℕ → Next → Type 0
IsDueFrom need now (Due at) = need ≤ at
IsDueFrom need now (Waits since cause) = (need ≤ since) × (since ≤ now)
IsDueFrom need now Gone = Unit {0}

due_least : (need now x : ℕ) (n : Next) → due_of n ≡ Some x → IsDueFrom need now n → need ≤ x
due_least need now x (Due at) is due = let same : at ≡ x = cc in omega (arith, due, same)
due_least need now x (Waits since cause) is due = absurd cc
due_least need now x Gone is due = absurd cc

pub unheld : (held : Bool) (n : Next) (x : ℕ) → (if held then None else due_of n) ≡ Some x → due_of n ≡ Some x
unheld true n x is = absurd cc
unheld false n x is = is

due_still : (need need' now at : ℕ) (n : Next) → need' ≤ need → now ≤ at → IsDueFrom need now n → IsDueFrom need' at n
due_still need need' now at (Due x) less more due = omega (arith, less, due)
due_still need need' now at (Waits since cause) less more due = let from = due.0 in let to = due.1 in (omega (arith, less, from), omega (arith, more, to))
due_still need need' now at Gone less more due = tt

due_woken_from : (need need' now at : ℕ) (c : Clock) (n : Next) → c.next ≡ n → need' ≤ need → now ≤ at → IsDueFrom need now n → IsDueFrom need' at (woken_from n at c).next
due_woken_from need need' now at c (Due x) is less more due = subst (IsDueFrom need' at) (sym is) (omega (arith, less, due))
due_woken_from need need' now at c (Waits since cause) is less more due = let from = due.0 in let to = due.1 in omega (arith, less, from, to, more)
due_woken_from need need' now at c Gone is less more due = subst (IsDueFrom need' at) (sym is) tt

due_woken : (need need' now at : ℕ) (c : Clock) → need' ≤ need → now ≤ at → IsDueFrom need now c.next → IsDueFrom need' at (woken at c).next
due_woken need need' now at c less more due = due_woken_from need need' now at c c.next refl less more due

pub by_test : {A : Type 0} (P : A → Type 0) (b : Bool) (x y : A) → b ≡ true → P x → P (if b then x else y)
by_test P true x y is holds = holds
by_test P false x y is holds = absurd cc

pub by_other : {A : Type 0} (P : A → Type 0) (b : Bool) (x y : A) → b ≡ false → P y → P (if b then x else y)
by_other P true x y is holds = absurd cc
by_other P false x y is holds = holds

-- the clock of a core that doesn't act is as it was
pub late_other : (queues : Bool) (clocks : ℕ → Clock) (t : Turn) (k : ℕ) → k ≢ t.core → late_clocks queues clocks t k ≡ clocks k
late_other queues clocks t k other = by_other (λ (c : Clock). c ≡ clocks k) (k == t.core) _ (clocks k) (ne_eqb k t.core other) refl

-- ---- a store that made room

clear_same : (v w : StoreView) (k : ℕ) → IsSameView v w → IsClear v k → IsClear w k
clear_same v w k same clear = let core = same.cores k in record {
  own = λ a. core.own a ∙ clear.own a;
  guarded = λ a. core.guarded a ∙ clear.guarded a;
  sees = λ a. core.sees a ∙ (clear.sees a ∙ sym (same.committed a));
}

pub settled_same : (v w : StoreView) → IsSameView v w → IsSettled v → IsSettled w
settled_same v w same settled = record {
  there = λ k x is. subst (λ z. k < z.cores) (sym same.shape) (settled.there k x (sym (same.cores k).attempt ∙ is));
  apart = λ j k x y first second epoch. settled.apart j k x y (sym (same.cores j).attempt ∙ first) (sym (same.cores k).attempt ∙ second) epoch;
  straight_first = λ j k x y first straight second other.
      settled.straight_first j k x y (sym (same.cores j).attempt ∙ first) straight (sym (same.cores k).attempt ∙ second) other;
  idle = λ k none. clear_same v w k same (settled.idle k (sym (same.cores k).attempt ∙ none));
  straight = λ k x is straight. clear_same v w k same (settled.straight k x (sym (same.cores k).attempt ∙ is) straight);
  whole_lines = λ cached k a b line guards. (same.cores k).guarded b
      ∙ settled.whole_lines (sym same.cached ∙ cached) k a b (subst (λ z. line_of z a ≡ line_of z b) same.shape line) (sym ((same.cores k).guarded a) ∙ guards);
}

pub agrees_same : (s : FlatState) (v w : StoreView) → IsSameView v w → Agrees s v → Agrees s w
agrees_same s v w same agrees = record {
  committed = λ a. same.committed a ∙ agrees.committed a;
  core = λ still k. same_at s.committed s.committed v w k (s.cores k) (same.shape, same.cached) (λ a. refl) (same.cores k) (agrees.core still k);
}

-- ---- a run so far

pub record IsTimedRun (image : LoadedImage) (what : Kind) (cores : ℕ) (history : List Entry) (v : StoreView) (p : Pace) : Type 0 where
  pub state : FlatState
  pub marks : Marks
  pub reached : replay image cores history ≡ Some state
  -- the loop isn't over, or has no epochs
  pub ending : (e : End) → state.end ≡ Some e → image.epochs ≡ 0
  pub agrees : Agrees state v
  pub timed : IsTimedIn image what cores p.free.began state marks
  pub due : (k : ℕ) → k < cores → IsDueFrom (marks.from k + gap image (state.cores k)) p.free.began (p.clocks k).next

more_steps : (image : LoadedImage) (what : Kind) (cores fewer more : ℕ) → fewer ≤ more → IsBound image what cores fewer → IsBound image what cores more
more_steps image what cores fewer more less b = record { epochs = b.epochs; all = b.all; timing = b.timing; is = b.is; most = (let most = b.most in omega (arith, most, less)) }

pub same_ran : (x y : Ran) → (let r : Result (Option Ran) TurnFault = Ok (Some x) in r ≡ Ok (Some y)) → x ≡ y
same_ran x y is = cc

pub not_none : (x : Ran) → (let r : Result (Option Ran) TurnFault = Ok (Some x) in r ≡ Ok None) → ⊥
not_none x is = cc

pub not_fault : (x : Ran) (f : TurnFault) → (let r : Result (Option Ran) TurnFault = Ok (Some x) in r ≡ Err f) → ⊥
not_fault x f is = cc

module _ {S : Type 0} (makes : S → Call → S → Type 0) (view : S → StoreView) (waits : S → StoreWaits) (keeps : S → Type 0) (paced : Pacing S) (what : Kind) (ran : Ran)
    (for : (store : S) → IsFor what (waits store)) where
  abbrev Runs : Pace → Driver S → List ℕ → Driver S → Type 0
  Runs p old schedule new = Evenly makes view waits keeps paced p old schedule (Ok (Some ran)) new

  settled_next : (schedule : List ℕ) (p : Pace) (old new : Driver S) → Runs p old schedule new → IsSettled (view old.book.store)
  settled_next [] p old new e = absurd (not_none ran e.1)
  settled_next (core ∷ rest) p old new (t, mid, answer, is, kept, first, turned, more) = kept.0

  module _ (p : Pace) (old mid new : Driver S) (t : Turn) (rest : List ℕ) (x : IsTimedRun old.book.image what old.book.cores old.book.history (view old.book.store) p)
      (is : IsImage old.book.image) (settled : IsSettled (view old.book.store))
      (first : IsFirst p.free (prices_in paced.pricing waits old.book p.held) (dues (held_in paced.holds old.book p.held) p.clocks) old.book.cores t)
      (rec : (q : Pace) → IsTimedRun mid.book.image what mid.book.cores mid.book.history (view mid.book.store) q → IsImage mid.book.image → Runs q mid rest new
      → IsBound mid.book.image what mid.book.cores ran.steps) where
    abbrev image : LoadedImage
    image = old.book.image

    abbrev cores : ℕ
    cores = old.book.cores

    abbrev s : FlatState
    s = x.state

    abbrev m : Marks
    m = x.marks

    abbrev Ends' : Result Answer TurnFault → Type 0
    Ends' answer = EndsOrGoes old mid paced.queues p t answer rest (Ok (Some ran)) new (Runs (pace_after old mid paced.queues p t (go_answer answer)) mid rest new)

    late : p.free.began ≤ t.at
    late = let both = begins_least p.free t.price t.due in let from = both.0 in let at = first.begins_at in omega (arith, from, at)

    due_then : t.due ≤ t.at
    due_then = let both = begins_least p.free t.price t.due in let from = both.1 in let at = first.begins_at in omega (arith, from, at)

    due : m.from t.core + gap image (s.cores t.core) ≤ t.at
    due =
        let was = x.due t.core first.core in
        let is_due = unheld (held_in paced.holds old.book p.held t.core) (p.clocks t.core).next t.due first.due in
        let least = due_least (m.from t.core + gap image (s.cores t.core)) p.free.began t.due (p.clocks t.core).next is_due was in omega (arith, least, due_then)

    timed : IsTimedIn image what cores t.at s m
    timed = mark.later image what cores p.free.began t.at s.homefree s.next_epoch s.cores m late x.timed

    enough : t.at + 1 ≤ over_at p.free t.at t.price
    enough = over_after p.free t.at t.price

    -- the run ends here
    ended : (e : End) → IsBound image what cores (t.at + 1) → Ends' (Ok (Over e)) → IsBound image what cores ran.steps
    ended e b more =
        let same = ap (λ (r : Ran). r.steps) (same_ran ran _ more.2) in more_steps image what cores (t.at + 1) ran.steps (omega (arith, enough, same)) b

    -- the clocks of the others
    other_due : (answer : Answer) (k : ℕ) (need : ℕ) → k ≢ t.core → k < cores → need ≤ m.from k + gap image (s.cores k)
        → IsDueFrom need t.at (p.clocks k).next × IsDueFrom need t.at (woken t.at (p.clocks k)).next
    other_due answer k need other below less = (
      due_still (m.from k + gap image (s.cores k)) need p.free.began t.at (p.clocks k).next less late (x.due k below),
      due_woken (m.from k + gap image (s.cores k)) need p.free.began t.at (p.clocks k) less late (x.due k below),
    )

    abbrev next : Option Arrival
    next = option_map (arrival_of old.book.image) (p.held t.core)

    abbrev Acts' : Result Answer TurnFault → Type 0
    Acts' answer = Acting view waits old.book mid.book s old.shares mid.shares t.core next answer

    abbrev pace : Answer → Pace
    pace answer = pace_after old mid paced.queues p t answer

    abbrev w : StoreView
    w = view mid.book.store

    comes : (answer : Result Answer TurnFault) (a : Acts' answer) → GoesOn w a.out.answer → ComesTo image what cores t.at t.core s m a.reserved w a.out.entries a.out.answer
    comes answer a kept =
        acts (turn_at waits old.book s t.core next) what t.at m a.reserved w old.book.history is x.reached a.may.going first.core
        (agrees_same s (view old.book.store) a.reserved a.same x.agrees) (settled_same (view old.book.store) a.reserved a.same settled) timed due (for old.book.store) a.out kept a.acts

    -- the rest of the run
    carried : (answer : Result Answer TurnFault) (a : Acts' answer) (q : Pace) → IsTimedRun image what cores (old.book.history ++ a.out.entries) w q → Runs q mid rest new
        → IsBound image what cores ran.steps
    carried answer a q y e =
        let g = a.grows in
        let there : IsTimedRun mid.book.image what mid.book.cores mid.book.history w q =
        subst (λ h. IsTimedRun mid.book.image what mid.book.cores h w q) (sym g.history)
        (subst (λ n. IsTimedRun mid.book.image what n (old.book.history ++ a.out.entries) w q) (sym g.cores)
        (subst (λ i. IsTimedRun i what cores (old.book.history ++ a.out.entries) w q) (sym g.image) y)) in
        subst (λ i. IsBound i what cores ran.steps) g.image (subst (λ n. IsBound mid.book.image what n ran.steps) g.cores (rec q there (subst IsImage (sym g.image) is) e))

    went : (more : ℕ) (answer : Answer) (entries : List Entry) → Went image what cores t.at t.core more s m entries w
        → ((need : ℕ) → need ≤ t.at + 1 + more → IsDueFrom need t.at ((pace answer).clocks t.core).next)
        → ((k need : ℕ) → k ≢ t.core → k < cores → need ≤ m.from k + gap image (s.cores k) → IsDueFrom need t.at ((pace answer).clocks k).next)
        → IsTimedRun image what cores (old.book.history ++ entries) w (pace answer)
    went more answer entries g own others = record {
      state = g.state;
      marks = g.marks;
      reached = history_goes_on image cores old.book.history entries s g.state x.reached g.replays;
      ending = λ e some. absurd (none_and_some g.state.end e g.going some);
      agrees = g.agrees;
      timed = g.timed;
      due = λ k below. elim (cases_eq k t.core) [
        | inl e ↦
            subst (λ n. IsDueFrom (g.marks.from n + gap image (g.state.cores n)) t.at ((pace answer).clocks n).next) (sym e)
            (own (g.marks.from t.core + gap image (g.state.cores t.core)) g.own)
        | inr other ↦ others k (g.marks.from k + gap image (g.state.cores k)) other below (g.others k other)
      ];
    }

    -- ---- clocks

    abbrev its : Answer → ℕ → Clock
    its answer k = answered t.at (restarts old mid) (executed_by old.book.image answer) t.price.spent answer (late_clocks paced.queues p.clocks t k)

    woken_other : (answer : Answer) (k need : ℕ) → k ≢ t.core → k < cores → need ≤ m.from k + gap image (s.cores k)
        → IsDueFrom need t.at (woken t.at (if k == t.core then its answer k else late_clocks paced.queues p.clocks t k)).next
    woken_other answer k need other below less =
        by_other (λ (c : Clock). IsDueFrom need t.at (woken t.at c).next) (k == t.core) (its answer k) (late_clocks paced.queues p.clocks t k) (ne_eqb k t.core other)
        (subst (λ (c : Clock). IsDueFrom need t.at (woken t.at c).next) (sym (late_other paced.queues p.clocks t k other)) (other_due answer k need other below less).1)

    still_other : (answer : Answer) (k need : ℕ) → k ≢ t.core → k < cores → need ≤ m.from k + gap image (s.cores k)
        → IsDueFrom need t.at (if k == t.core then its answer k else late_clocks paced.queues p.clocks t k).next
    still_other answer k need other below less =
        by_other (λ (c : Clock). IsDueFrom need t.at c.next) (k == t.core) (its answer k) (late_clocks paced.queues p.clocks t k) (ne_eqb k t.core other)
        (subst (λ (c : Clock). IsDueFrom need t.at c.next) (sym (late_other paced.queues p.clocks t k other)) (other_due answer k need other below less).0)

    go_own : (hart : HartState) (need : ℕ) → need ≤ t.at + 1 + ((next_event image hart).now.done - hart.done) → IsDueFrom need t.at ((pace (Go hart)).clocks t.core).next
    go_own hart need most =
        by_test (λ (c : Clock). IsDueFrom need t.at (woken t.at c).next) (t.core == t.core) (its (Go hart) t.core) (late_clocks paced.queues p.clocks t t.core) (eq-eqb t.core t.core refl)
        (let low : need ≤ t.at + 1 + total t.price.spent + ((next_event image hart).now.done - hart.done) = omega (arith, most) in low)

    left_own : (need : ℕ) → need ≤ t.at + 1 + 0 → IsDueFrom need t.at ((pace Left).clocks t.core).next
    left_own need most =
        by_test (λ (c : Clock). IsDueFrom need t.at (woken t.at c).next) (t.core == t.core) (its Left t.core) (late_clocks paced.queues p.clocks t t.core) (eq-eqb t.core t.core refl)
        (let low : need ≤ t.at + 1 + total t.price.spent = omega (arith, most) in low)

    waits_own : (cause : Cause) (need : ℕ) → need ≤ t.at → IsDueFrom need t.at (its (Again cause) t.core).next
    waits_own NoEpoch need most = tt
    waits_own NotHomefree need most = (most, omega arith)
    waits_own NoWay need most = (most, omega arith)
    waits_own OrbFull need most = (most, omega arith)
    waits_own OrbBusy need most = (most, omega arith)

    again_own : (cause : Cause) (need : ℕ) → need ≤ t.at → IsDueFrom need t.at ((pace (Again cause)).clocks t.core).next
    again_own cause need most =
        by_test (λ (c : Clock). IsDueFrom need t.at c.next) (t.core == t.core) (its (Again cause) t.core) (late_clocks paced.queues p.clocks t t.core) (eq-eqb t.core t.core refl)
        (waits_own cause need most)

    -- ---- by the answer

    by_answer : (answer : Result Answer TurnFault) (a : Acts' answer) (y : Answer) → a.out.answer ≡ y → Ends' (Ok y) → IsBound image what cores ran.steps
    by_answer answer a (Go hart) e more =
        let kept = settled_next rest (pace (Go hart)) mid new more in
        let g : Went image what cores t.at t.core ((next_event image hart).now.done - hart.done) s m a.out.entries w =
        subst (ComesTo image what cores t.at t.core s m a.reserved w a.out.entries) e (comes answer a (subst (GoesOn w) (sym e) kept)) in
        carried answer a (pace (Go hart)) (went ((next_event image hart).now.done - hart.done) (Go hart) a.out.entries g (go_own hart) (woken_other (Go hart))) more
    by_answer answer a (Again cause) e more =
        let g : (a.out.entries ≡ []) × (w ≡ a.reserved) =
        subst (ComesTo image what cores t.at t.core s m a.reserved w a.out.entries) e (comes answer a (subst (GoesOn w) (sym e) tt)) in
        carried answer a (pace (Again cause)) (record {
          state = s;
          marks = m;
          reached = history_goes_on image cores old.book.history a.out.entries s s x.reached (subst (λ xs. replay_from image cores s xs ≡ Some s) (sym g.0) (no_entry image cores s));
          ending = x.ending;
          agrees = subst (Agrees s) (sym g.1) (agrees_same s (view old.book.store) a.reserved a.same x.agrees);
          timed = timed;
          due = λ k below. elim (cases_eq k t.core) [
            | inl same ↦
                subst (λ n. IsDueFrom (m.from n + gap image (s.cores n)) t.at ((pace (Again cause)).clocks n).next) (sym same) (again_own cause (m.from t.core + gap image (s.cores t.core)) due)
            | inr other ↦ still_other (Again cause) k (m.from k + gap image (s.cores k)) other below (omega arith)
          ];
        }) more
    by_answer answer a Left e more =
        let g : Went image what cores t.at t.core 0 s m a.out.entries w =
        subst (ComesTo image what cores t.at t.core s m a.reserved w a.out.entries) e (comes answer a (subst (GoesOn w) (sym e) tt)) in
        carried answer a (pace Left) (went 0 Left a.out.entries g left_own (woken_other Left)) more
    by_answer answer a (Over over) e more =
        ended over (subst (ComesTo image what cores t.at t.core s m a.reserved w a.out.entries) e (comes answer a (subst (GoesOn w) (sym e) tt))) more
    by_answer answer a (Stopped cause) e more = absurd (not_none ran more.2)

    none_run : image.epochs ≡ 0 → AreAll image 0
    none_run none = record { most = omega arith; each = λ d low. absurd (omega (arith, low)); no_more = λ d low order. absurd (omega (arith, low, none)) }

    by_turned : (answer : Result Answer TurnFault) → Turned view waits old.book s old.shares t.core next answer mid.book mid.shares → Ends' answer → IsBound image what cores ran.steps
    by_turned answer (turn.over o same held) more =
        ended o.end (no_epochs image what cores (t.at + 1) m.timing (none_run (x.ending o.end o.over)) (omega arith)) (subst Ends' o.answer_is more)
    by_turned answer (turn.stopped o same held) more = absurd (not_none ran (subst Ends' o.answer_is more).2)
    by_turned answer (turn.full o same held) more = absurd (not_fault ran _ (subst Ends' o.answer_is more).2)
    by_turned answer (turn.no_memory may same grows fault) more = absurd (not_fault ran _ (subst Ends' fault more).2)
    by_turned answer (turn.acts a) more = by_answer answer a a.out.answer refl (subst Ends' a.answer_is more)

    taken : (answer : Result Answer TurnFault) → TurnedWith makes view waits old t.core (p.held t.core) answer mid → Ends' answer → IsBound image what cores ran.steps
    taken answer turned more =
        let same = one_value (replay image cores old.book.history) turned.state s turned.replays x.reached in
        by_turned answer (subst (λ z. Turned view waits old.book z old.shares t.core next answer mid.book mid.shares) same turned.turns.turned) more

  pub bounded : (schedule : List ℕ) (p : Pace) (old new : Driver S) → IsTimedRun old.book.image what old.book.cores old.book.history (view old.book.store) p → IsImage old.book.image
      → Runs p old schedule new → IsBound old.book.image what old.book.cores ran.steps
  bounded [] p old new x is e = absurd (not_none ran e.1)
  bounded (core ∷ rest) p old new x is (t, mid, answer, same, kept, first, turned, more) =
      taken p old mid new t rest x is kept.0 first (λ q y image e. bounded rest q mid new y image e) answer turned more

-- ---- from the start

pub ended_at_first : (image : LoadedImage) (b : Bool) (e y : End) → (0 == image.epochs) ≡ b → (if b then Some y else None) ≡ Some e → image.epochs ≡ 0
ended_at_first image true e y is some = sym (eqb-true 0 image.epochs is)
ended_at_first image false e y is some = absurd cc

pub at_start : {S : Type 0} (view : S → StoreView) (b : BookView S) (what : Kind) → InStep view b → b.history ≡ [] → IsTimedRun b.image what b.cores b.history (view b.store) at_first
at_start view b what i none =
    let reached : replay b.image b.cores b.history ≡ Some (first_state b.image) = ap (replay b.image b.cores) none ∙ no_entries b.image b.cores in
    let same = one_value (replay b.image b.cores b.history) i.state (first_state b.image) i.replays reached in record {
      state = first_state b.image;
      marks = no_marks;
      reached = reached;
      ending = λ e some. ended_at_first b.image (0 == b.image.epochs) e (end.Done 0) refl some;
      agrees = subst (λ s. Agrees s (view b.store)) same i.agrees;
      timed = first_timed b.image what b.cores;
      due = λ k below. omega arith;
    }

pub below_runs : {S : Type 0} (makes : S → Call → S → Type 0) (view : S → StoreView) (waits : S → StoreWaits) (keeps : S → Type 0) (what : Kind)
    → ((store : S) → IsFor what (waits store)) → IsBelowRuns what makes view waits keeps
below_runs makes view waits keeps what for paced old new schedule ran steps i none e limit =
    bounds old.book.image what old.book.cores steps ran.steps limit
    (bounded makes view waits keeps paced what ran for schedule at_first old new (at_start view old.book what i none) i.is_image e)

pub for_stores : (waits : StoreWaits) → IsFor kind.Store waits
for_stores waits = record { load = λ core address width some. refl; store = λ core address width some. refl }

pub for_commits : (what : Kind) (waits : StoreWaits) → waits ≡ never_waits → IsFor what waits
for_commits what waits never = subst (IsFor what) (sym never) (record { load = λ core address width some. absurd (true≢false (sym some)); store = λ core address width some. absurd (true≢false (sym some)) })
