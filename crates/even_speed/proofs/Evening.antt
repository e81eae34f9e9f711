-- The turns of a run at even speed, one after another, and that they are a drive.
use Rattle.std.proofs.Common.{◌≡◌, ◌≢◌, ℕ, ◌==◌, Bool, cond, List, [], ◌∷◌, ◌++◌, Option, Some, None, Result, Ok, Err, refl, sym, ap, subst, inl, inr, eq-eqb, ne_eqb, ◌∙◌, append_assoc}
use Rattle.std.proofs.lemmas.Bool.{cases_eq}
use Rattle.std.proofs.Math.Path.{fun_ext}
use Rattle.std.proofs.lemmas.List.{append-nil}
use Rattle.rv32_exec.specs.declared.sequential.End.{End}
use Rattle.violations.specs.View.{IsSettled, StoreView, Waits}
use Rattle.violations.specs.Calls.{Call}
use Rattle.homefree.specs.declared.answer.Answer.{Answer}
use Rattle.homefree.specs.declared.answer.Answer.TheVariants.{Go, Again, Left, Over, Stopped}
use Rattle.homefree.specs.declared.answer.Cause.{Cause}
use Rattle.homefree.specs.declared.answer.StopCause.{StopCause}
use Rattle.homefree.specs.declared.fault.TurnFault.{TurnFault}
use Rattle.homefree.specs.declared.fault.TurnFault.TheVariants.{HistoryFull, NoMemory}
use Rattle.homefree.specs.Driven.{Driver, Driven, TurnedWith, held_after, with_held}
use Rattle.homefree.specs.Driven as driven
use Rattle.even_speed.specs.declared.clock.Clock.{Clock}
use Rattle.even_speed.specs.declared.clocks.Turn.{Turn}
use Rattle.even_speed.specs.declared.run.Ran.{Ran}
use Rattle.even_speed.specs.declared.account.Account.{Account}
use Rattle.even_speed.specs.Clocks.{IsFirst, account_of, answered, dues, first_clock, late_clocks, woken, woken_by}
use Rattle.even_speed.specs.Held.{held_in}
use Rattle.even_speed.specs.Pricing.{all_free, free_after, over_at}
use Rattle.even_speed.specs.Even.{Pace, Pacing, Evenly, EndsOrGoes, IsKept, UnlessRefused, at_first, clocks_after, end_in, executed_by, go_answer, pace_after, prices_in, restarts}

-- ---- a run at even speed is a drive

by_answer : {S : Type 0} (makes : S → Call → S → Type 0) (view : S → StoreView) (waits : S → Waits) (keeps : S → Type 0) (pacing : Pacing S) (p : Pace) (old mid new : Driver S) (t : Turn) (rest : List ℕ) (answer : Result Answer TurnFault) (result : Result (Option Ran) TurnFault)
    → ((a : Answer) → Evenly makes view waits keeps pacing (pace_after old mid pacing.queues p t a) mid rest result new
    → Driven makes view waits (with_held p.held t.core (held_after a (p.held t.core))) mid rest (end_in result) new)
    → EndsOrGoes old mid pacing.queues p t answer rest result new (Evenly makes view waits keeps pacing (pace_after old mid pacing.queues p t (go_answer answer)) mid rest result new)
    → driven.EndsOrGoes answer (λ r. (new ≡ mid) × (end_in result ≡ r)) (λ a. Driven makes view waits (with_held p.held t.core (held_after a (p.held t.core))) mid rest (end_in result) new)
by_answer makes view waits keeps pacing p old mid new t rest (Ok (Over end)) result more e = (e.1, ap end_in e.2)
by_answer makes view waits keeps pacing p old mid new t rest (Ok (Stopped cause)) result more e = (e.1, ap end_in e.2)
by_answer makes view waits keeps pacing p old mid new t rest (Err fault) result more e = (e.1, ap end_in e.2)
by_answer makes view waits keeps pacing p old mid new t rest (Ok (Go hart)) result more e = more (Go hart) e
by_answer makes view waits keeps pacing p old mid new t rest (Ok (Again cause)) result more e = more (Again cause) e
by_answer makes view waits keeps pacing p old mid new t rest (Ok Left) result more e = more Left e

pub is_driven : {S : Type 0} (makes : S → Call → S → Type 0) (view : S → StoreView) (waits : S → Waits) (keeps : S → Type 0) (pacing : Pacing S) (p : Pace) (old new : Driver S) (schedule : List ℕ) (result : Result (Option Ran) TurnFault)
    → Evenly makes view waits keeps pacing p old schedule result new → Driven makes view waits p.held old schedule (end_in result) new
is_driven makes view waits keeps pacing p old new [] result e = (e.0, ap end_in e.1)
is_driven {S} makes view waits keeps pacing p old new (core ∷ rest) result (t, mid, answer, is, kept, first, turned, more) =
    subst (λ k. Driven makes view waits p.held old (k ∷ rest) (end_in result) new) is
    (mid, answer, turned, by_answer makes view waits keeps pacing p old mid new t rest answer result (λ a next. is_driven makes view waits keeps pacing (pace_after old mid pacing.queues p t a) mid new rest result next) more)

-- the same unless memory was refused
pub unless_driven : {S : Type 0} (makes : S → Call → S → Type 0) (view : S → StoreView) (waits : S → Waits) (keeps : S → Type 0) (pacing : Pacing S) (p : Pace) (old new : Driver S) (schedule : List ℕ) (result : Result (Option Ran) TurnFault)
    → UnlessRefused result (Evenly makes view waits keeps pacing p old schedule result new) → UnlessRefused result (Driven makes view waits p.held old schedule (end_in result) new)
unless_driven makes view waits keeps pacing p old new schedule (Ok ran) e = is_driven makes view waits keeps pacing p old new schedule (Ok ran) e
unless_driven makes view waits keeps pacing p old new schedule (Err HistoryFull) e = is_driven makes view waits keeps pacing p old new schedule (Err HistoryFull) e
unless_driven makes view waits keeps pacing p old new schedule (Err NoMemory) e = tt

pub unless_fault : (fault : TurnFault) (P : Type 0) → P → UnlessRefused (Err fault) P
unless_fault HistoryFull P p = p
unless_fault NoMemory P p = tt

-- ---- the start

pub is_at_first : (p : Pace) → ((k : ℕ) → p.held k ≡ None) → ((k : ℕ) → p.clocks k ≡ first_clock) → p.free ≡ all_free → p ≡ at_first
is_at_first p held clocks free = let h = fun_ext held in let c = fun_ext clocks in λ i. record { held = h i; clocks = c i; free = free i }

pub at_start : {S : Type 0} (makes : S → Call → S → Type 0) (view : S → StoreView) (waits : S → Waits) (keeps : S → Type 0) (pacing : Pacing S) (p : Pace) (d : Driver S) (xs : List ℕ) → ((k : ℕ) → p.held k ≡ None) → ((k : ℕ) → p.clocks k ≡ first_clock) → p.free ≡ all_free → xs ≡ []
    → (rest : List ℕ) (result : Result (Option Ran) TurnFault) (new : Driver S) → Evenly makes view waits keeps pacing p d rest result new → Evenly makes view waits keeps pacing at_first d (xs ++ rest) result new
at_start makes view waits keeps pacing p d xs held clocks free none rest result new e =
    subst (λ l. Evenly makes view waits keeps pacing at_first d (l ++ rest) result new) (sym none)
    (subst (λ (q : Pace). Evenly makes view waits keeps pacing q d rest result new) (is_at_first p held clocks free) e)

-- ---- the clocks after a turn

-- the clock of the core that took it, in place of the one before
module _ {S : Type 0} (old mid : Driver S) (clocks clocks' : ℕ → Clock) (t : Turn) (answer : Answer) (restarted : Bool) (executed : ℕ)
    (restart : restarted ≡ restarts old mid) (executes : executed ≡ executed_by old.book.image answer)
    (each : (k : ℕ) → clocks' k ≡ cond (k == t.core) (answered t.at restarted executed t.price.spent answer (clocks t.core)) (clocks k)) where
  abbrev turned : ℕ → Clock
  turned k = cond (k == t.core) (answered t.at (restarts old mid) (executed_by old.book.image answer) t.price.spent answer (clocks k)) (clocks k)

  pub turned_are : (k : ℕ) → clocks' k ≡ turned k
  turned_are k = elim (cases_eq k t.core) [
    | inl e ↦ each k ∙ (rw (e, eq-eqb t.core t.core refl, restart, executes) refl)
    | inr other ↦ each k ∙ rw (ne_eqb k t.core other) refl
  ]

  again_by : (a : Answer) (cause : Cause) (f : ℕ → Clock) (k : ℕ) → a ≡ Again cause → f k ≡ woken_by a t.at f k
  again_by (Again any) cause f k is = refl
  again_by (Go hart) cause f k is = absurd cc
  again_by Left cause f k is = absurd cc
  again_by (Over end) cause f k is = absurd cc
  again_by (Stopped stop) cause f k is = absurd cc

  pub waits_are : (cause : Cause) → answer ≡ Again cause → (k : ℕ) → clocks' k ≡ clocks_after old mid clocks t answer k
  waits_are cause is k = turned_are k ∙ again_by answer cause turned k is

  over_by : (a : Answer) (end : End) (f : ℕ → Clock) (k : ℕ) → a ≡ Over end → f k ≡ woken_by a t.at f k
  over_by (Over any) end f k is = refl
  over_by (Go hart) end f k is = absurd cc
  over_by Left end f k is = absurd cc
  over_by (Again cause) end f k is = absurd cc
  over_by (Stopped stop) end f k is = absurd cc

  pub last_are : (end : End) → answer ≡ Over end → (k : ℕ) → clocks' k ≡ clocks_after old mid clocks t (Over end) k
  last_are end is k =
      turned_are k ∙ (over_by answer end turned k is ∙ ap (λ a. clocks_after old mid clocks t a k) is)

  woken_as : (a : Answer) (f g : ℕ → Clock) (k : ℕ) → ((cause : Cause) → a ≢ Again cause) → ((end : End) → a ≢ Over end) → ((cause : StopCause) → a ≢ Stopped cause)
      → g k ≡ woken t.at (f k) → g k ≡ woken_by a t.at f k
  woken_as (Go hart) f g k going on unstopped is = is
  woken_as Left f g k going on unstopped is = is
  woken_as (Again cause) f g k going on unstopped is = absurd (going cause refl)
  woken_as (Over end) f g k going on unstopped is = absurd (on end refl)
  woken_as (Stopped cause) f g k going on unstopped is = absurd (unstopped cause refl)

  pub woken_are : (clocks'' : ℕ → Clock) → ((cause : Cause) → answer ≢ Again cause) → ((end : End) → answer ≢ Over end) → ((cause : StopCause) → answer ≢ Stopped cause)
      → ((k : ℕ) → clocks'' k ≡ woken t.at (clocks' k)) → (k : ℕ) → clocks'' k ≡ clocks_after old mid clocks t answer k
  woken_are clocks'' going on unstopped are k =
      woken_as answer turned clocks'' k going on unstopped (are k ∙ ap (woken t.at) (turned_are k))

-- ---- the turns so far

pub no_more : {S : Type 0} (makes : S → Call → S → Type 0) (view : S → StoreView) (waits : S → Waits) (keeps : S → Type 0) (pacing : Pacing S) (p0 p : Pace) (first old : Driver S) (xs : List ℕ)
    → ((rest : List ℕ) (result : Result (Option Ran) TurnFault) (new : Driver S) → Evenly makes view waits keeps pacing p old rest result new → Evenly makes view waits keeps pacing p0 first (xs ++ rest) result new)
    → Evenly makes view waits keeps pacing p0 first xs (Ok None) old
no_more makes view waits keeps pacing p0 p first old xs drives = subst (λ l. Evenly makes view waits keeps pacing p0 first l (Ok None) old) (append-nil xs) (drives [] (Ok None) old (refl, refl))

-- ---- one turn more

module _ {S : Type 0} (makes : S → Call → S → Type 0) (view : S → StoreView) (waits : S → Waits) (keeps : S → Type 0) (pacing : Pacing S) (p0 p : Pace) (first old mid : Driver S) (xs ys : List ℕ) (t : Turn)
    (drives : (rest : List ℕ) (result : Result (Option Ran) TurnFault) (new : Driver S) → Evenly makes view waits keeps pacing p old rest result new → Evenly makes view waits keeps pacing p0 first (xs ++ rest) result new)
    (is_first : IsFirst p.free (prices_in pacing.pricing waits old.book p.held) (dues (held_in pacing.holds old.book p.held) p.clocks) old.book.cores t) (kept : IsSettled (view old.book.store) × IsKept pacing.pricing keeps old.book.store)
    (pushed : ys ≡ xs ++ t.core ∷ []) where
  by_turn : (answer : Result Answer TurnFault) (rest : List ℕ) (result : Result (Option Ran) TurnFault) (new : Driver S) → TurnedWith makes view waits old t.core (p.held t.core) answer mid
      → EndsOrGoes old mid pacing.queues p t answer rest result new (Evenly makes view waits keeps pacing (pace_after old mid pacing.queues p t (go_answer answer)) mid rest result new)
      → Evenly makes view waits keeps pacing p0 first (xs ++ t.core ∷ rest) result new
  by_turn answer rest result new turned more = drives (t.core ∷ rest) result new (t, mid, answer, refl, kept, is_first, turned, more)

  -- it is the last one
  ends : (answer : Result Answer TurnFault) (result : Result (Option Ran) TurnFault) → TurnedWith makes view waits old t.core (p.held t.core) answer mid
      → EndsOrGoes old mid pacing.queues p t answer [] result mid (Evenly makes view waits keeps pacing (pace_after old mid pacing.queues p t (go_answer answer)) mid [] result mid) → Evenly makes view waits keeps pacing p0 first ys result mid
  ends answer result turned so = subst (λ l. Evenly makes view waits keeps pacing p0 first l result mid) (sym pushed) (by_turn answer [] result mid turned so)

  pub ends_over : (answer : Answer) (end : End) (clocks : ℕ → Clock) (account : Account) → answer ≡ Over end
      → ((k : ℕ) → clocks k ≡ clocks_after old mid (late_clocks pacing.queues p.clocks t) t (Over end) k) → account ≡ account_of (over_at p.free t.at t.price) clocks old.book.cores
      → TurnedWith makes view waits old t.core (p.held t.core) (Ok answer) mid
      → Evenly makes view waits keeps pacing p0 first ys (Ok (Some (record { end = end; steps = over_at p.free t.at t.price; account = account }))) mid
  ends_over answer end clocks account is are sum turned =
      let same : account ≡ account_of (over_at p.free t.at t.price) (clocks_after old mid (late_clocks pacing.queues p.clocks t) t (Over end)) old.book.cores =
      sum ∙ ap (λ (f : ℕ → Clock). account_of (over_at p.free t.at t.price) f old.book.cores) (fun_ext are) in
      ends (Ok (Over end)) (Ok (Some (record { end = end; steps = over_at p.free t.at t.price; account = account })))
      (subst (λ a. TurnedWith makes view waits old t.core (p.held t.core) (Ok a) mid) is turned)
      (refl, refl, ap (λ (a : Account). Ok (Some (record { end = end; steps = over_at p.free t.at t.price; account = a }))) same)

  pub ends_stopped : (answer : Answer) (cause : StopCause) → answer ≡ Stopped cause → TurnedWith makes view waits old t.core (p.held t.core) (Ok answer) mid
      → Evenly makes view waits keeps pacing p0 first ys (Ok None) mid
  ends_stopped answer cause is turned =
      ends (Ok (Stopped cause)) (Ok None) (subst (λ a. TurnedWith makes view waits old t.core (p.held t.core) (Ok a) mid) is turned) (refl, refl, refl)

  pub ends_fault : (fault : TurnFault) → TurnedWith makes view waits old t.core (p.held t.core) (Err fault) mid
      → UnlessRefused (Err fault) (Evenly makes view waits keeps pacing p0 first ys (Err fault) mid)
  ends_fault fault turned = unless_fault fault (Evenly makes view waits keeps pacing p0 first ys (Err fault) mid) (ends (Err fault) (Err fault) turned (refl, refl, refl))

  more_by : (answer : Answer) (rest : List ℕ) (result : Result (Option Ran) TurnFault) (new : Driver S) → ((end : End) → answer ≢ Over end) → ((cause : StopCause) → answer ≢ Stopped cause)
      → Evenly makes view waits keeps pacing (pace_after old mid pacing.queues p t answer) mid rest result new
      → EndsOrGoes old mid pacing.queues p t (Ok answer) rest result new (Evenly makes view waits keeps pacing (pace_after old mid pacing.queues p t answer) mid rest result new)
  more_by (Go hart) rest result new going unstopped e = e
  more_by (Again cause) rest result new going unstopped e = e
  more_by Left rest result new going unstopped e = e
  more_by (Over end) rest result new going unstopped e = absurd (going end refl)
  more_by (Stopped cause) rest result new going unstopped e = absurd (unstopped cause refl)

  pub goes_on : (answer : Answer) (p' : Pace) → ((end : End) → answer ≢ Over end) → ((cause : StopCause) → answer ≢ Stopped cause)
      → ((k : ℕ) → p'.held k ≡ with_held p.held t.core (held_after answer (p.held t.core)) k) → ((k : ℕ) → p'.clocks k ≡ clocks_after old mid (late_clocks pacing.queues p.clocks t) t answer k) → p'.free ≡ free_after p.free t.at t.price answer
      → TurnedWith makes view waits old t.core (p.held t.core) (Ok answer) mid
      → (rest : List ℕ) (result : Result (Option Ran) TurnFault) (new : Driver S) → Evenly makes view waits keeps pacing p' mid rest result new
      → Evenly makes view waits keeps pacing p0 first (ys ++ rest) result new
  goes_on answer p' going unstopped held_is clocks_are free_is turned rest result new e =
      let held_path = fun_ext held_is in
      let clocks_path = fun_ext clocks_are in
      let same : p' ≡ pace_after old mid pacing.queues p t answer = λ i. record { held = held_path i; clocks = clocks_path i; free = free_is i } in
      subst (λ l. Evenly makes view waits keeps pacing p0 first l result new) (sym (ap (λ zs. zs ++ rest) pushed ∙ append_assoc xs (t.core ∷ []) rest))
      (by_turn (Ok answer) rest result new turned (more_by answer rest result new going unstopped
      (subst (λ (q : Pace). Evenly makes view waits keeps pacing q mid rest result new) same e)))
