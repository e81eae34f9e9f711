-- The turns of a run in which no core is hurt, one after another, with what else is kept of it.
use Rattle.std.proofs.Common.{◌≡◌, ◌≢◌, ◌⊎◌, ℕ, ◌+◌, ◌==◌, not, Bool, true, false, List, [], ◌∷◌, ◌++◌, Option, Some, None, Result, Ok, option_map, if◌then◌else◌, refl, sym, ap, subst, ◌∙◌, inl, inr, arith, eq-eqb, ne_eqb}
use Rattle.std.proofs.lemmas.Bool.{cases_eq}
use Rattle.rv32_image.specs.Image.{IsImage, LoadedImage}
use Rattle.rv32_image.proofs.SmallFacts.{none_and_some, one_value}
use Rattle.rv32_exec.specs.declared.sequential.End.{End}
use Rattle.rv32_exec.specs.declared.sequential.End.TheVariants as end
use Rattle.rv32_exec.specs.Hart.{HartState}
use Rattle.rv32_exec.specs.Arrival.{Arrival}
use Rattle.run_ledger.specs.declared.counts.Counts.{Counts}
use Rattle.spec_history.specs.declared.entry.Entry.{Entry}
use Rattle.spec_history.specs.FlatState.{CoreState, FlatState, first_state}
use Rattle.spec_history.specs.Replay.{counts_of, replay, replay_from}
use Rattle.spec_history.proofs.Replay.Joining.{history_goes_on, no_entry}
use Rattle.spec_history.proofs.Replay.Reaching.{no_entries}
use Rattle.violations.specs.View.{IsSettled, StoreView, Waits as StoreWaits}
use Rattle.violations.specs.Calls.{Call}
use Rattle.homefree.specs.declared.answer.Answer.{Answer}
use Rattle.homefree.specs.declared.answer.Answer.TheVariants.{Go, Again, Left, Over, Stopped}
use Rattle.homefree.specs.declared.answer.Cause.{Cause}
use Rattle.homefree.specs.declared.fault.TurnFault.{TurnFault}
use Rattle.homefree.specs.Agrees.{Agrees}
use Rattle.homefree.specs.BookView.{BookView}
use Rattle.homefree.specs.Driven.{Driver, TurnedWith, arrival_of, with_held}
use Rattle.homefree.specs.InStep.{InStep}
use Rattle.homefree.specs.Turned.{Acting, Turned, turn_at}
use Rattle.homefree.specs.Turned as turn
use Rattle.homefree.proofs.SmallFacts.{held_here}
use Rattle.even_speed.specs.declared.clocks.Turn.{Turn}
use Rattle.even_speed.specs.declared.run.Ran.{Ran}
use Rattle.even_speed.specs.Clocks.{IsFirst, due_of, dues, late_clocks}
use Rattle.even_speed.specs.Even.{EndsOrGoes, Evenly, Pace, Pacing, at_first, clocks_after, go_answer, pace_after, prices_in, ran_at, restarts}
use Rattle.even_speed.specs.Held.{are_held, epoch_run, held_in, is_held, own_run}
use Rattle.even_speed.specs.Pricing.{over_at}
use Rattle.limits.specs.Bound.{NeverWaits}
use Rattle.limits.specs.HeldBound.{HasNoCaches, HoldsInOrder}
use Rattle.limits.proofs.Quiet.{After, AreQuiet, Began, Committed, Passed}
use Rattle.limits.proofs.QuietTurns.{ComesTo, Ended, Waited, acts}
use Rattle.limits.proofs.Bounding.{agrees_same, ended_at_first, not_fault, not_none, same_ran, settled_same}

-- ---- a run so far

pub record IsQuietRun (image : LoadedImage) (cores : ℕ) (history : List Entry) (v : StoreView) (s : FlatState) (held : ℕ → Option HartState) : Type 0 where
  pub reached : replay image cores history ≡ Some s
  -- the loop isn't over, or has no epochs
  pub ending : (e : End) → s.end ≡ Some e → image.epochs ≡ 0
  pub agrees : Agrees s v
  pub quiet : AreQuiet image s
  pub hands : (k : ℕ) (c : CoreState) → s.cores k ≡ Some c → held k ≡ Some c.hart

-- its next turn
pub record IsTurn {S : Type 0} (paced : Pacing S) (view : S → StoreView) (waits : S → StoreWaits) (old mid : Driver S) (p : Pace) (t : Turn) (s : FlatState) : Type 0 where
  pub is_image : IsImage old.book.image
  pub holds : HoldsInOrder old.book.image paced.holds
  pub run : IsQuietRun old.book.image old.book.cores old.book.history (view old.book.store) s p.held
  pub first : IsFirst p.free (prices_in paced.pricing waits old.book p.held) (dues (held_in paced.holds old.book p.held) p.clocks) old.book.cores t
  pub never : restarts old mid ≡ false

-- what else is kept of the run, and what it comes to at its end
pub record Keeps {S : Type 0} (paced : Pacing S) (view : S → StoreView) (waits : S → StoreWaits) (ran : Ran) (Extra : LoadedImage → ℕ → FlatState → Pace → Type 0)
    (Done : LoadedImage → ℕ → Type 0) : Type 0 where
  pub goes : (old mid : Driver S) (p : Pace) (t : Turn) (s u : FlatState) (entries : List Entry) (w : StoreView) (hart : HartState) → IsTurn paced view waits old mid p t s
      → s.end ≡ None → Extra old.book.image old.book.cores s p → After old.book.image old.book.cores t.core s u entries w
      → Began old.book.image s u t.core hart ⊎ Passed old.book.image s u t.core hart
      → Extra old.book.image old.book.cores u (pace_after old mid paced.queues p t (Go hart))
  pub waits_on : (old mid : Driver S) (p : Pace) (t : Turn) (s : FlatState) (cause : Cause) → IsTurn paced view waits old mid p t s → s.end ≡ None
      → Extra old.book.image old.book.cores s p → Waited old.book.image s t.core cause
      → Extra old.book.image old.book.cores s (pace_after old mid paced.queues p t (Again cause))
  pub leaves : (old mid : Driver S) (p : Pace) (t : Turn) (s u : FlatState) (entries : List Entry) (w : StoreView) → IsTurn paced view waits old mid p t s
      → s.end ≡ None → Extra old.book.image old.book.cores s p → After old.book.image old.book.cores t.core s u entries w
      → Committed old.book.image s u t.core → Extra old.book.image old.book.cores u (pace_after old mid paced.queues p t Left)
  pub ends : (old mid : Driver S) (p : Pace) (t : Turn) (s : FlatState) (entries : List Entry) (e : End) → IsTurn paced view waits old mid p t s
      → s.end ≡ None → Extra old.book.image old.book.cores s p → Ended old.book.image s t.core entries
      → ran ≡ ran_at old.book.cores (over_at p.free t.at t.price) (clocks_after old mid (late_clocks paced.queues p.clocks t) t (Over e)) e
      → Done old.book.image old.book.cores
  pub was_over : (old mid : Driver S) (p : Pace) (t : Turn) (s : FlatState) (e : End) → IsTurn paced view waits old mid p t s
      → s.end ≡ Some e → Extra old.book.image old.book.cores s p
      → ran ≡ ran_at old.book.cores (over_at p.free t.at t.price) (clocks_after old mid (late_clocks paced.queues p.clocks t) t (Over e)) e
      → Done old.book.image old.book.cores

no_counts_none : (counts_of []).restarts ≡ 0
unfolding counts_of
no_counts_none = refl

free_by : (b : Bool) (o : Option ℕ) (x : ℕ) → (if b then None else o) ≡ Some x → b ≡ false
free_by true o x is = absurd cc
free_by false o x is = refl

with_other : (held : ℕ → Option HartState) (core : ℕ) (now : Option HartState) (k : ℕ) → k ≢ core → with_held held core now k ≡ held k
with_other held core now k other = ap (λ (b : Bool). if b then now else held k) (ne_eqb k core other)

same_restarts : (a b n : ℕ) → b ≡ a + n → n ≡ 0 → not (b == a) ≡ false
same_restarts a b n sum none = let same : b ≡ a = omega (arith, sum, none) in ap (λ x. not x) (eq-eqb b a same)

module _ {S : Type 0} (makes : S → Call → S → Type 0) (view : S → StoreView) (waits : S → StoreWaits) (keeps : S → Type 0) (paced : Pacing S) (ran : Ran)
    (never : NeverWaits waits) (uncached : HasNoCaches view) (Extra : LoadedImage → ℕ → FlatState → Pace → Type 0) (Done : LoadedImage → ℕ → Type 0)
    (keeping : Keeps paced view waits ran Extra Done) where
  abbrev Runs : Pace → Driver S → List ℕ → Driver S → Type 0
  Runs p old schedule new = Evenly makes view waits keeps paced p old schedule (Ok (Some ran)) new

  settled_next : (schedule : List ℕ) (p : Pace) (old new : Driver S) → Runs p old schedule new → IsSettled (view old.book.store)
  settled_next [] p old new e = absurd (not_none ran e.1)
  settled_next (core ∷ rest) p old new (t, mid, answer, is, kept, first, turned, more) = kept.0

  abbrev Comes : Driver S → LoadedImage → ℕ → Type 0
  Comes new image cores = (new.book.totals.restarts ≡ 0) × Done image cores

  module _ (p : Pace) (old mid new : Driver S) (t : Turn) (rest : List ℕ) (s : FlatState) (x : IsQuietRun old.book.image old.book.cores old.book.history (view old.book.store) s p.held)
      (extra : Extra old.book.image old.book.cores s p) (is : IsImage old.book.image) (h : HoldsInOrder old.book.image paced.holds) (none : old.book.totals.restarts ≡ 0)
      (settled : IsSettled (view old.book.store))
      (first : IsFirst p.free (prices_in paced.pricing waits old.book p.held) (dues (held_in paced.holds old.book p.held) p.clocks) old.book.cores t)
      (rec : (q : Pace) (u : FlatState) → IsQuietRun mid.book.image mid.book.cores mid.book.history (view mid.book.store) u q.held → Extra mid.book.image mid.book.cores u q
      → IsImage mid.book.image → HoldsInOrder mid.book.image paced.holds → mid.book.totals.restarts ≡ 0 → Runs q mid rest new → Comes new mid.book.image mid.book.cores) where
    abbrev image : LoadedImage
    image = old.book.image

    abbrev cores : ℕ
    cores = old.book.cores

    abbrev Ends' : Result Answer TurnFault → Type 0
    Ends' answer = EndsOrGoes old mid paced.queues p t answer rest (Ok (Some ran)) new (Runs (pace_after old mid paced.queues p t (go_answer answer)) mid rest new)

    abbrev next : Option Arrival
    next = option_map (arrival_of image) (p.held t.core)

    abbrev Acts' : Result Answer TurnFault → Type 0
    Acts' answer = Acting view waits old.book mid.book s old.shares mid.shares t.core next answer

    abbrev pace : Answer → Pace
    pace answer = pace_after old mid paced.queues p t answer

    abbrev w : StoreView
    w = view mid.book.store

    hand : (c : CoreState) → s.cores t.core ≡ Some c → next ≡ Some (arrival_of image c.hart)
    hand c at = ap (option_map (arrival_of image)) (x.hands t.core c at)

    not_held : held_in paced.holds old.book p.held t.core ≡ false
    not_held = free_by (held_in paced.holds old.book p.held t.core) (due_of (p.clocks t.core).next) t.due first.due

    unheld : (c : CoreState) → s.cores t.core ≡ Some c → is_held paced.holds image s.homefree (Some c.epoch) c.own (Some c.hart) ≡ false
    unheld c at =
        let in_state = ap (λ o. are_held paced.holds image o p.held t.core) x.reached in
        let on_core = ap (λ o. is_held paced.holds image s.homefree (epoch_run o) (own_run o) (p.held t.core)) at in
        let free = ap (λ (b : Bool). is_held paced.holds image s.homefree (if b then None else Some c.epoch) c.own (p.held t.core)) (x.quiet t.core c at).unhurt in
        let in_hand = ap (λ o. is_held paced.holds image s.homefree (Some c.epoch) c.own o) (x.hands t.core c at) in
        sym in_hand ∙ (sym free ∙ (sym on_core ∙ (sym in_state ∙ not_held)))

    comes : (answer : Result Answer TurnFault) (a : Acts' answer) → ComesTo image cores t.core s a.reserved w a.out.entries a.out.answer
    comes answer a =
        acts (turn_at waits old.book s t.core next) paced.holds h a.reserved w old.book.history is x.reached a.may.going first.core
        (agrees_same s (view old.book.store) a.reserved a.same x.agrees) (settled_same (view old.book.store) a.reserved a.same settled)
        (a.same.cached ∙ uncached old.book.store) (never old.book.store) x.quiet hand unheld a.out a.acts

    -- no restart among its entries
    totals : (answer : Result Answer TurnFault) (a : Acts' answer) → mid.book.totals.restarts ≡ old.book.totals.restarts + (counts_of a.out.entries).restarts
    totals answer a = ap (λ (c : Counts). c.restarts) a.grows.totals

    its : (answer : Result Answer TurnFault) (a : Acts' answer) → (counts_of a.out.entries).restarts ≡ 0 → IsTurn paced view waits old mid p t s
    its answer a calm = record {
      is_image = is;
      holds = h;
      run = x;
      first = first;
      never = same_restarts old.book.totals.restarts mid.book.totals.restarts (counts_of a.out.entries).restarts (totals answer a) calm;
    }

    still_none : (answer : Result Answer TurnFault) (a : Acts' answer) → (counts_of a.out.entries).restarts ≡ 0 → mid.book.totals.restarts ≡ 0
    still_none answer a calm = let sum = totals answer a in omega (arith, sum, none, calm)

    -- the rest of the run
    carried : (answer : Result Answer TurnFault) (a : Acts' answer) (q : Pace) (u : FlatState) → (counts_of a.out.entries).restarts ≡ 0
        → IsQuietRun image cores (old.book.history ++ a.out.entries) w u q.held → Extra image cores u q → Runs q mid rest new → Comes new image cores
    carried answer a q u calm y ex e =
        let g = a.grows in
        let there : IsQuietRun mid.book.image mid.book.cores mid.book.history w u q.held =
        subst (λ xs. IsQuietRun mid.book.image mid.book.cores xs w u q.held) (sym g.history)
        (subst (λ n. IsQuietRun mid.book.image n (old.book.history ++ a.out.entries) w u q.held) (sym g.cores)
        (subst (λ i. IsQuietRun i cores (old.book.history ++ a.out.entries) w u q.held) (sym g.image) y)) in
        let ex' : Extra mid.book.image mid.book.cores u q = subst (λ n. Extra mid.book.image n u q) (sym g.cores) (subst (λ i. Extra i cores u q) (sym g.image) ex) in
        subst (λ i. Comes new i cores) g.image (subst (λ n. Comes new mid.book.image n) g.cores
        (rec q u there ex' (subst IsImage (sym g.image) is) (subst (λ i. HoldsInOrder i paced.holds) (sym g.image) h) (still_none answer a calm) e))

    hands_go : (hart : HartState) (u : FlatState) (now : CoreState) → u.cores t.core ≡ Some now → now.hart ≡ hart → ((k : ℕ) → k ≢ t.core → u.cores k ≡ s.cores k)
        → (k : ℕ) (c : CoreState) → u.cores k ≡ Some c → with_held p.held t.core (Some hart) k ≡ Some c.hart
    hands_go hart u now runs hart_is others k c at = elim (cases_eq k t.core) [
      | inl e ↦
          (let same = one_value (u.cores t.core) now c runs (ap u.cores (sym e) ∙ at) in
          ap (with_held p.held t.core (Some hart)) e ∙ (held_here p.held t.core (Some hart) ∙ (ap Some (sym hart_is) ∙ ap (λ (d : CoreState). Some d.hart) same)))
      | inr other ↦ with_other p.held t.core (Some hart) k other ∙ x.hands k c (sym (others k other) ∙ at)
    ]

    went : (answer : Result Answer TurnFault) (a : Acts' answer) (now : Answer) (u : FlatState) → After image cores t.core s u a.out.entries w
        → ((k : ℕ) (c : CoreState) → u.cores k ≡ Some c → (pace now).held k ≡ Some c.hart) → IsQuietRun image cores (old.book.history ++ a.out.entries) w u (pace now).held
    went answer a now u after hands = record {
      reached = history_goes_on image cores old.book.history a.out.entries s u x.reached after.replays;
      ending = λ e some. absurd (none_and_some u.end e after.going some);
      agrees = after.agrees;
      quiet = after.quiet;
      hands = hands;
    }

    hand_of : (hart : HartState) (u : FlatState) → Began image s u t.core hart ⊎ Passed image s u t.core hart → (now : CoreState) × (u.cores t.core ≡ Some now) × (now.hart ≡ hart)
    hand_of hart u (inl b) = (_, b.runs, sym b.hart_is)
    hand_of hart u (inr b) = (b.now, b.runs, b.hart_is)

    by_answer : (answer : Result Answer TurnFault) (a : Acts' answer) (y : Answer) → a.out.answer ≡ y → Ends' (Ok y) → Comes new image cores
    by_answer answer a (Go hart) e more =
        let g = subst (ComesTo image cores t.core s a.reserved w a.out.entries) e (comes answer a) in
        let now = hand_of hart g.0 g.2 in
        carried answer a (pace (Go hart)) g.0 g.1.calm (went answer a (Go hart) g.0 g.1 (hands_go hart g.0 now.0 now.1 now.2 g.1.others))
        (keeping.goes old mid p t s g.0 a.out.entries w hart (its answer a g.1.calm) a.may.going extra g.1 g.2) more
    by_answer answer a (Again cause) e more =
        let g = subst (ComesTo image cores t.core s a.reserved w a.out.entries) e (comes answer a) in
        let calm : (counts_of a.out.entries).restarts ≡ 0 = ap (λ xs. (counts_of xs).restarts) g.0 ∙ no_counts_none in
        carried answer a (pace (Again cause)) s calm (record {
          reached = history_goes_on image cores old.book.history a.out.entries s s x.reached (subst (λ xs. replay_from image cores s xs ≡ Some s) (sym g.0) (no_entry image cores s));
          ending = x.ending;
          agrees = subst (Agrees s) (sym g.1) (agrees_same s (view old.book.store) a.reserved a.same x.agrees);
          quiet = x.quiet;
          hands = λ k c at. elim (cases_eq k t.core) [
            | inl same ↦ ap (with_held p.held t.core (p.held t.core)) same ∙ (held_here p.held t.core (p.held t.core) ∙ (ap p.held (sym same) ∙ x.hands k c at))
            | inr other ↦ with_other p.held t.core (p.held t.core) k other ∙ x.hands k c at
          ];
        }) (keeping.waits_on old mid p t s cause (its answer a calm) a.may.going extra g.2) more
    by_answer answer a Left e more =
        let g = subst (ComesTo image cores t.core s a.reserved w a.out.entries) e (comes answer a) in
        carried answer a (pace Left) g.0 g.1.calm (went answer a Left g.0 g.1 (λ k c at. elim (cases_eq k t.core) [
          | inl same ↦ absurd (none_and_some (g.0.cores k) c (ap g.0.cores same ∙ g.2.idle) at)
          | inr other ↦ with_other p.held t.core None k other ∙ x.hands k c (sym (g.1.others k other) ∙ at)
        ])) (keeping.leaves old mid p t s g.0 a.out.entries w (its answer a g.1.calm) a.may.going extra g.1 g.2) more
    by_answer answer a (Over over) e more =
        let g = subst (ComesTo image cores t.core s a.reserved w a.out.entries) e (comes answer a) in (
          ap (λ (d : Driver S). d.book.totals.restarts) more.1 ∙ still_none answer a g.calm,
          keeping.ends old mid p t s a.out.entries over (its answer a g.calm) a.may.going extra g (same_ran ran _ more.2),
        )
    by_answer answer a (Stopped cause) e more = absurd (not_none ran more.2)

    by_turned : (answer : Result Answer TurnFault) → Turned view waits old.book s old.shares t.core next answer mid.book mid.shares → Ends' answer → Comes new image cores
    by_turned answer (turn.over o same held) more =
        let end = subst Ends' o.answer_is more in
        let here : mid.book.totals.restarts ≡ old.book.totals.restarts = ap (λ (b : BookView S). b.totals.restarts) same in (
          ap (λ (d : Driver S). d.book.totals.restarts) end.1 ∙ (here ∙ none),
          keeping.was_over old mid p t s o.end (record {
            is_image = is;
            holds = h;
            run = x;
            first = first;
            never = same_restarts old.book.totals.restarts mid.book.totals.restarts 0 (omega (arith, here)) refl;
          }) o.over extra (same_ran ran _ end.2),
        )
    by_turned answer (turn.stopped o same held) more = absurd (not_none ran (subst Ends' o.answer_is more).2)
    by_turned answer (turn.full o same held) more = absurd (not_fault ran _ (subst Ends' o.answer_is more).2)
    by_turned answer (turn.no_memory may same grows fault) more = absurd (not_fault ran _ (subst Ends' fault more).2)
    by_turned answer (turn.acts a) more = by_answer answer a a.out.answer refl (subst Ends' a.answer_is more)

    taken : (answer : Result Answer TurnFault) → TurnedWith makes view waits old t.core (p.held t.core) answer mid → Ends' answer → Comes new image cores
    taken answer turned more =
        let same = one_value (replay image cores old.book.history) turned.state s turned.replays x.reached in
        by_turned answer (subst (λ z. Turned view waits old.book z old.shares t.core next answer mid.book mid.shares) same turned.turns.turned) more

  pub runs_to : (schedule : List ℕ) (p : Pace) (old new : Driver S) (s : FlatState) → IsQuietRun old.book.image old.book.cores old.book.history (view old.book.store) s p.held
      → Extra old.book.image old.book.cores s p → IsImage old.book.image → HoldsInOrder old.book.image paced.holds → old.book.totals.restarts ≡ 0 → Runs p old schedule new
      → Comes new old.book.image old.book.cores
  runs_to [] p old new s x extra is h none e = absurd (not_none ran e.1)
  runs_to (core ∷ rest) p old new s x extra is h none (t, mid, answer, same, kept, first, turned, more) =
      taken p old mid new t rest s x extra is h none kept.0 first (λ q u y ex image holds still e. runs_to rest q mid new u y ex image holds still e) answer turned more

-- ---- from the start

pub quiet_at_first : {S : Type 0} (view : S → StoreView) (b : BookView S) → InStep view b → b.history ≡ []
    → IsQuietRun b.image b.cores b.history (view b.store) (first_state b.image) at_first.held
quiet_at_first view b i none =
    let reached : replay b.image b.cores b.history ≡ Some (first_state b.image) = ap (replay b.image b.cores) none ∙ no_entries b.image b.cores in
    let same = one_value (replay b.image b.cores b.history) i.state (first_state b.image) i.replays reached in record {
      reached = reached;
      ending = λ e some. ended_at_first b.image (0 == b.image.epochs) e (end.Done 0) refl some;
      agrees = subst (λ s. Agrees s (view b.store)) same i.agrees;
      quiet = λ k c is. absurd (none_and_some None c refl is);
      hands = λ k c is. absurd (none_and_some None c refl is);
    }

pub no_restarts : {S : Type 0} (view : S → StoreView) (b : BookView S) → InStep view b → b.history ≡ [] → b.totals.restarts ≡ 0
no_restarts view b i none = ap (λ (c : Counts). c.restarts) i.counted ∙ (ap (λ xs. (counts_of xs).restarts) none ∙ no_counts_none)
