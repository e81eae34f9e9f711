-- The homefree core publishes unless it is straight, and accesses memory straight: two batches of hurts, in one case of the
-- turn.
use Rattle.std.proofs.Common.{◌≡◌, ◌≤◌, ◌+◌, ◌*◌, ℕ, Bool, true, false, cond, List, [], ◌++◌, length, Option, Some, None, IsSome, true≢false, vec_len, vec_capacity, refl, sym, ap, subst, ◌∙◌, inl, inr, arith, eq-eqb, ne_eqb}
use Rattle.std.proofs.Math.Path.{fun_ext}
use Rattle.std.proofs.lemmas.Bool.{cases_eq, false_from_ne_true}
use Rattle.std.proofs.lemmas.List.{length-append}
use Rattle.memory_bytes.specs.Maps.{nothing}
use Rattle.rv32_exec.specs.declared.stop.Stop.{Stop}
use Rattle.rv32_exec.specs.declared.stop.Stop.TheVariants as stop
use Rattle.rv32_exec.specs.Arrival.{Arrival, after_loading}
use Rattle.rv32_exec.specs.Hart.{HartState, stepped}
use Rattle.run_ledger.specs.declared.counts.Counts.{Counts}
use Rattle.run_ledger.specs.Counts.{no_counts}
use Rattle.spec_history.specs.declared.entry.Entry.{Entry}
use Rattle.spec_history.specs.declared.entry.What.{What}
use Rattle.spec_history.specs.declared.entry.What.TheVariants.{Load, Store, Hurt, Publish}
use Rattle.spec_history.specs.FlatState.{CoreState, FlatState}
use Rattle.spec_history.specs.Effect.{by_core, effect_on, with_core}
use Rattle.violations.specs.View.{StoreView, Waits, IsSettled}
use Rattle.violations.specs.Rule.{HurtsLater, IsHurt, Publishes, LoadsStraight, StoresStraight}
use Rattle.homefree.specs.declared.answer.Answer.TheVariants.{Go}
use Rattle.homefree.specs.declared.register.Register.{Register}
use Rattle.homefree.specs.declared.register.Running.{Running}
use Rattle.homefree.specs.Acted.{Acted, AreFew, turn_of}
use Rattle.homefree.specs.Arms.{RunsEpoch, WentStraight, publish_noted}
use Rattle.homefree.specs.AtStop.{IsAtStop}
use Rattle.homefree.specs.Hurts.{entry, entry_for_each, hurts, hurt_if, with_hurts, epoch_on}
use Rattle.homefree.specs.Kept.{Shows, running_at}
use Rattle.homefree.specs.Noted.{epoch_in, hurts_noted}
use Rattle.homefree.specs.Steps.{Steps}
use Rattle.homefree.specs.Turned as turn
use Rattle.homefree.specs.Turned.{does, publishes_unless}
use Rattle.homefree.proofs.State.Arms as arm
use Rattle.homefree.proofs.State.Ends.{hurt_epoch}
use Rattle.homefree.proofs.Fields.Steps.{steps_none, steps_then}
use Rattle.homefree.proofs.Fields.Noting.{hart_is, stored_is}
use Rattle.homefree.proofs.Fields.Batches.{batches_fewer, epochs_same, hurts_same}
use Rattle.homefree.proofs.Fields.Hurting.{hurts_fewer}
use Rattle.homefree.proofs.Cases.Standing.{Stands, stands, is_at, event_is, homefree_is}
use Rattle.homefree.proofs.Cases.Acting.{fits_then, acted_by}
use Rattle.homefree.proofs.Cases.Accessing.{one_more_entry}

-- ---- the publish

straight_same : (now : Running) → now.straight ≡ true → now ≡ record now { straight = true }
straight_same now is = ap (λ b. let x : Running = record now { straight = b } in x) is

pub was_straight : (old : Register) (v : StoreView) (core : ℕ) (now : Running) → RunsEpoch old v core now → now.straight ≡ true → WentStraight old old v v core now now
was_straight old v core now runs is = record {
  hurt = λ _. false;
  publishes = rw is (refl, λ k. refl);
  shape = refl;
  steps = λ shares. rw is (steps_none old shares);
  epochs = λ k. refl;
  running = runs;
  after_is = straight_same now is;
  short = rw is (omega arith);
}

-- a core that publishes keeps its epoch, and so do those that are hurt
pub published_epoch : (hurt : ℕ → Bool) (cores : ℕ → Option CoreState) (core : ℕ) (c new : CoreState) → cores core ≡ Some c → new.epoch ≡ c.epoch
    → (k : ℕ) → epoch_on (with_core (λ j. hurt_if (hurt j) (cores j)) core (Some new)) k ≡ epoch_on cores k
published_epoch hurt cores core c new at same k = elim (cases_eq k core) [
  | inl e ↦ ap (λ b. by_core (cond b (Some new) (hurt_if (hurt k) (cores k))) 0 (λ x. x.epoch)) (eq-eqb k core e)
      ∙ (same ∙ ap (λ o. by_core o 0 (λ x. x.epoch)) (sym (ap cores e ∙ at)))
  | inr other ↦ ap (λ b. by_core (cond b (Some new) (hurt_if (hurt k) (cores k))) 0 (λ x. x.epoch)) (ne_eqb k core other) ∙ hurt_epoch (hurt k) (cores k)
]

pub went_straight : (old mid : Register) (v x : StoreView) (core : ℕ) (now after : Running) (hurt : ℕ → Bool) (runs : RunsEpoch old v core now) → now.straight ≡ false → now.epoch ≡ old.homefree
    → Publishes v x core hurt → IsSettled x
    → ((shares : Counts) → Steps old mid shares shares (hurts_noted core hurt old.running.items (length old.running.items) ++ entry core Publish))
    → running_at mid.running.items core ≡ Some (record now { straight = true }) → after ≡ record now { straight = true }
    → WentStraight old mid v x core now after
went_straight old mid v x core now after hurt runs speculates homefree p settled steps there is =
    let f = runs.fits in
    let s = f.state in
    let st = stands old v core now runs in
    let count = length old.running.items in
    let free : st.c.straight ≡ false = ap (λ (y : Running). y.straight) st.is ∙ speculates in
    let t = effect_on old.image (with_hurts hurt s) core st.c Publish in
    let comes = arm.publishes old.image count s v core st.c st.going st.kept f.agrees st.at st.unhurt x hurt (p.shape, p.cached) p.others settled free (homefree_is old v core now f st homefree) p in
    let noted = subst (λ xs. Steps old mid no_counts no_counts (xs ++ entry core Publish)) (hurts_same old s core hurt f.shows) (steps no_counts) in
    let shows : Shows mid t = noted.follows s t f.is_image (record { entries = old.history.items; replays = f.replays }) f.shows comes.replays in
    let new : CoreState = record st.c { own = nothing; outside = nothing; straight = true } in record {
      hurt = hurt;
      publishes = rw speculates p;
      shape = p.shape;
      steps = λ shares. rw speculates (steps shares);
      epochs = λ k. ap (λ (e : ℕ → ℕ). e k) (epochs_same mid t shows) ∙ (published_epoch hurt s.cores core st.c new st.at refl k ∙ ap (λ (e : ℕ → ℕ). e k) (sym (epochs_same old s f.shows)));
      running = record {
        there = rw noted.cores runs.there;
        fits = fits_then old mid v x no_counts no_counts (hurts count s core hurt ++ entry core Publish) t f noted comes p.shape;
        going = shows.end ∙ st.going;
        runs = there ∙ ap Some (sym is);
        unhurt = ap (λ (y : Running). y.hurt) is ∙ runs.unhurt;
      };
      after_is = is;
      short = rw speculates (one_more_entry _ core Publish count (hurts_fewer old core hurt p.others.not_itself runs.there));
    }

-- ---- then the access

-- it is at the same stop
pub at_after : (old mid : Register) (v x : StoreView) (core : ℕ) (now after : Running) (arrived : Arrival) (at : Stop) → WentStraight old mid v x core now after → IsAtStop old core now arrived at
    → IsAtStop mid core after arrived at
at_after old mid v x core now after arrived at g is_at =
    let image = (g.steps no_counts).image in record {
      runs = g.running.runs;
      unhurt = g.running.unhurt;
      base = is_at.base ∙ sym (ap (λ (y : Running). y.hart) g.after_is);
      hart = rw image is_at.hart;
      event = rw image is_at.event;
      is = is_at.is;
    }

pub room_of_other : (old mid : Register) (v x : StoreView) (core : ℕ) (now after : Running) → WentStraight old mid v x core now after
    → vec_len old.history + 2 * length old.running.items ≤ vec_capacity old.history → vec_len mid.history + length mid.running.items ≤ vec_capacity mid.history
room_of_other old mid v x core now after g room =
    let steps = g.steps no_counts in
    let used = steps.used in
    let grown = steps.room in
    let short = g.short in
    let cores = steps.cores in
    rw cores (omega (arith, used, grown, short, room))

module _ (waits : Waits) (old mid : Register) (v x : StoreView) (core : ℕ) (now after : Running) (runs : RunsEpoch old v core now) (homefree : now.epoch ≡ old.homefree) (g : WentStraight old mid v x core now after) where
  abbrev s : FlatState
  s = runs.fits.state

  abbrev count : ℕ
  count = length old.running.items

  abbrev st : Stands old v core now runs.fits
  st = stands old v core now runs

  -- the second batch is named by the same epochs
  later_hurts : (hurt : ℕ → Bool) → hurts_noted core hurt mid.running.items (length mid.running.items) ≡ hurts count s core hurt
  later_hurts hurt =
      ap (entry_for_each core hurt (λ k. Hurt (epoch_in mid.running.items k))) (g.steps no_counts).cores
      ∙ (ap (λ (e : ℕ → ℕ). entry_for_each core hurt (λ k. Hurt (e k)) count) (fun_ext g.epochs) ∙ hurts_same old s core hurt runs.fits.shows)

  same_straight : now.straight ≡ st.c.straight
  same_straight = ap (λ (y : Running). y.straight) (sym st.is)

  first_hurts : (next : Option Arrival) → publish_noted old core now g.hurt ≡ turn.publish_of (turn_of old waits s core next) st.c g.hurt
  first_hurts next =
      ap (λ b. cond b [] (hurts_noted core g.hurt old.running.items count ++ entry core Publish)) same_straight
      ∙ ap (λ (xs : List Entry). cond st.c.straight [] (xs ++ entry core Publish)) (hurts_same old s core g.hurt runs.fits.shows)

  abbrev entries : Option Arrival → (ℕ → Bool) → What → List Entry
  entries next hurt what = turn.publish_of (turn_of old waits s core next) st.c g.hurt ++ (hurts count s core hurt ++ entry core what)

  steps_both : (new : Register) (shares shares' : Counts) (next : Option Arrival) (hurt : ℕ → Bool) (what : What)
      → Steps mid new shares shares' (hurts_noted core hurt mid.running.items (length mid.running.items) ++ entry core what) → Steps old new shares shares' (entries next hurt what)
  steps_both new shares shares' next hurt what steps =
      subst (λ xs. Steps old new shares shares' (xs ++ (hurts count s core hurt ++ entry core what))) (first_hurts next)
      (subst (λ xs. Steps old new shares shares' (publish_noted old core now g.hurt ++ (xs ++ entry core what))) (later_hurts hurt)
      (steps_then old mid new shares shares shares' _ _ (g.steps shares) steps))

  -- who was hurt by the publish has no attempt that the access could hurt
  hurt_once : (w : StoreView) (hurt : ℕ → Bool) → HurtsLater x w core hurt → (k : ℕ) → g.hurt k ≡ true → hurt k ≡ false
  hurt_once w hurt others k first = false_from_ne_true (hurt k) (λ later. twice (first_hurt now.straight g.publishes) (others.hurts k later))
    where
      twice : x.attempt k ≡ None → IsHurt x w core k → ⊥
      twice none again = let had = again.had in cc

      first_hurt : (b : Bool) → publishes_unless b v x core g.hurt → x.attempt k ≡ None
      first_hurt true p = let none = p.1 k in absurd (true≢false (sym first ∙ none))
      first_hurt false p = (p.others.hurts k first).none

  spared_first : (b : Bool) → publishes_unless b v x core g.hurt → g.hurt core ≡ false
  spared_first true p = p.1 core
  spared_first false p = p.others.not_itself

  publish_short : (b : Bool) (xs : List Entry) → length (cond b [] (xs ++ entry core Publish)) ≤ length xs + 1
  publish_short true xs = omega arith
  publish_short false xs = rw (length-append xs (entry core Publish)) (omega arith)

  short_both : (next : Option Arrival) (w : StoreView) (hurt : ℕ → Bool) (what : What) → HurtsLater x w core hurt → AreFew (length (entries next hurt what)) count
  short_both next w hurt what others =
      let fewer = batches_fewer core g.hurt hurt (λ k. Hurt (epoch_on s.cores k)) (λ k. Hurt (epoch_on s.cores k)) count core (hurt_once w hurt others)
      (spared_first now.straight g.publishes) others.not_itself runs.there in
      let first = publish_short st.c.straight (hurts count s core g.hurt) in
      inl (rw (length-append (turn.publish_of (turn_of old waits s core next) st.c g.hurt) (hurts count s core hurt ++ entry core what), length-append (hurts count s core hurt) (entry core what))
      (omega (arith, first, fewer)))

  publishing : (arrived : Arrival) (at : Stop) → IsAtStop old core now arrived at → turn.Publishing (turn_of old waits s core (Some arrived)) st.c at v x g.hurt
  publishing arrived at at_stop = record {
    is_at = is_at old v core now arrived at runs.fits st at_stop;
    homefree = homefree_is old v core now runs.fits st homefree;
    publishes = subst (λ b. publishes_unless b v x core g.hurt) same_straight g.publishes;
  }

  abbrev then_at : Stands mid x core after g.running.fits
  then_at = stands mid x core after g.running

  is_straight : then_at.c.straight ≡ true
  is_straight = ap (λ (y : Running). y.straight) (then_at.is ∙ g.after_is)

  later_noted : (new : Register) (shares shares' : Counts) (hurt : ℕ → Bool) (what : What) → Steps mid new shares shares' (hurts_noted core hurt mid.running.items (length mid.running.items) ++ entry core what)
      → Steps mid new shares shares' (hurts (length mid.running.items) g.running.fits.state core hurt ++ entry core what)
  later_noted new shares shares' hurt what steps = subst (λ xs. Steps mid new shares shares' (xs ++ entry core what)) (hurts_same mid g.running.fits.state core hurt g.running.fits.shows) steps

  pub loaded_straight : (new : Register) (w : StoreView) (shares shares' : Counts) (arrived : Arrival) (address width value : ℕ) (signed : Bool) (rd : ℕ) (hurt : ℕ → Bool) (hart : HartState)
      → IsAtStop old core now arrived (stop.Load address width signed rd) → (now.straight ≡ false → IsSome (waits.load core address width)) → IsSettled w → LoadsStraight x w core address width value hurt → hart ≡ after_loading arrived value
      → Steps mid new shares shares' (hurts_noted core hurt mid.running.items (length mid.running.items) ++ entry core (Load address width value))
      → Acted old new waits v w shares shares' core (Some arrived) (Go hart)
  loaded_straight new w shares shares' arrived address width value signed rd hurt hart at waiting settled l hart_at steps =
      let at_mid = at_after old mid v x core now after arrived (stop.Load address width signed rd) g at in
      let event = event_is mid core after arrived (stop.Load address width signed rd) then_at.c at_mid then_at.is in
      let comes = arm.loads_straight mid.image (length mid.running.items) g.running.fits.state x core then_at.c then_at.going then_at.kept g.running.fits.agrees then_at.at then_at.unhurt
      w hurt (l.shape, l.cached) l.others address width value signed rd settled is_straight event l in
      acted_by old new v w shares shares' core (Some arrived) (Go hart) (entries (Some arrived) hurt (Load address width value)) runs.fits
      (steps_both new shares shares' (Some arrived) hurt (Load address width value) steps) (short_both (Some arrived) w hurt (Load address width value) l.others)
      (fits_then mid new x w shares shares' _ _ g.running.fits (later_noted new shares shares' hurt (Load address width value) steps) comes l.shape)
      (turn.follows (turn.loads_straight (record {
        core = st.c;
        address = address;
        width = width;
        rd = rd;
        value = value;
        signed = signed;
        between = x;
        first = g.hurt;
        hurt = hurt;
        comes = publishing arrived (stop.Load address width signed rd) at;
        waits = λ is. waiting (same_straight ∙ is);
        store = l;
        out_is = ap (λ h. does (entries (Some arrived) hurt (Load address width value)) (Go h)) (hart_at ∙ hart_is old core now arrived (stop.Load address width signed rd) st.c value at st.is);
      })))

  pub stored_straight : (new : Register) (w : StoreView) (shares shares' : Counts) (arrived : Arrival) (address width value : ℕ) (hurt : ℕ → Bool) (hart : HartState)
      → IsAtStop old core now arrived (stop.Store address width value) → (now.straight ≡ false → IsSome (waits.store core address width)) → IsSettled w → StoresStraight x w core address width value hurt → hart ≡ stepped arrived.now
      → Steps mid new shares shares' (hurts_noted core hurt mid.running.items (length mid.running.items) ++ entry core (Store address width value))
      → Acted old new waits v w shares shares' core (Some arrived) (Go hart)
  stored_straight new w shares shares' arrived address width value hurt hart at waiting settled l hart_at steps =
      let at_mid = at_after old mid v x core now after arrived (stop.Store address width value) g at in
      let event = event_is mid core after arrived (stop.Store address width value) then_at.c at_mid then_at.is in
      let comes = arm.stores_straight mid.image (length mid.running.items) g.running.fits.state x core then_at.c then_at.going then_at.kept g.running.fits.agrees then_at.at then_at.unhurt
      w hurt (l.shape, l.cached) l.others address width value settled is_straight event l in
      acted_by old new v w shares shares' core (Some arrived) (Go hart) (entries (Some arrived) hurt (Store address width value)) runs.fits
      (steps_both new shares shares' (Some arrived) hurt (Store address width value) steps) (short_both (Some arrived) w hurt (Store address width value) l.others)
      (fits_then mid new x w shares shares' _ _ g.running.fits (later_noted new shares shares' hurt (Store address width value) steps) comes l.shape)
      (turn.follows (turn.stores_straight (record {
        core = st.c;
        address = address;
        width = width;
        value = value;
        between = x;
        first = g.hurt;
        hurt = hurt;
        comes = publishing arrived (stop.Store address width value) at;
        waits = λ is. waiting (same_straight ∙ is);
        store = l;
        out_is = ap (λ h. does (entries (Some arrived) hurt (Store address width value)) (Go h)) (hart_at ∙ stored_is old core now arrived (stop.Store address width value) st.c at st.is);
      })))
