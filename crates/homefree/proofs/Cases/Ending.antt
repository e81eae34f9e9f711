-- From what the register noted of an epoch that ended or faulted and what the store did to a case of the turn.
use Rattle.std.proofs.Common.{◌≡◌, ◌≢◌, ◌≤◌, ◌<◌, ◌+◌, ◌*◌, ◌^◌, ℕ, Bool, true, false, cond, List, [], ◌++◌, length, Some, vec_len, vec_capacity, refl, sym, ap, subst, ◌∙◌, arith}
use Rattle.rv32_exec.specs.declared.stop.Stop.{Stop}
use Rattle.rv32_exec.specs.declared.stop.Stop.TheVariants as stop
use Rattle.rv32_exec.specs.declared.sequential.End.TheVariants as end
use Rattle.rv32_exec.specs.Arrival.{Arrival}
use Rattle.rv32_exec.specs.Hart.{HartState}
use Rattle.rv32_exec.specs.NextEvent.{next_event}
use Rattle.rv32_exec.specs.Sequential.{exits}
use Rattle.rv32_image.specs.Image.{LoadedImage}
use Rattle.run_ledger.specs.declared.counts.Counts.{Counts}
use Rattle.run_ledger.specs.Counts.{no_counts}
use Rattle.spec_history.specs.declared.entry.Entry.{Entry}
use Rattle.spec_history.specs.declared.entry.What.TheVariants.{Hurt, Commit, Fault}
use Rattle.spec_history.specs.FlatState.{FlatState, end_at, end_after}
use Rattle.spec_history.specs.Effect.{effect_on}
use Rattle.violations.specs.View.{StoreView, Waits, Runs, epoch_of}
use Rattle.violations.specs.Rule.{Publishes, Ends}
use Rattle.homefree.specs.declared.answer.Answer.{Answer}
use Rattle.homefree.specs.declared.answer.Answer.TheVariants.{Again, Over}
use Rattle.homefree.specs.declared.answer.Cause.TheVariants.{NotHomefree}
use Rattle.homefree.specs.declared.register.Register.{Register}
use Rattle.homefree.specs.declared.register.Running.{Running}
use Rattle.homefree.specs.Acted.{Acted, turn_of}
use Rattle.homefree.specs.Arms.{RunsEpoch, Arrives, Settled}
use Rattle.homefree.specs.AtStop.{IsAtStop}
use Rattle.homefree.specs.Hurts.{entry, hurts, with_hurts}
use Rattle.homefree.specs.Kept.{Shows, running_at}
use Rattle.homefree.specs.Noted.{epoch_in, hurts_noted}
use Rattle.homefree.specs.Steps.{Steps}
use Rattle.homefree.specs.Turned as turn
use Rattle.homefree.specs.Turned.{does, publishes_unless, left_or_over}
use Rattle.homefree.proofs.State.Arms.{none_among}
use Rattle.homefree.proofs.State.Ends as ends
use Rattle.homefree.proofs.State.Ends.{HasPublished, has_published}
use Rattle.homefree.proofs.Fields.Steps.{steps_none, steps_then}
use Rattle.homefree.proofs.Fields.Noting.{now_is}
use Rattle.homefree.proofs.Fields.Batches.{hurts_same}
use Rattle.homefree.proofs.Fields.Hurting.{hurts_fewer}
use Rattle.homefree.proofs.Cases.Standing.{Stands, stands, is_at, homefree_is, runs_by}
use Rattle.homefree.proofs.Cases.Acting.{acted, acted_nothing}
use Rattle.homefree.proofs.Cases.Accessing.{one_more_entry, are_few}

-- ---- an epoch that isn't the homefree one

pub too_early : {waits : Waits} {budget : ℕ} (old : Register) (v : StoreView) (shares : Counts) (core : ℕ) (now : Running) (arrived : Arrival) (at : Stop)
    → Arrives old v budget shares core now arrived at → turn.IsEnd at → now.epoch ≢ old.homefree
    → Acted old old waits v v shares shares core (Some arrived) (Again NotHomefree)
too_early old v shares core now arrived at a ends later =
    let f = a.running.fits in
    let st = stands old v core now a.running in
    acted_nothing old v shares core (Some arrived) (Again NotHomefree) f
    (turn.follows (turn.is_early (record {
      core = st.c;
      at = at;
      comes = is_at old v core now arrived at f st a.is_at;
      ends = ends;
      later = λ same. later (ap (λ (x : Running). x.epoch) (sym st.is) ∙ (same ∙ sym f.shows.homefree));
      store = refl;
      out_is = refl;
    })))

-- ---- the publish, where the core isn't straight

pub was_settled : (old : Register) (v : StoreView) (core : ℕ) (now : Running) → RunsEpoch old v core now → now.straight ≡ true → Settled old old v v core now
was_settled old v core now runs is =
    let none : hurts_noted core (λ _. false) old.running.items (length old.running.items) ≡ [] = none_among core (λ k. Hurt (epoch_in old.running.items k)) (length old.running.items) in record {
      hurt = λ _. false;
      publishes = rw is (refl, λ k. refl);
      steps = λ shares. subst (λ xs. Steps old old shares shares xs) (sym none) (steps_none old shares);
      runs = runs.runs;
      short = let there = runs.there in subst (λ (xs : List Entry). length xs < length old.running.items) (sym none) (omega (arith, there));
    }

pub settled : (old mid : Register) (v x : StoreView) (core : ℕ) (now : Running) (hurt : ℕ → Bool) → RunsEpoch old v core now → now.straight ≡ false → Publishes v x core hurt
    → ((shares : Counts) → Steps old mid shares shares (hurts_noted core hurt old.running.items (length old.running.items)))
    → ((k : ℕ) → hurt k ≡ false → running_at mid.running.items k ≡ running_at old.running.items k)
    → Settled old mid v x core now
settled old mid v x core now hurt runs speculates p steps spared = record {
  hurt = hurt;
  publishes = rw speculates p;
  steps = steps;
  runs = spared core p.others.not_itself ∙ runs.runs;
  short = hurts_fewer old core hurt p.others.not_itself runs.there;
}

-- ---- the homefree epoch's end

shape_by : (v x : StoreView) (core : ℕ) (hurt : ℕ → Bool) (b : Bool) → publishes_unless b v x core hurt → x.shape ≡ v.shape
shape_by v x core hurt true p = ap (λ (y : StoreView). y.shape) p.0
shape_by v x core hurt false p = p.shape

runs_straight : (v x : StoreView) (core : ℕ) (hurt : ℕ → Bool) (b : Bool) → publishes_unless b v x core hurt → Runs v core b → Runs x core true
runs_straight v x core hurt true p runs = subst (λ (y : StoreView). Runs y core true) (sym p.0) runs
runs_straight v x core hurt false p runs = record { epoch = epoch_of (v.attempt core); is = p.attempt }

pub small_homefree : (old : Register) (v : StoreView) (core : ℕ) (now : Running) → RunsEpoch old v core now → old.homefree < 2 ^ 16
small_homefree old v core now runs =
    let f = runs.fits in
    let kept = (stands old v core now runs).kept in
    let is = f.shows.homefree in
    let first = kept.homefree_started in
    let last = kept.started in
    let most = f.is_image.epochs_most in
    omega (arith, is, first, last, most)

-- the answer after a commit that doesn't exit
stays_answer : (image : LoadedImage) (h : HartState) (epoch : ℕ) → exits image h ≡ false → end_after image h epoch ≡ end_at image (epoch + 1)
stays_answer image h epoch stays = ap (λ b. cond b (Some (end.Exit epoch)) (end_at image (epoch + 1))) stays

pub exit_answer : (image : LoadedImage) (h : HartState) (epoch : ℕ) → exits image h ≡ true → end_after image h epoch ≡ Some (end.Exit epoch)
exit_answer image h epoch leaves = ap (λ b. cond b (Some (end.Exit epoch)) (end_at image (epoch + 1))) leaves

module _ (old mid : Register) (v x : StoreView) (core : ℕ) (now : Running) (runs : RunsEpoch old v core now) (homefree : now.epoch ≡ old.homefree) (g : Settled old mid v x core now) where
  abbrev s : FlatState
  s = runs.fits.state

  abbrev count : ℕ
  count = length old.running.items

  abbrev st : Stands old v core now runs.fits
  st = stands old v core now runs

  pub leaves : Runs x core true
  leaves = runs_straight v x core g.hurt now.straight g.publishes (runs_by old v core now now.straight runs refl)

  pub same_shape : x.shape ≡ v.shape
  same_shape = shape_by v x core g.hurt now.straight g.publishes

  publishes : publishes_unless st.c.straight v x core g.hurt
  publishes = subst (λ b. publishes_unless b v x core g.hurt) (ap (λ (y : Running). y.straight) (sym st.is)) g.publishes

  pub published : HasPublished old.image count s core st.c x g.hurt
  published = has_published old.image count s v core st.c st.going st.kept runs.fits.agrees st.at st.unhurt x g.hurt publishes

  pub noted : (shares : Counts) → Steps old mid shares shares (hurts count s core g.hurt)
  noted shares = subst (λ xs. Steps old mid shares shares xs) (hurts_same old s core g.hurt runs.fits.shows) (g.steps shares)

  pub fewer : length (hurts count s core g.hurt) < count
  fewer = subst (λ (xs : List Entry). length xs < count) (hurts_same old s core g.hurt runs.fits.shows) g.short

  -- the register shows the state with these cores hurt
  pub shows : Shows mid (with_hurts g.hurt s)
  shows = (noted no_counts).follows s (with_hurts g.hurt s) runs.fits.is_image (record { entries = old.history.items; replays = runs.fits.replays }) runs.fits.shows published.replays

  pub homefree_c : st.c.epoch ≡ s.homefree
  homefree_c = homefree_is old v core now runs.fits st homefree

  pub publishing : {waits : Waits} (arrived : Arrival) (at : Stop) → IsAtStop old core now arrived at → turn.Publishing (turn_of old waits s core (Some arrived)) st.c at v x g.hurt
  publishing arrived at at_stop = record { is_at = is_at old v core now arrived at runs.fits st at_stop; homefree = homefree_c; publishes = publishes }

  -- ---- what the register's next notes ask

  pub homefree_mid : mid.homefree < 2 ^ 16
  homefree_mid =
      let small = small_homefree old v core now runs in
      let is = runs.fits.shows.homefree in
      let was = shows.homefree in
      omega (arith, small, is, was)

  pub room_mid : vec_len old.history + 2 * length old.running.items ≤ vec_capacity old.history → vec_len mid.history + length mid.running.items < vec_capacity mid.history
  room_mid room =
      let steps = g.steps no_counts in
      let used = steps.used in
      let grown = steps.room in
      let less = g.short in
      let cores = steps.cores in
      rw cores (omega (arith, used, grown, less, room))

  pub at_mid : (arrived : Arrival) (at : Stop) → IsAtStop old core now arrived at → IsAtStop mid core now arrived at
  at_mid arrived at was = let image = (g.steps no_counts).image in record {
    runs = g.runs;
    unhurt = was.unhurt;
    base = was.base;
    hart = rw image was.hart;
    event = rw image was.event;
    is = was.is;
  }

  pub event_hart : (arrived : Arrival) (at : Stop) → IsAtStop old core now arrived at → arrived.now ≡ (next_event old.image st.c.hart).now
  event_hart arrived at was = now_is old core now arrived at st.c was st.is

  -- ---- the cases

  pub committed : {waits : Waits} (new : Register) (w : StoreView) (shares shares' : Counts) (arrived : Arrival) (answer : Answer)
      → IsAtStop old core now arrived stop.Ended → exits old.image arrived.now ≡ false → Ends x w core → answer ≡ left_or_over new.end → new.end ≡ end_after mid.image arrived.now mid.homefree
      → Steps mid new shares shares' (entry core Commit) → Acted old new waits v w shares shares' core (Some arrived) answer
  committed {waits} new w shares shares' arrived answer at stays l answer_is end_is steps =
      let hart = event_hart arrived stop.Ended at in
      let stays_c : exits old.image (next_event old.image st.c.hart).now ≡ false = subst (λ h. exits old.image h ≡ false) hart stays in
      let is = is_at {waits = waits} old v core now arrived stop.Ended runs.fits st at in
      let comes = ends.commits old.image count s v core st.c st.going st.kept runs.fits.agrees st.at st.unhurt x g.hurt published homefree_c w is.event stays_c l in
      let image = (g.steps no_counts).image in
      let home : mid.homefree ≡ s.homefree = shows.homefree in
      let end_at_s : new.end ≡ end_at old.image (s.homefree + 1) =
      end_is ∙ (ap (λ i. end_after i arrived.now mid.homefree) image ∙ (ap (end_after old.image arrived.now) home ∙ stays_answer old.image arrived.now s.homefree stays)) in
      acted old new v w shares shares' core (Some arrived) answer (hurts count s core g.hurt ++ entry core Commit) (effect_on old.image (with_hurts g.hurt s) core st.c Commit) runs.fits
      (steps_then old mid new shares shares shares' (hurts count s core g.hurt) (entry core Commit) (noted shares) steps)
      (are_few _ count (one_more_entry (hurts count s core g.hurt) core Commit count fewer))
      comes (l.shape ∙ same_shape)
      (turn.follows (turn.commits (record {
        core = st.c;
        between = x;
        hurt = g.hurt;
        comes = publishing arrived stop.Ended at;
        stays = stays_c;
        store = l;
        out_is = ap (λ a. does (hurts count s core g.hurt ++ entry core Commit) a) (answer_is ∙ ap left_or_over end_at_s);
      })))

  pub faulted : {waits : Waits} (new : Register) (shares : Counts) (arrived : Arrival) (cause pc : ℕ)
      → IsAtStop old core now arrived (stop.Fault cause pc) → Steps mid new shares shares (entry core (Fault cause pc))
      → Acted old new waits v x shares shares core (Some arrived) (Over (end.Fault now.epoch cause pc))
  faulted {waits} new shares arrived cause pc at steps =
      let is = is_at {waits = waits} old v core now arrived (stop.Fault cause pc) runs.fits st at in
      let comes = ends.faults old.image count s v core st.c st.going st.kept runs.fits.agrees st.at st.unhurt x g.hurt published homefree_c cause pc is.event in
      acted old new v x shares shares core (Some arrived) (Over (end.Fault now.epoch cause pc)) (hurts count s core g.hurt ++ entry core (Fault cause pc))
      (effect_on old.image (with_hurts g.hurt s) core st.c (Fault cause pc)) runs.fits
      (steps_then old mid new shares shares shares (hurts count s core g.hurt) (entry core (Fault cause pc)) (noted shares) steps)
      (are_few _ count (one_more_entry (hurts count s core g.hurt) core (Fault cause pc) count fewer))
      comes same_shape
      (turn.follows (turn.faults (record {
        core = st.c;
        cause = cause;
        pc = pc;
        hurt = g.hurt;
        comes = publishing arrived (stop.Fault cause pc) at;
        out_is = ap (λ (y : Running). does (hurts count s core g.hurt ++ entry core (Fault cause pc)) (Over (end.Fault y.epoch cause pc))) (sym st.is);
      })))
