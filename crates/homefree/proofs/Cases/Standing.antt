-- A core that runs its epoch: the state's core behind what the register keeps, and what the store's calls ask.
use Rattle.std.proofs.Common.{◌≡◌, ◌+◌, ◌≤◌, ℕ, Bool, true, false, length, Option, Some, None, IsSome, option_map, vec_len, vec_capacity, refl, sym, ap, subst, ◌∙◌, arith}
use Rattle.rv32_image.proofs.Bounds.{most_few}
use Rattle.rv32_exec.specs.declared.stop.Stop.{Stop}
use Rattle.rv32_exec.specs.declared.stop.Stop.TheVariants as stop
use Rattle.rv32_exec.specs.Arrival.{Arrival}
use Rattle.rv32_exec.specs.Execute.{IsAccess, IsStore, IsStopOf}
use Rattle.rv32_exec.specs.NextEvent.{next_event}
use Rattle.rv32_exec.proofs.Accesses.{stop_of_event}
use Rattle.spec_history.specs.FlatState.{CoreState}
use Rattle.spec_history.specs.Laws.{IsKept}
use Rattle.violations.specs.View as view
use Rattle.violations.specs.View.{StoreView, Waits, Runs, MayPublish, attempt_of}
use Rattle.violations.specs.Rule.{HurtsLater}
use Rattle.homefree.specs.declared.register.Register.{Register}
use Rattle.homefree.specs.declared.register.Running.{Running}
use Rattle.homefree.specs.Agrees.{AgreesCore}
use Rattle.homefree.specs.Arms.{RunsEpoch, MayHurt}
use Rattle.homefree.specs.AtStop.{IsAtStop}
use Rattle.homefree.specs.Kept.{Fits, running_at, kept_of}
use Rattle.homefree.specs.Turned as turn
use Rattle.homefree.specs.Acted.{turn_of}
use Rattle.homefree.proofs.State.Arms as arm
use Rattle.homefree.proofs.State.HurtsReplay.{CanBeHurt}
use Rattle.homefree.proofs.State.Others.{can_be_hurt_all}
use Rattle.homefree.proofs.Fields.Steps.{core_of}
use Rattle.homefree.proofs.Cases.Acting.{kept_of_fits}

-- the core behind what the register keeps
pub record Stands (r : Register) (v : StoreView) (core : ℕ) (now : Running) (f : Fits r v) : Type 0 where
  pub c : CoreState
  pub at : f.state.cores core ≡ Some c
  pub is : kept_of c ≡ now
  pub going : f.state.end ≡ None
  pub unhurt : c.hurt ≡ false
  pub kept : IsKept r.image (length r.running.items) f.state
  pub agrees : AgreesCore f.state.committed v core c

pub stands : (r : Register) (v : StoreView) (core : ℕ) (now : Running) (runs : RunsEpoch r v core now) → Stands r v core now runs.fits
stands r v core now runs =
    let f = runs.fits in
    let found = core_of r f.state core now f.shows runs.runs in
    let going = sym f.shows.end ∙ runs.going in
    let free : (found.0).hurt ≡ false = ap (λ (x : Running). x.hurt) found.2 ∙ runs.unhurt in record {
      c = found.0;
      at = found.1;
      is = found.2;
      going = going;
      unhurt = free;
      kept = kept_of_fits r v f runs.going;
      agrees = (f.agrees.core going core).runs found.0 found.1 free;
    }

-- ---- the conditions of the store's calls

pub runs_by : (r : Register) (v : StoreView) (core : ℕ) (now : Running) (straight : Bool) → RunsEpoch r v core now → now.straight ≡ straight → Runs v core straight
runs_by r v core now straight runs is =
    let st = stands r v core now runs in
    let same : st.c.straight ≡ straight = ap (λ (x : Running). x.straight) st.is ∙ is in
    record { epoch = st.c.epoch; is = st.agrees.attempt ∙ ap (λ b. Some (attempt_of st.c.epoch b)) same }

pub homefree_is : (r : Register) (v : StoreView) (core : ℕ) (now : Running) (f : Fits r v) (st : Stands r v core now f) → now.epoch ≡ r.homefree → st.c.epoch ≡ f.state.homefree
homefree_is r v core now f st is = ap (λ (x : Running). x.epoch) st.is ∙ (is ∙ f.shows.homefree)

pub may_publish : (r : Register) (v : StoreView) (core : ℕ) (now : Running) → RunsEpoch r v core now → now.straight ≡ false → now.epoch ≡ r.homefree → MayPublish v core
may_publish r v core now runs is homefree =
    let st = stands r v core now runs in
    let f = runs.fits in
    let same : st.c.straight ≡ false = ap (λ (x : Running). x.straight) st.is ∙ is in record {
      epoch = st.c.epoch;
      is = st.agrees.attempt ∙ ap (λ b. Some (attempt_of st.c.epoch b)) same;
      first = arm.is_first r.image (length r.running.items) f.state v core st.c st.going st.kept f.agrees st.at st.unhurt (homefree_is r v core now f st homefree);
    }

-- a straight core runs the homefree epoch
pub straight_homefree : (r : Register) (v : StoreView) (core : ℕ) (now : Running) → RunsEpoch r v core now → now.straight ≡ true → now.epoch ≡ r.homefree
straight_homefree r v core now runs is =
    let st = stands r v core now runs in
    let same : st.c.straight ≡ true = ap (λ (x : Running). x.straight) st.is ∙ is in
    ap (λ (x : Running). x.epoch) (sym st.is) ∙ ((st.kept.core core st.c st.at).straight_homefree same ∙ sym runs.fits.shows.homefree)

stop_at : (r : Register) (core : ℕ) (now : Running) (arrived : Arrival) (at : Stop) → IsAtStop r core now arrived at → IsStopOf r.image (next_event r.image arrived.base).now at
stop_at r core now arrived at is_at = subst (IsStopOf r.image (next_event r.image arrived.base).now) (sym is_at.event ∙ is_at.is) (stop_of_event r.image arrived.base)

pub may_load : (r : Register) (v : StoreView) (core : ℕ) (now : Running) (arrived : Arrival) (address width : ℕ) (signed : Bool) (rd : ℕ) → Fits r v
    → IsAtStop r core now arrived (stop.Load address width signed rd) → view.IsLoad v.shape address width
may_load r v core now arrived address width signed rd f is_at =
    let access : IsAccess r.image (next_event r.image arrived.base).now address width = stop_at r core now arrived (stop.Load address width signed rd) is_at in
    rw f.shape (record { wide = access.wide; aligned = access.aligned; within = access.within })

pub may_store : (r : Register) (v : StoreView) (core : ℕ) (now : Running) (arrived : Arrival) (address width value : ℕ) → Fits r v
    → IsAtStop r core now arrived (stop.Store address width value) → view.IsStore v.shape address width value
may_store r v core now arrived address width value f is_at =
    let store : IsStore r.image (next_event r.image arrived.base).now address width value = stop_at r core now arrived (stop.Store address width value) is_at in
    rw f.shape (record {
      load = record { wide = store.access.wide; aligned = store.access.aligned; within = store.access.within };
      outside_code = store.outside_code;
      low_bytes = store.low_bytes;
    })

-- ---- a batch of hurts

pub few_cores : (r : Register) (v : StoreView) → Fits r v → length r.running.items ≤ 16
few_cores r v f = let most = most_few r.image.version in let count = f.core_count.most in omega (arith, most, count)

some_kept : (o : Option CoreState) (p : Option Running) (c : CoreState) → p ≡ option_map kept_of o → o ≡ Some c → IsSome p
some_kept o p c is some = rw (is, some) refl

pub can : (r : Register) (v w : StoreView) (core : ℕ) (now : Running) (hurt : ℕ → Bool) (runs : RunsEpoch r v core now) → HurtsLater v w core hurt
    → (k : ℕ) → hurt k ≡ true → CanBeHurt runs.fits.state (stands r v core now runs).c k
can r v w core now hurt runs others =
    let st = stands r v core now runs in
    can_be_hurt_all r.image (length r.running.items) runs.fits.state v w core st.c hurt st.going st.kept runs.fits.agrees st.at st.unhurt others

pub may_hurt : (r : Register) (v w : StoreView) (core : ℕ) (now : Running) (hurt : ℕ → Bool) → RunsEpoch r v core now → HurtsLater v w core hurt
    → vec_len r.history + length r.running.items ≤ vec_capacity r.history → MayHurt r core now hurt
may_hurt r v w core now hurt runs others room = record {
  there = runs.there;
  few = few_cores r v runs.fits;
  room = room;
  runs = runs.runs;
  spared = others.not_itself;
  others = λ k is.
      let one = can r v w core now hurt runs others k is in
      some_kept (runs.fits.state.cores k) (running_at r.running.items k) one.core (runs.fits.shows.running k) one.at;
}

-- ---- the turn's words for it

pub event_is : (r : Register) (core : ℕ) (now : Running) (arrived : Arrival) (at : Stop) (c : CoreState) → IsAtStop r core now arrived at → kept_of c ≡ now → (next_event r.image c.hart).at ≡ at
event_is r core now arrived at c is_at is =
    ap (λ h. (next_event r.image h).at) (ap (λ (x : Running). x.hart) is ∙ sym is_at.base) ∙ (sym is_at.event ∙ is_at.is)

pub is_at : {waits : Waits} (r : Register) (v : StoreView) (core : ℕ) (now : Running) (arrived : Arrival) (at : Stop) (f : Fits r v) (st : Stands r v core now f) → IsAtStop r core now arrived at
    → turn.IsAt (turn_of r waits f.state core (Some arrived)) st.c at
is_at r v core now arrived at f st at_stop = record {
  runs = st.at;
  unhurt = st.unhurt;
  handed_in = at_stop.base ∙ ap (λ (x : Running). x.hart) (sym st.is);
  event = event_is r core now arrived at st.c at_stop st.is;
}
