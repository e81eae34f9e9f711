-- From what the register noted of an access and what the store did to a case of the turn.
use Rattle.std.proofs.Common.{◌≡◌, ◌≢◌, ◌≤◌, ◌<◌, ℕ, Bool, false, List, ◌++◌, length, Some, None, refl, sym, ap, subst, ◌∙◌, inl, arith}
use Rattle.std.proofs.lemmas.List.{length-append}
use Rattle.rv32_exec.specs.declared.stop.Stop.{Stop}
use Rattle.rv32_exec.specs.declared.stop.Stop.TheVariants as stop
use Rattle.rv32_exec.specs.Arrival.{Arrival, after_loading}
use Rattle.rv32_exec.specs.Hart.{HartState, stepped}
use Rattle.run_ledger.specs.declared.counts.Counts.{Counts}
use Rattle.spec_history.specs.declared.entry.Entry.{Entry}
use Rattle.spec_history.specs.declared.entry.What.{What}
use Rattle.spec_history.specs.declared.entry.What.TheVariants.{Load, Store}
use Rattle.violations.specs.declared.step.WaitCause.{WaitCause}
use Rattle.violations.specs.View.{StoreView, Waits}
use Rattle.violations.specs.Rule.{Loads, Stores}
use Rattle.homefree.specs.declared.answer.Answer.TheVariants.{Go, Again}
use Rattle.homefree.specs.declared.register.Register.{Register}
use Rattle.homefree.specs.declared.register.Running.{Running}
use Rattle.homefree.specs.Acted.{Acted, AreFew}
use Rattle.homefree.specs.Arms.{Arrives, HomefreeArrives, MayGoStraight}
use Rattle.homefree.specs.AtStop.{IsAtStop}
use Rattle.homefree.specs.Hurts.{entry, hurts, with_hurts}
use Rattle.homefree.specs.Noted.{hurts_noted}
use Rattle.homefree.specs.Steps.{Steps}
use Rattle.homefree.specs.Turned as turn
use Rattle.homefree.specs.Turned.{does, cause_of}
use Rattle.homefree.proofs.State.Arms as arm
use Rattle.homefree.proofs.Fields.Noting.{hart_is, stored_is}
use Rattle.homefree.proofs.Fields.Batches.{hurts_same}
use Rattle.homefree.proofs.Fields.Hurting.{hurts_fewer}
use Rattle.homefree.proofs.Cases.Standing.{stands, is_at}
use Rattle.homefree.proofs.Cases.Acting.{acted, acted_nothing}

-- the stop that the core hands in is this one
pub arrives_at : {budget : ℕ} (r : Register) (v : StoreView) (shares : Counts) (core : ℕ) (now : Running) (arrived : Arrival) (at : Stop)
    → Arrives r v budget shares core now arrived arrived.at → arrived.at ≡ at → Arrives r v budget shares core now arrived at
arrives_at {budget} r v shares core now arrived at was is = subst (Arrives r v budget shares core now arrived) is was

pub at_own : (r : Register) (core : ℕ) (now : Running) (arrived : Arrival) (at : Stop) → IsAtStop r core now arrived at → IsAtStop r core now arrived arrived.at
at_own r core now arrived at was = record { runs = was.runs; unhurt = was.unhurt; base = was.base; hart = was.hart; event = was.event; is = refl }

-- so it does where it runs the homefree epoch, which may go straight first
pub homefree_runs : {budget : ℕ} (r : Register) (v : StoreView) (shares : Counts) (core : ℕ) (now : Running) (arrived : Arrival) (at : Stop)
    → HomefreeArrives r v budget shares core now arrived at → MayGoStraight r v budget core now
homefree_runs r v shares core now arrived at a =
    let room = a.arrives.notes.room in
    let left = a.arrives.budget_left in
    record { running = a.arrives.running; homefree = a.homefree; room = omega (arith, room); budget_left = omega (arith, left) }

pub one_more_entry : (xs : List Entry) (by : ℕ) (what : What) (n : ℕ) → length xs < n → length (xs ++ entry by what) ≤ n
one_more_entry xs by what n less = rw (length-append xs (entry by what)) (omega (arith, less))

pub are_few : (m n : ℕ) → m ≤ n → AreFew m n
are_few m n less = inl (omega (arith, less))

-- ---- of a core that isn't straight

pub loaded : {waits : Waits} {budget : ℕ} (old new : Register) (v w : StoreView) (shares shares' : Counts) (core : ℕ) (now : Running) (arrived : Arrival) (address width value : ℕ) (signed : Bool) (rd : ℕ) (hurt : ℕ → Bool) (hart : HartState)
    → Arrives old v budget shares core now arrived (stop.Load address width signed rd) → now.straight ≡ false → waits.load core address width ≡ None → Loads v w core address width value hurt
    → hart ≡ after_loading arrived value
    → Steps old new shares shares' (hurts_noted core hurt old.running.items (length old.running.items) ++ entry core (Load address width value))
    → Acted old new waits v w shares shares' core (Some arrived) (Go hart)
loaded old new v w shares shares' core now arrived address width value signed rd hurt hart a speculates goes_on l hart_at steps =
    let runs = a.running in
    let f = runs.fits in
    let s = f.state in
    let st = stands old v core now runs in
    let count = length old.running.items in
    let is = is_at old v core now arrived (stop.Load address width signed rd) f st a.is_at in
    let free : st.c.straight ≡ false = ap (λ (x : Running). x.straight) st.is ∙ speculates in
    let comes = arm.loads old.image count s v core st.c st.going st.kept f.agrees st.at st.unhurt w hurt (l.shape, l.cached) l.others address width value signed rd free is.event l in
    let same = hurts_same old s core hurt f.shows in
    let short = one_more_entry _ core (Load address width value) count (hurts_fewer old core hurt l.others.not_itself runs.there) in
    acted old new v w shares shares' core (Some arrived) (Go hart) (hurts count s core hurt ++ entry core (Load address width value)) (arm.loaded_state old.image (with_hurts hurt s) core st.c address width value) f
    (subst (λ xs. Steps old new shares shares' (xs ++ entry core (Load address width value))) same steps)
    (are_few _ count (subst (λ xs. length (xs ++ entry core (Load address width value)) ≤ count) same short)) comes l.shape
    (turn.follows (turn.loads (record {
      core = st.c;
      address = address;
      width = width;
      rd = rd;
      value = value;
      signed = signed;
      hurt = hurt;
      comes = record { is_at = is; speculates = free };
      goes_on = goes_on;
      store = l;
      out_is = ap (λ h. does (hurts count s core hurt ++ entry core (Load address width value)) (Go h)) (hart_at ∙ hart_is old core now arrived (stop.Load address width signed rd) st.c value a.is_at st.is);
    })))

pub stored : {waits : Waits} {budget : ℕ} (old new : Register) (v w : StoreView) (shares shares' : Counts) (core : ℕ) (now : Running) (arrived : Arrival) (address width value : ℕ) (hurt : ℕ → Bool) (hart : HartState)
    → Arrives old v budget shares core now arrived (stop.Store address width value) → now.straight ≡ false → waits.store core address width ≡ None → Stores v w core address width value hurt
    → hart ≡ stepped arrived.now
    → Steps old new shares shares' (hurts_noted core hurt old.running.items (length old.running.items) ++ entry core (Store address width value))
    → Acted old new waits v w shares shares' core (Some arrived) (Go hart)
stored old new v w shares shares' core now arrived address width value hurt hart a speculates goes_on l hart_at steps =
    let runs = a.running in
    let f = runs.fits in
    let s = f.state in
    let st = stands old v core now runs in
    let count = length old.running.items in
    let is = is_at old v core now arrived (stop.Store address width value) f st a.is_at in
    let free : st.c.straight ≡ false = ap (λ (x : Running). x.straight) st.is ∙ speculates in
    let comes = arm.stores old.image count s v core st.c st.going st.kept f.agrees st.at st.unhurt w hurt (l.shape, l.cached) l.others address width value free is.event l in
    let same = hurts_same old s core hurt f.shows in
    let short = one_more_entry _ core (Store address width value) count (hurts_fewer old core hurt l.others.not_itself runs.there) in
    acted old new v w shares shares' core (Some arrived) (Go hart) (hurts count s core hurt ++ entry core (Store address width value)) (arm.stored_state old.image (with_hurts hurt s) core st.c address width value) f
    (subst (λ xs. Steps old new shares shares' (xs ++ entry core (Store address width value))) same steps)
    (are_few _ count (subst (λ xs. length (xs ++ entry core (Store address width value)) ≤ count) same short)) comes l.shape
    (turn.follows (turn.stores (record {
      core = st.c;
      address = address;
      width = width;
      value = value;
      hurt = hurt;
      comes = record { is_at = is; speculates = free };
      goes_on = goes_on;
      store = l;
      out_is = ap (λ h. does (hurts count s core hurt ++ entry core (Store address width value)) (Go h)) (hart_at ∙ stored_is old core now arrived (stop.Store address width value) st.c a.is_at st.is);
    })))

-- the store waits, and the epoch isn't the homefree one
pub waited : {waits : Waits} {budget : ℕ} (old : Register) (v : StoreView) (shares : Counts) (core : ℕ) (now : Running) (arrived : Arrival) (at : Stop) (cause : WaitCause)
    → Arrives old v budget shares core now arrived at → turn.wait_at waits core at ≡ Some cause → now.straight ≡ false → now.epoch ≢ old.homefree
    → Acted old old waits v v shares shares core (Some arrived) (Again (cause_of cause))
waited old v shares core now arrived at cause a waiting speculates later =
    let runs = a.running in
    let f = runs.fits in
    let st = stands old v core now runs in
    acted_nothing old v shares core (Some arrived) (Again (cause_of cause)) f
    (turn.follows (turn.waits (record {
      core = st.c;
      at = at;
      cause = cause;
      comes = record {
        is_at = is_at old v core now arrived at f st a.is_at;
        speculates = ap (λ (x : Running). x.straight) st.is ∙ speculates;
      };
      waits = waiting;
      later = λ same. later (ap (λ (x : Running). x.epoch) (sym st.is) ∙ (same ∙ sym f.shows.homefree));
      store = refl;
      out_is = refl;
    })))
