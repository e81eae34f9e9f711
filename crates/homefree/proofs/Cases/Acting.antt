-- From what the register noted and what the store did to a case of the turn.
use Rattle.std.proofs.Common.{◌≡◌, ◌≢◌, ◌≤◌, ◌<◌, ℕ, true, false, List, [], length, Option, Some, None, option_copied, Bor, eq-eqb, true≢false, ◌&&◌, ◌∷◌, refl, sym, ap, subst, ◌∙◌, inl, inr, arith}
use lib.Pointwise.{pointwise, bytes_decides}
use Rattle.std.proofs.Math.Dec.{eqb}
use Rattle.std.proofs.lemmas.Bool.{cases_Bool, eqb-true, and_parts}
use Rattle.rv32_image.proofs.SmallFacts.{one_value}
use Rattle.rv32_exec.specs.Arrival.{Arrival}
use Rattle.rv32_exec.specs.Hart.{HartState, start_of}
use Rattle.rv32_exec.specs.declared.arrived.Arrived.{Arrived}
use Rattle.run_ledger.specs.declared.counts.Counts.{Counts}
use Rattle.run_ledger.specs.Counts.{sum_of}
use Rattle.spec_history.specs.declared.entry.Entry.{Entry}
use Rattle.spec_history.specs.declared.entry.What.TheVariants.{Start, Restart}
use Rattle.spec_history.specs.FlatState.{CoreState, FlatState}
use Rattle.spec_history.specs.Effect.{effect_idle, effect_on}
use Rattle.spec_history.specs.Replay.{replay}
use Rattle.spec_history.specs.Laws.{IsKept}
use Rattle.rv32_image.specs.Image.{LoadedImage}
use Rattle.spec_history.proofs.Replay.Joining.{history_goes_on, no_entry}
use Rattle.spec_history.proofs.Replay.Replays.{replayed}
use Rattle.violations.specs.declared.attempt.Attempt.{Attempt}
use Rattle.violations.specs.View.{StoreView, Waits, IsSettled, MayBegin, attempt_of}
use Rattle.violations.specs.Rule.{Begins}
use Rattle.homefree.specs.declared.answer.Answer.{Answer}
use Rattle.homefree.specs.declared.answer.Answer.TheVariants.{Go, Again}
use Rattle.homefree.specs.declared.answer.Cause.TheVariants.{NoEpoch}
use Rattle.homefree.specs.declared.register.Register.{Register}
use Rattle.homefree.specs.declared.register.Running.{Running}
use Rattle.homefree.specs.Acted.{Acted, AreFew, IfArrived, MayNote, turn_of}
use Rattle.homefree.specs.Agrees.{AgreesAt}
use Rattle.homefree.specs.Arms.{Arrives, running_by}
use Rattle.homefree.specs.Counted.{counted_in}
use Rattle.homefree.specs.Hurts.{entry}
use Rattle.homefree.specs.Kept.{Fits, running_at}
use Rattle.homefree.specs.Steps.{Steps}
use Rattle.homefree.specs.Turned as turn
use Rattle.homefree.specs.Turned.{Acts, does}
use Rattle.homefree.proofs.State.Arms as arm
use Rattle.homefree.proofs.Fields.Steps.{counted_then, steps_none, none_kept, core_of}

pub kept_of_fits : (r : Register) (v : StoreView) (f : Fits r v) → r.end ≡ None → IsKept r.image (length r.running.items) f.state
kept_of_fits r v f going = ((replayed r.image (length r.running.items) r.history.items f.state f.is_image f.replays).going (sym f.shows.end ∙ going)).kept

pub fits_then : (old new : Register) (v w : StoreView) (shares shares' : Counts) (entries : List Entry) (t : FlatState) (f : Fits old v)
    → Steps old new shares shares' entries → arm.Comes old.image (length old.running.items) f.state entries t w → w.shape ≡ v.shape → Fits new w
fits_then old new v w shares shares' entries t f steps comes shape = record {
  state = t;
  replays = rw (steps.image, steps.cores, steps.history) (history_goes_on old.image (length old.running.items) old.history.items entries f.state t f.replays comes.replays);
  shows = steps.follows f.state t f.is_image (record { entries = old.history.items; replays = f.replays }) f.shows comes.replays;
  agrees = comes.agrees;
  shape = rw (steps.image, steps.cores) (shape ∙ f.shape);
  counted = rw steps.history (steps.totals ∙ (ap (λ n. sum_of n (counted_in entries)) f.counted ∙ sym (counted_then old.history.items entries)));
  is_image = rw steps.image f.is_image;
  core_count = rw (steps.image, steps.cores) f.core_count;
}

pub acted_by : {waits : Waits} (old new : Register) (v w : StoreView) (shares shares' : Counts) (core : ℕ) (next : Option Arrival) (answer : Answer) (entries : List Entry) (f : Fits old v)
    → Steps old new shares shares' entries → AreFew (length entries) (length old.running.items) → Fits new w → Acts (turn_of old waits f.state core next) v w (does entries answer)
    → Acted old new waits v w shares shares' core next answer
acted_by {waits} old new v w shares shares' core next answer entries f steps short fits acts = record {
  entries = entries;
  steps = steps;
  short = short;
  acts = λ s replays. subst (λ x. Acts (turn_of old waits x core next) v w (does entries answer))
      (one_value (replay old.image (length old.running.items) old.history.items) f.state s f.replays replays) acts;
  fits = fits;
}

pub acted : {waits : Waits} (old new : Register) (v w : StoreView) (shares shares' : Counts) (core : ℕ) (next : Option Arrival) (answer : Answer) (entries : List Entry) (t : FlatState) (f : Fits old v)
    → Steps old new shares shares' entries → AreFew (length entries) (length old.running.items) → arm.Comes old.image (length old.running.items) f.state entries t w
    → w.shape ≡ v.shape → Acts (turn_of old waits f.state core next) v w (does entries answer)
    → Acted old new waits v w shares shares' core next answer
acted old new v w shares shares' core next answer entries t f steps short comes shape acts =
    acted_by old new v w shares shares' core next answer entries f steps short (fits_then old new v w shares shares' entries t f steps comes shape) acts

-- a turn that changes nothing
pub acted_nothing : {waits : Waits} (old : Register) (v : StoreView) (shares : Counts) (core : ℕ) (next : Option Arrival) (answer : Answer) (f : Fits old v)
    → Acts (turn_of old waits f.state core next) v v (does [] answer) → Acted old old waits v v shares shares core next answer
acted_nothing old v shares core next answer f acts =
    acted old old v v shares shares core next answer [] f.state f (steps_none old shares) (inl (omega arith))
    (record { replays = no_entry old.image (length old.running.items) f.state; agrees = f.agrees }) refl acts

-- ---- idle cores

pub found_none : {waits : Waits} (old : Register) (v : StoreView) (shares : Counts) (core : ℕ) (next : Option Arrival) → Fits old v → running_at old.running.items core ≡ None → old.image.epochs ≤ old.next_epoch
    → Acted old old waits v v shares shares core next (Again NoEpoch)
found_none old v shares core next f idle left =
    acted_nothing old v shares core next (Again NoEpoch) f
    (turn.finds_none (record {
      idle = none_kept (f.state.cores core) (sym (f.shows.running core) ∙ idle);
      left = subst (λ n. old.image.epochs ≤ n) f.shows.next_epoch left;
      store = refl;
      out_is = refl;
    }))

pub started : {waits : Waits} (old new : Register) (v w : StoreView) (shares shares' : Counts) (core : ℕ) (next : Option Arrival) → (f : Fits old v) → IsSettled v → old.end ≡ None → core < length old.running.items
    → running_at old.running.items core ≡ None → old.next_epoch < old.image.epochs → Begins v w core old.next_epoch
    → Steps old new shares shares' (entry core (Start old.next_epoch))
    → Acted old new waits v w shares shares' core next (Go (start_of old.image old.next_epoch))
started old new v w shares shares' core next f settled going there idle left begins steps =
    let s = f.state in
    let epoch = f.shows.next_epoch in
    let none = none_kept (s.cores core) (sym (f.shows.running core) ∙ idle) in
    let begins_s : Begins v w core s.next_epoch = subst (Begins v w core) epoch begins in
    let left_s : s.next_epoch < old.image.epochs = subst (λ n. n < old.image.epochs) epoch left in
    let comes = arm.starts old.image (length old.running.items) s v w core (sym f.shows.end ∙ going) f.agrees none there left_s settled begins_s in
    acted old new v w shares shares' core next (Go (start_of old.image old.next_epoch)) (entry core (Start s.next_epoch)) (effect_idle old.image s core (Start s.next_epoch)) f
    (subst (λ n. Steps old new shares shares' (entry core (Start n))) epoch steps) (inl (omega arith)) comes begins.shape
    (turn.starts (record {
      idle = none;
      left = left_s;
      store = begins_s;
      out_is = ap (λ n. does (entry core (Start s.next_epoch)) (Go (start_of old.image n))) epoch;
    }))

-- ---- a core that was hurt

pub restarted : {waits : Waits} (old new : Register) (v w : StoreView) (shares shares' : Counts) (core : ℕ) (next : Option Arrival) (now : Running) → (f : Fits old v) → IsSettled v → old.end ≡ None → core < length old.running.items
    → running_at old.running.items core ≡ Some now → now.hurt ≡ true → Begins v w core now.epoch
    → Steps old new shares shares' (entry core Restart)
    → Acted old new waits v w shares shares' core next (Go (start_of old.image now.epoch))
restarted old new v w shares shares' core next now f settled going there runs hurt begins steps =
    let s = f.state in
    let found = core_of old s core now f.shows runs in
    let c = found.0 in
    let epoch : now.epoch ≡ c.epoch = ap (λ (r : Running). r.epoch) (sym found.2) in
    let hurt_c : c.hurt ≡ true = ap (λ (r : Running). r.hurt) found.2 ∙ hurt in
    let begins_c : Begins v w core c.epoch = subst (Begins v w core) epoch begins in
    let comes = arm.restarts old.image (length old.running.items) s v w core c (sym f.shows.end ∙ going) f.agrees found.1 hurt_c settled begins_c in
    acted old new v w shares shares' core next (Go (start_of old.image now.epoch)) (entry core Restart) (effect_on old.image s core c Restart) f
    steps (inl (omega arith)) comes begins.shape
    (turn.restarts (record {
      core = c;
      runs = found.1;
      hurt = hurt_c;
      store = begins_c;
      out_is = ap (λ n. does (entry core Restart) (Go (start_of old.image n))) epoch;
    }))

-- ---- that a core may begin an epoch

-- the core behind an attempt
behind : (m : ℕ → ℕ) (v : StoreView) (k : ℕ) (o : Option CoreState) → AgreesAt m v k o → (x : Attempt) → v.attempt k ≡ Some x
    → (d : CoreState) × (o ≡ Some d) × (x ≡ attempt_of d.epoch d.straight)
behind m v k None f x has = let none = f.idle refl in absurd cc
behind m v k (Some d) f x has = elim (cases_Bool d.hurt) [
  | inl is ↦ let none = f.hurt d refl is in absurd cc
  | inr free ↦ let g = (f.runs d refl free).attempt in (d, refl, cc)
]

pub may_start : (r : Register) (v : StoreView) (core : ℕ) → Fits r v → r.end ≡ None → core < length r.running.items → running_at r.running.items core ≡ None → MayBegin v core r.next_epoch
may_start r v core f going there idle =
    let s = f.state in
    let going_s = sym f.shows.end ∙ going in
    let kept = kept_of_fits r v f going in
    let below : (k : ℕ) (x : Attempt) → v.attempt k ≡ Some x → x.epoch < r.next_epoch = λ k x has.
    let found = behind s.committed v k (s.cores k) (f.agrees.core going_s k) x has in
    let less = (kept.core k found.0 found.1).below in
    let epoch : x.epoch ≡ (found.0).epoch = ap (λ (y : Attempt). y.epoch) found.2 in
    let next = f.shows.next_epoch in omega (arith, less, epoch, next) in record {
      there = rw f.shape there;
      idle = (f.agrees.core going_s core).idle (none_kept (s.cores core) (sym (f.shows.running core) ∙ idle));
      new = λ k x has same. let less = below k x has in omega (arith, less, same);
      after_straight = λ k x has straight. below k x has;
    }

pub may_restart : (r : Register) (v : StoreView) (core : ℕ) (now : Running) → Fits r v → r.end ≡ None → core < length r.running.items → running_at r.running.items core ≡ Some now → now.hurt ≡ true
    → MayBegin v core now.epoch
may_restart r v core now f going there runs hurt =
    let s = f.state in
    let going_s = sym f.shows.end ∙ going in
    let kept = kept_of_fits r v f going in
    let own = core_of r s core now f.shows runs in
    let c = own.0 in
    let epoch_c : c.epoch ≡ now.epoch = ap (λ (y : Running). y.epoch) own.2 in
    let none : v.attempt core ≡ None = (f.agrees.core going_s core).hurt c own.1 (ap (λ (y : Running). y.hurt) own.2 ∙ hurt) in
    let other : (k : ℕ) (x : Attempt) → v.attempt k ≡ Some x → x.epoch ≢ now.epoch = λ k x has same.
    let found = behind s.committed v k (s.cores k) (f.agrees.core going_s k) x has in
    let epoch : x.epoch ≡ (found.0).epoch = ap (λ (y : Attempt). y.epoch) found.2 in
    let at_core = kept.apart k core found.0 c found.1 own.1 (sym epoch ∙ (same ∙ sym epoch_c)) in
    no_attempt (v.attempt core) x (sym (ap v.attempt at_core) ∙ has) none in record {
      there = rw f.shape there;
      idle = none;
      new = other;
      after_straight = λ k x has straight.
          let found = behind s.committed v k (s.cores k) (f.agrees.core going_s k) x has in
          let epoch : x.epoch ≡ (found.0).epoch = ap (λ (y : Attempt). y.epoch) found.2 in
          let home = (kept.core k found.0 found.1).straight_homefree (sym (ap (λ (y : Attempt). y.straight) found.2) ∙ straight) in
          let from = (kept.core core c own.1).from in
          let apart = other k x has in
          omega (arith, epoch, home, from, apart, epoch_c);
    }
  where
    no_attempt : (o : Option Attempt) (x : Attempt) → o ≡ Some x → o ≡ None → ⊥
    no_attempt o x some none = cc

-- ---- a core that is told its hart

pub told : {waits : Waits} (old : Register) (v : StoreView) (shares : Counts) (core : ℕ) (next : Option Arrival) (now : Running) (f : Fits old v) → running_at old.running.items core ≡ Some now → now.hurt ≡ false
    → turn.IsStale next now.hart → Acted old old waits v v shares shares core next (Go now.hart)
told old v shares core next now f runs unhurt stale =
    let found = core_of old f.state core now f.shows runs in
    let hart : now.hart ≡ (found.0).hart = ap (λ (r : Running). r.hart) (sym found.2) in
    acted_nothing old v shares core next (Go now.hart) f
    (turn.is_told (record {
      core = found.0;
      runs = found.1;
      unhurt = ap (λ (r : Running). r.hurt) found.2 ∙ unhurt;
      stale = subst (turn.IsStale next) hart stale;
      store = refl;
      out_is = ap (λ h. does [] (Go h)) hart;
    }))

pub none_stale : (next : Option (Bor Arrived)) (hart : HartState) → next ≡ None → turn.IsStale (option_copied next) hart
none_stale None hart is = tt
none_stale (Some a) hart is = absurd cc

pub other_stale : (next : Option (Bor Arrived)) (arrived : Bor Arrived) (hart : HartState) → next ≡ Some arrived → arrived.now.base ≢ hart → turn.IsStale (option_copied next) hart
other_stale None arrived hart is other = absurd cc
other_stale (Some a) arrived hart is other = let same : a ≡ arrived = cc in subst (λ (x : Bor Arrived). x.now.base ≢ hart) (sym same) other

-- harts that differ by the test
pointwise_same : (xs : List ℕ) → pointwise eqb xs xs ≡ true
pointwise_same [] = refl
pointwise_same (x ∷ xs) = rw (eq-eqb x x refl) (pointwise_same xs)

hart_same : (x : HartState) → (pointwise eqb x.x x.x && (eqb x.pc x.pc && eqb x.done x.done)) ≡ true
hart_same x = rw (pointwise_same x.x, eq-eqb x.pc x.pc refl, eq-eqb x.done x.done refl) refl

pub differs : (x y : HartState) → (pointwise eqb x.x y.x && (eqb x.pc y.pc && eqb x.done y.done)) ≡ false → x ≢ y
differs x y is same = true≢false (sym (hart_same x) ∙ (ap (λ (z : HartState). pointwise eqb x.x z.x && (eqb x.pc z.pc && eqb x.done z.done)) same ∙ is))

pub same_hart : (x y : HartState) → (pointwise eqb x.x y.x && (eqb x.pc y.pc && eqb x.done y.done)) ≡ true → x ≡ y
same_hart x y is =
    let both = and_parts _ _ is in
    let rest = and_parts _ _ both.1 in
    let registers = (bytes_decides x.x y.x).0 both.0 in
    let pc = eqb-true x.pc y.pc rest.0 in
    let done = eqb-true x.done y.done rest.1 in
    λ i. record { x = registers i; pc = pc i; done = done i }

-- ---- a core that hands in its next event

pub handed_in : (next : Option (Bor Arrived)) (arrived : Bor Arrived) (image : LoadedImage) → next ≡ Some arrived → IfArrived image (option_copied next) → IfArrived image (Some arrived.now)
handed_in next arrived image is comes = subst (λ n. IfArrived image (option_copied n)) is comes

pub arrives : {budget : ℕ} (r : Register) (v : StoreView) (shares : Counts) (core : ℕ) (runs : Running) (attempt : Attempt) (a : Arrival) → core < length r.running.items → Fits r v → r.end ≡ None → MayNote r shares
    → running_at r.running.items core ≡ Some runs → runs.hurt ≡ false → attempt ≡ attempt_of runs.epoch runs.straight → a.base ≡ runs.hart → IfArrived r.image (Some a) → 2 ≤ budget
    → Arrives r v budget shares core (running_by attempt a.base) a a.at
arrives r v shares core runs attempt a there fits going notes at unhurt is base comes left =
    let same : runs ≡ running_by attempt a.base = λ i. record { epoch = (sym is i).epoch; hart = sym base i; straight = (sym is i).straight; hurt = unhurt i } in
    let at_core = at ∙ ap Some same in record {
      running = record { there = there; fits = fits; going = going; runs = at_core; unhurt = refl };
      notes = notes;
      is_at = record { runs = at_core; unhurt = refl; base = refl; hart = comes.0; event = comes.1; is = refl };
      budget_left = left;
    }
