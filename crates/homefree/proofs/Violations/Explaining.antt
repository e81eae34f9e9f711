-- The entries of a turn: what each violation was about is known, and over caches nobody is passed over.
use Rattle.std.proofs.Common.{◌≡◌, ◌≢◌, ℕ, zero, suc, ◌<◌, ◌&&◌, Bool, true, false, is_some, List, [], ◌++◌, Option, Some, None, if◌then◌else◌, refl, sym, ap, subst, ◌∙◌}
use Rattle.std.proofs.lemmas.Bool.{eq-eqb}
use Rattle.std.proofs.lemmas.List.{append_assoc}
use Rattle.memory_bytes.proofs.SmallFacts.{starts_inside}
use Rattle.rv32_image.specs.Image.{LoadedImage}
use Rattle.rv32_image.specs.Machine.{IsMachineFor}
use Rattle.rv32_exec.specs.declared.stop.Stop.TheVariants as stop
use Rattle.rv32_exec.specs.Execute.{IsStopOf}
use Rattle.rv32_exec.specs.NextEvent.{next_event}
use Rattle.rv32_exec.proofs.Accesses.{stop_of_event}
use Rattle.spec_history.specs.declared.entry.Entry.{Entry}
use Rattle.spec_history.specs.declared.entry.What.{What}
use Rattle.spec_history.specs.declared.entry.What.TheVariants.{Start, Load, Store, Hurt, Cancel, Restart, Commit, Fault}
use Rattle.spec_history.specs.Effect.{by_core, effect, effect_on, effect_idle}
use Rattle.spec_history.specs.FlatState.{CoreState, FlatState}
use Rattle.spec_history.specs.Laws.{IsKept}
use Rattle.spec_history.specs.Conflict.{is_beside, line_number, line_has, read_bytes, meeting, written}
use Rattle.spec_history.proofs.OneEntry.Entries.{still_runs}
use Rattle.violations.specs.View.{StoreView, IsSettled}
use Rattle.violations.specs.Rule.{shape_of}
use Rattle.homefree.specs.declared.answer.Answer.{Answer}
use Rattle.homefree.specs.Agrees.{Agrees}
use Rattle.homefree.specs.Hurts.{entry, entry_for_each, cancels, epoch_on, is_other}
use Rattle.homefree.specs.Turned as turn
use Rattle.homefree.specs.Turned.{Acts, Follows, Outcome, Turn, entry_of, hurts_of}
use Rattle.homefree.proofs.Violations.Knowing.{next_what, PassedHere, AllKnown}
use Rattle.homefree.proofs.Violations.Notices.{writes_none, all_known}
use Rattle.homefree.proofs.Violations.Victims.{loads_known, stores_known, straight_known, store_passes, commit_passes, straight_passes, first_batch, second_batch, publishing, commit_batch, then_access}

-- ---- an entry that is no violation

alone : (B C : Type 0) (image : LoadedImage) (by : ℕ) (what : What) (t : FlatState) → ((epoch : ℕ) → what ≢ Hurt epoch) → PassedHere C image t (record { by = by; what = what })
    → AllKnown B C image t (entry by what)
alone B C image by what t isnt passes = (λ k c same runs. absurd (isnt c.epoch same), passes, tt)

writing_none : (B C : Type 0) (image : LoadedImage) (by : ℕ) (what : What) (t : FlatState) → ((epoch : ℕ) → what ≢ Hurt epoch) → ((core : Option CoreState) (a : ℕ) → written core what a ≡ None)
    → AllKnown B C image t (entry by what)
writing_none B C image by what t isnt none = alone B C image by what t isnt (writes_none C image t (record { by = by; what = what }) (λ a. none (t.cores by) a))

outcome : (B C : Type 0) (image : LoadedImage) (s : FlatState) (out : Outcome) (entries : List Entry) (answer : Answer) → out ≡ record { entries = entries; answer = answer } → AllKnown B C image s entries
    → AllKnown B C image s out.entries
outcome B C image s out entries answer is all = subst (λ (o : Outcome). AllKnown B C image s o.entries) (sym is) all

-- ---- cancellations, and then a commit

cancelled_next : (by : ℕ) (these : ℕ → Bool) (epochs : ℕ → ℕ) (n : ℕ) (tail : List Entry) (what : What) → next_what by tail ≡ Some what
    → next_what by (entry_for_each by these (λ k. Cancel (epochs k)) n ++ tail) ≡ Some what
cancelled_next by these epochs zero tail what later = later
cancelled_next by these epochs (suc n) tail what later =
    ap (next_what by) (append_assoc (entry_for_each by these (λ k. Cancel (epochs k)) n) (one (these n)) tail)
    ∙ cancelled_next by these epochs n (one (these n) ++ tail) what (one_next (these n))
  where
    one : Bool → List Entry
    one b = if b then entry by (Cancel (epochs n)) else []

    one_next : (b : Bool) → next_what by (one b ++ tail) ≡ Some what
    one_next true = later
    one_next false = later

-- each core that runs ran so before
abbrev IsWithin : FlatState → FlatState → Type 0
IsWithin t u = (j : ℕ) (e : CoreState) → u.cores j ≡ Some e → t.cores j ≡ Some e

cancel_by : (image : LoadedImage) (t u : FlatState) (by epoch : ℕ) (o : Option CoreState) → IsWithin t u
    → IsWithin t (by_core o (effect_idle image u by (Cancel epoch)) (λ core. effect_on image u by core (Cancel epoch)))
cancel_by image t u by epoch None p j e is = p j e is
cancel_by image t u by epoch (Some d) p j e is = p j e (still_runs epoch (u.cores j) e is)

cancel_stays : (image : LoadedImage) (t u : FlatState) (by epoch : ℕ) → IsWithin t u → IsWithin t (effect image u (record { by = by; what = Cancel epoch }))
unfolding effect
cancel_stays image t u by epoch p = cancel_by image t u by epoch (u.cores by) p

cancelled : (B C : Type 0) (image : LoadedImage) (t : FlatState) (by : ℕ) (these : ℕ → Bool) (epochs : ℕ → ℕ) (n : ℕ) (tail : List Entry) (what : What) → next_what by tail ≡ Some what
    → ((u : FlatState) → IsWithin t u → AllKnown B C image u tail) → AllKnown B C image t (entry_for_each by these (λ k. Cancel (epochs k)) n ++ tail)
cancelled B C image t by these epochs n tail what later rest =
    all_known B C image by (λ n u. IsWithin t u) these (λ k. Cancel (epochs k)) what (λ j. refl) (λ j u is p. cancel_stays image t u by (epochs j) p) (λ j u isnt p. p)
    (λ j k u c is p same runs. absurd (no_hurt (epochs j) c.epoch same)) n tail later rest t (λ j e is. is)
  where
    no_hurt : (one other : ℕ) → Cancel one ≡ Hurt other → ⊥
    no_hurt one other is = cc

beside_same : (image : LoadedImage) (t u : FlatState) (by k at : ℕ) (what : What) → u.cores by ≡ t.cores by → u.cores k ≡ t.cores k
    → is_beside image (meeting u by what k) at ≡ is_beside image (meeting t by what k) at
beside_same image t u by k at what mine other =
    ap (λ o. is_some (read_bytes o at) && line_has image (line_number image at) (λ b. is_some (written (u.cores by) what b))) other
    ∙ ap (λ o. is_some (read_bytes (t.cores k) at) && line_has image (line_number image at) (λ b. is_some (written o what b))) mine

commit_within : (C : Type 0) (image : LoadedImage) (t u : FlatState) (by : ℕ) → IsWithin t u → PassedHere C image t (record { by = by; what = Commit })
    → PassedHere C image u (record { by = by; what = Commit })
commit_within C image t u by within passes holds k missed =
    let causer = within by missed.causer missed.causer_runs in
    let reader = within k missed.core missed.runs in
    let further = passes holds k (record {
      causer = missed.causer;
      causer_runs = causer;
      core = missed.core;
      runs = reader;
      unhurt = missed.unhurt;
      later = missed.later;
      at = missed.at;
      reads = sym (beside_same image t u by k missed.at Commit (missed.causer_runs ∙ sym causer) (missed.runs ∙ sym reader)) ∙ missed.reads;
    }) in
    absurd (no_store_commit further.address further.width further.value further.stores)
  where
    no_store_commit : (address width value : ℕ) → Commit ≡ Store address width value → ⊥
    no_store_commit address width value same = cc

-- ---- the turns

module _ (C : Type 0) (t : Turn) (v w : StoreView) (out : Outcome) (going : t.state.end ≡ None) (kept : IsKept t.image t.cores t.state) (agrees : Agrees t.state v)
    (fits : IsMachineFor t.image.size t.image.machine) (shape : v.shape ≡ shape_of t.image t.cores) (settled : IsSettled v) (cached : C → v.cached ≡ true) where
  abbrev Known : List Entry → Type 0
  Known entries = AllKnown (v.cached ≡ false) C t.image t.state entries

  store_inside : (core : CoreState) (address width value : ℕ) → (next_event t.image core.hart).at ≡ stop.Store address width value → address < t.image.size
  store_inside core address width value event =
      let at : IsStopOf t.image (next_event t.image core.hart).now (stop.Store address width value) = subst (IsStopOf t.image (next_event t.image core.hart).now) event (stop_of_event t.image core.hart) in
      starts_inside address width t.image.size at.access.wide at.access.within

  loads_known_here : (x : turn.IsLoad t v w out) → Known out.entries
  loads_known_here x =
      let is = x.comes.is_at in
      let act : What = Load x.address x.width x.value in
      outcome (v.cached ≡ false) C t.image t.state out _ _ x.out_is
      (first_batch C t.image t.cores t.state v t.core x.core going kept agrees is.runs is.unhurt fits shape settled cached w x.hurt act (entry_of t act) x.store.others
      (rw (eq-eqb t.core t.core refl) refl)
      (λ u j k q hurts first f. loads_known C t.image t.cores t.state v t.core x.core going kept agrees is.runs is.unhurt fits shape settled cached v u j k x.address x.width x.value q f (x.store.crowded j hurts))
      (λ u first. writing_none (v.cached ≡ false) C t.image t.core act u (λ epoch same. cc) (λ core a. refl)))

  stores_known_here : (x : turn.IsStore t v w out) → Known out.entries
  stores_known_here x =
      let is = x.comes.is_at in
      let act : What = Store x.address x.width x.value in
      let inside = store_inside x.core x.address x.width x.value is.event in
      outcome (v.cached ≡ false) C t.image t.state out _ _ x.out_is
      (first_batch C t.image t.cores t.state v t.core x.core going kept agrees is.runs is.unhurt fits shape settled cached w x.hurt act (entry_of t act) x.store.others
      (rw (eq-eqb t.core t.core refl) refl)
      (λ u j k q hurts first f. stores_known C t.image t.cores t.state v t.core x.core going kept agrees is.runs is.unhurt fits shape settled cached w x.hurt u j j k x.address x.width x.value q inside x.store hurts first f)
      (λ u first. alone (v.cached ≡ false) C t.image t.core act u (λ epoch same. cc)
      (store_passes C t.image t.cores t.state v t.core x.core going kept agrees is.runs is.unhurt fits shape settled cached w x.hurt u x.address x.width x.value inside x.comes.speculates x.store first)))

  straight_loads_known : (x : turn.IsStraightLoad t v w out) → Known out.entries
  straight_loads_known x =
      let is = x.comes.is_at in
      let act : What = Load x.address x.width x.value in
      let victims = publishing C t.image t.cores t.state v t.core x.core going kept agrees is.runs is.unhurt fits shape settled cached x.between w x.first x.hurt x.core.straight x.comes.publishes x.store.others in
      outcome (v.cached ≡ false) C t.image t.state out _ _ x.out_is
      (then_access C t.image t.cores t.state v t.core x.core going kept agrees is.runs is.unhurt fits shape settled cached x.between x.first x.hurt (hurts_of t x.hurt ++ entry_of t act) x.core.straight refl x.comes.publishes
      (second_batch C t.image t.cores t.state v t.core x.core going kept agrees is.runs is.unhurt fits shape settled cached x.between w x.first x.hurt act (entry_of t act) victims x.store.others.not_itself
      (rw (eq-eqb t.core t.core refl) refl)
      (λ u j k q hurts second f. loads_known C t.image t.cores t.state v t.core x.core going kept agrees is.runs is.unhurt fits shape settled cached x.between u j k x.address x.width x.value q f (x.store.crowded j hurts))
      (λ u second. writing_none (v.cached ≡ false) C t.image t.core act u (λ epoch same. cc) (λ core a. refl))))

  straight_stores_known : (x : turn.IsStraightStore t v w out) → Known out.entries
  straight_stores_known x =
      let is = x.comes.is_at in
      let act : What = Store x.address x.width x.value in
      let victims = publishing C t.image t.cores t.state v t.core x.core going kept agrees is.runs is.unhurt fits shape settled cached x.between w x.first x.hurt x.core.straight x.comes.publishes x.store.others in
      outcome (v.cached ≡ false) C t.image t.state out _ _ x.out_is
      (then_access C t.image t.cores t.state v t.core x.core going kept agrees is.runs is.unhurt fits shape settled cached x.between x.first x.hurt (hurts_of t x.hurt ++ entry_of t act) x.core.straight refl x.comes.publishes
      (second_batch C t.image t.cores t.state v t.core x.core going kept agrees is.runs is.unhurt fits shape settled cached x.between w x.first x.hurt act (entry_of t act) victims x.store.others.not_itself
      (rw (eq-eqb t.core t.core refl) refl)
      (λ u j k q hurts second f. straight_known C t.image t.cores t.state v t.core x.core going kept agrees is.runs is.unhurt fits shape settled cached x.first x.hurt x.between u j j k x.address x.width x.value q second f (x.store.meets j hurts))
      (λ u second. alone (v.cached ≡ false) C t.image t.core act u (λ epoch same. cc)
      (straight_passes C t.image t.cores t.state v t.core x.core going kept agrees is.runs is.unhurt fits shape settled cached x.between w x.first x.hurt u x.address x.width x.value x.core.straight x.comes.publishes x.store second))))

  commits_known_here : (x : turn.IsCommit t v w out) → Known out.entries
  commits_known_here x =
      let is = x.comes.is_at in
      outcome (v.cached ≡ false) C t.image t.state out _ _ x.out_is
      (commit_batch C t.image t.cores t.state v t.core x.core going kept agrees is.runs is.unhurt fits shape settled cached x.between x.hurt Commit (entry_of t Commit) x.core.straight x.comes.publishes
      (λ core a. refl) (λ core. refl) (λ a w n same. cc) (rw (eq-eqb t.core t.core refl) refl)
      (λ u first. alone (v.cached ≡ false) C t.image t.core Commit u (λ epoch same. cc)
      (commit_passes C t.image t.cores t.state v t.core x.core going kept agrees is.runs is.unhurt fits shape settled cached x.between x.hurt u Commit x.core.straight refl x.comes.publishes (λ core a. refl) first)))

  exits_known : (x : turn.IsExit t v w out) → Known out.entries
  exits_known x =
      let is = x.comes.is_at in
      let next_is : next_what t.core (entry_of t Commit) ≡ Some Commit = rw (eq-eqb t.core t.core refl) refl in
      outcome (v.cached ≡ false) C t.image t.state out _ _ x.out_is
      (commit_batch C t.image t.cores t.state v t.core x.core going kept agrees is.runs is.unhurt fits shape settled cached x.between x.hurt Commit (cancels t.cores t.state t.core ++ entry_of t Commit) x.core.straight x.comes.publishes
      (λ core a. refl) (λ core. refl) (λ a w n same. cc) (cancelled_next t.core (is_other t.state.cores t.core) (epoch_on t.state.cores) t.cores (entry_of t Commit) Commit next_is)
      (λ u first. cancelled (v.cached ≡ false) C t.image u t.core (is_other t.state.cores t.core) (epoch_on t.state.cores) t.cores (entry_of t Commit) Commit next_is
      (λ y within. alone (v.cached ≡ false) C t.image t.core Commit y (λ epoch same. cc)
      (commit_within C t.image u y t.core within
      (commit_passes C t.image t.cores t.state v t.core x.core going kept agrees is.runs is.unhurt fits shape settled cached x.between x.hurt u Commit x.core.straight refl x.comes.publishes (λ core a. refl) first)))))

  faults_known : (x : turn.IsFault t v w out) → Known out.entries
  faults_known x =
      let is = x.comes.is_at in
      let act : What = Fault x.cause x.pc in
      outcome (v.cached ≡ false) C t.image t.state out _ _ x.out_is
      (commit_batch C t.image t.cores t.state v t.core x.core going kept agrees is.runs is.unhurt fits shape settled cached w x.hurt act (entry_of t act) x.core.straight x.comes.publishes
      (λ core a. refl) (λ core. refl) (λ a w n same. cc) (rw (eq-eqb t.core t.core refl) refl)
      (λ u first. alone (v.cached ≡ false) C t.image t.core act u (λ epoch same. cc)
      (commit_passes C t.image t.cores t.state v t.core x.core going kept agrees is.runs is.unhurt fits shape settled cached w x.hurt u act x.core.straight refl x.comes.publishes (λ core a. refl) first)))

  follows_known : Follows t v w out → Known out.entries
  follows_known (turn.loads x) = loads_known_here x
  follows_known (turn.stores x) = stores_known_here x
  follows_known (turn.waits x) = outcome (v.cached ≡ false) C t.image t.state out _ _ x.out_is tt
  follows_known (turn.loads_straight x) = straight_loads_known x
  follows_known (turn.stores_straight x) = straight_stores_known x
  follows_known (turn.is_early x) = outcome (v.cached ≡ false) C t.image t.state out _ _ x.out_is tt
  follows_known (turn.commits x) = commits_known_here x
  follows_known (turn.exits_loop x) = exits_known x
  follows_known (turn.faults x) = faults_known x

  -- what is known of the entries of a turn
  pub acts_known : Acts t v w out → Known out.entries
  acts_known (turn.starts x) = outcome (v.cached ≡ false) C t.image t.state out _ _ x.out_is (writing_none (v.cached ≡ false) C t.image t.core (Start t.state.next_epoch) t.state (λ epoch same. cc) (λ core a. refl))
  acts_known (turn.finds_none x) = outcome (v.cached ≡ false) C t.image t.state out _ _ x.out_is tt
  acts_known (turn.restarts x) = outcome (v.cached ≡ false) C t.image t.state out _ _ x.out_is (writing_none (v.cached ≡ false) C t.image t.core Restart t.state (λ epoch same. cc) (λ core a. refl))
  acts_known (turn.is_told x) = outcome (v.cached ≡ false) C t.image t.state out _ _ x.out_is tt
  acts_known (turn.follows x) = follows_known x
