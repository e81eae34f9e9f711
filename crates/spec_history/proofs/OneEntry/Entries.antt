-- What each legal entry keeps.
use Rattle.std.proofs.Common.{◌≡◌, ℕ, ◌+◌, ◌<◌, ◌==◌, ◌||◌, ◌&&◌, not, is_some, ◌≢◌, Bool, true, false, cond, List, slice_index, Option, Some, None, unwrap_or, refl, sym, ap, subst, ◌∙◌, inl, inr, true≢false, add-one, arith, ne_eqb, eqb-true}
use Rattle.std.proofs.lemmas.Bool.{cases_Bool, cases_eq, or_parts}
use Rattle.std.proofs.lemmas.Option.{none-some}
use Rattle.rv32_image.proofs.SmallFacts.{one_value}
use Rattle.rv32_exec.specs.declared.stop.Stop.TheVariants as stop
use Rattle.rv32_exec.specs.declared.sequential.End.{End}
use Rattle.rv32_exec.specs.declared.sequential.End.TheVariants as end
use Rattle.memory_bytes.specs.Bytes.{number_at, with_number}
use Rattle.rv32_image.specs.Image.{LoadedImage}
use Rattle.rv32_exec.specs.Hart.{start_of, stepped}
use Rattle.rv32_exec.specs.NextEvent.{next_event}
use Rattle.rv32_exec.specs.Arrival.{after_number}
use Rattle.rv32_exec.specs.Sequential.{Runs, Ends, Faults, SequentialResult, exits, after_steps, epoch_outcome, first_epochs}
use Rattle.rv32_exec.proofs.Epochs.{first_epochs-ends, first_epochs-exits, sequential_result-fault, sequential_result-exit, sequential_result-done}
use Rattle.spec_history.specs.declared.entry.What.TheVariants.{Start, Load, Store, Hurt, Cancel, Restart, Publish, Commit, Fault}
use Rattle.memory_bytes.specs.Maps.{nothing, joined, over, stored, read_outside}
use Rattle.spec_history.specs.FlatState.{CoreState, FlatState, begun, end_at}
use Rattle.spec_history.specs.Effect.{with_core, hurt_at, idle_at, effect_on, effect_idle}
use Rattle.spec_history.specs.Refusal.{other_runs}
use Rattle.spec_history.specs.Laws.{Holds, IsKeptCore, IsKept, IsPublished, EndsInOrder}
use Rattle.memory_bytes.proofs.Bytes.{number_at_same}
use Rattle.spec_history.proofs.OneEntry.Progress.{comes_to_event, comes_past_access, outcome_there, published_memory-is, published_memory-exit}
use Rattle.spec_history.proofs.OneEntry.Legal.{none_below}
use Rattle.spec_history.proofs.OneEntry.Keeping.{with_core_same, with_core_other, at_core, apart_with, apart_changed, keeps_with, moves_on, begun_kept, start_runs}
use Rattle.spec_history.proofs.OneEntry.Accesses.{load_goes_on, load_counts, store_goes_on, store_within, holds_stored, load_kept, store_kept}
use Rattle.spec_history.proofs.OneEntry.Going.{Shown, Going, Spares, same_spares, rest_kept, keeps_changed, shown_with, others_speculate, shown_straight, homefree_run, straight_kept}

-- the machine goes on with one core changed, and no other state but the committed bytes and the count of published instructions
pub goes_on : (image : LoadedImage) (count : ℕ) (s : FlatState) (by : ℕ) (c new : CoreState) (committed : ℕ → ℕ) (published : ℕ) → IsKept image count s
    → s.cores by ≡ Some c → new.epoch ≡ c.epoch → Spares s by committed → IsKeptCore image count committed s.homefree s.next_epoch by new
    → Shown image committed s.homefree published (with_core s.cores by (Some new))
    → Going image count (record s { committed = committed; published = published; cores = with_core s.cores by (Some new) })
goes_on image count s by c new committed published kept at same spares is_kept shown = record {
  kept = record {
    started = kept.started;
    homefree_started = kept.homefree_started;
    core = keeps_changed image count s by committed new kept spares is_kept;
    apart = apart_changed s.cores by c new at same kept.apart;
  };
  shown = shown;
}

speculated : (s : FlatState) (by : ℕ) (c : CoreState) → s.cores by ≡ Some c → c.straight ≡ false → (d : CoreState) → s.cores by ≡ Some d → d.straight ≡ false
speculated s by c at speculative d at' = let same : c ≡ d = one_value (s.cores by) c d at at' in sym (ap (λ (x : CoreState). x.straight) same) ∙ speculative

-- ---- what a load and a store do, straight or not

load_as : (image : LoadedImage) (s : FlatState) (by : ℕ) (c : CoreState) (address width value : ℕ) (b : Bool) → c.straight ≡ b
    → effect_on image s by c (Load address width value) ≡ record s {
      published = cond b (after_number (next_event image c.hart).now (next_event image c.hart).at value).done s.published;
      cores = with_core s.cores by (Some (record c {
        hart = after_number (next_event image c.hart).now (next_event image c.hart).at value;
        outside = cond b c.outside (joined (read_outside address width c.own s.committed) c.outside);
      }));
    }
load_as image s by c address width value b is =
    let hart = after_number (next_event image c.hart).now (next_event image c.hart).at value in
    ap (λ (x : Bool). let t : FlatState = record s {
      published = cond x hart.done s.published;
      cores = with_core s.cores by (Some (record c { hart = hart; outside = cond x c.outside (joined (read_outside address width c.own s.committed) c.outside) }));
    } in t) is

-- what a store does, of a straight core or not
pub store_as : (image : LoadedImage) (s : FlatState) (by : ℕ) (c : CoreState) (address width value : ℕ) (b : Bool) → c.straight ≡ b
    → effect_on image s by c (Store address width value) ≡ record s {
      committed = cond b (over (stored address width value) s.committed) s.committed;
      published = cond b (stepped (next_event image c.hart).now).done s.published;
      cores = with_core s.cores by (Some (record c {
        hart = stepped (next_event image c.hart).now;
        own = cond b c.own (joined (stored address width value) c.own);
      }));
    }
store_as image s by c address width value b is =
    let hart = stepped (next_event image c.hart).now in
    ap (λ (x : Bool). let t : FlatState = record s {
      committed = cond x (over (stored address width value) s.committed) s.committed;
      published = cond x hart.done s.published;
      cores = with_core s.cores by (Some (record c { hart = hart; own = cond x c.own (joined (stored address width value) c.own) }));
    } in t) is

-- ---- loads

pub load_speculative : (image : LoadedImage) (count : ℕ) (s : FlatState) (by : ℕ) (c : CoreState) (address width : ℕ) (signed : Bool) (rd value : ℕ)
    → Going image count s → s.cores by ≡ Some c → c.hurt ≡ false → c.straight ≡ false
    → (next_event image c.hart).at ≡ stop.Load address width signed rd → number_at (over c.own s.committed) address width ≡ value
    → Going image count (effect_on image s by c (Load address width value))
load_speculative image count s by c address width signed rd value going at unhurt speculative is number =
    let new = record c {
      hart = after_number (next_event image c.hart).now (next_event image c.hart).at value;
      outside = joined (read_outside address width c.own s.committed) c.outside;
    } in
    subst (Going image count) (sym (load_as image s by c address width value false speculative)) (goes_on image count s by c new s.committed s.published going.kept at refl (same_spares s by)
    (load_kept image count s.committed s.homefree s.next_epoch by c address width signed rd value unhurt speculative is number (going.kept.core by c at))
    (shown_with image s.committed s.homefree s.published s.cores by new speculative (speculated s by c at speculative) going.shown))

straight_holds : (image : LoadedImage) (s : FlatState) (c : CoreState) (after : List ℕ) → ((a : ℕ) → c.own a ≡ None)
    → Holds image (over c.own s.committed) after → Holds image s.committed after
straight_holds image s c after none holds =
    record { long = holds.long; bytes = λ a. sym (ap (λ o. unwrap_or o (s.committed a)) (none a)) ∙ holds.bytes a }

pub load_straight : (image : LoadedImage) (count : ℕ) (s : FlatState) (by : ℕ) (c : CoreState) (address width : ℕ) (signed : Bool) (rd value : ℕ)
    → Going image count s → s.cores by ≡ Some c → c.hurt ≡ false → c.straight ≡ true
    → (next_event image c.hart).at ≡ stop.Load address width signed rd → number_at (over c.own s.committed) address width ≡ value
    → Going image count (effect_on image s by c (Load address width value))
load_straight image count s by c address width signed rd value going at unhurt straight is number =
    let hart = after_number (next_event image c.hart).now (next_event image c.hart).at value in
    let new = record c { hart = hart } in
    let was = going.kept.core by c at in
    let homefree = was.straight_homefree straight in
    let run = homefree_run image count s by c going at homefree unhurt in
    let loads = number_at_same (λ a. slice_index run.after a) (over c.own s.committed) address width (λ a low high. sym (run.holds.bytes a)) ∙ number in
    let runs = comes_past_access image (start_of image s.homefree) c.hart hart going.shown.before run.after run.after refl run.runs
    (load_goes_on image c.hart address width signed rd value run.after is loads) (load_counts image c.hart address width signed rd value is) in
    subst (Going image count) (sym (load_as image s by c address width value true straight)) (goes_on image count s by c new s.committed hart.done going.kept at refl (same_spares s by)
    (straight_kept image count s.committed s.committed s.homefree s.next_epoch by c hart straight was)
    (shown_straight image count s by c new s.committed run.after going at homefree straight runs (straight_holds image s c run.after (was.straight_owns straight) run.holds)))

-- ---- stores

pub store_speculative : (image : LoadedImage) (count : ℕ) (s : FlatState) (by : ℕ) (c : CoreState) (address width value : ℕ)
    → Going image count s → s.cores by ≡ Some c → c.hurt ≡ false → c.straight ≡ false
    → (next_event image c.hart).at ≡ stop.Store address width value
    → Going image count (effect_on image s by c (Store address width value))
store_speculative image count s by c address width value going at unhurt speculative is =
    let new = record c { hart = stepped (next_event image c.hart).now; own = joined (stored address width value) c.own } in
    subst (Going image count) (sym (store_as image s by c address width value false speculative)) (goes_on image count s by c new s.committed s.published going.kept at refl (same_spares s by)
    (store_kept image count s.committed s.homefree s.next_epoch by c address width value unhurt speculative is (going.kept.core by c at))
    (shown_with image s.committed s.homefree s.published s.cores by new speculative (speculated s by c at speculative) going.shown))

pub store_straight : (image : LoadedImage) (count : ℕ) (s : FlatState) (by : ℕ) (c : CoreState) (address width value : ℕ)
    → Going image count s → s.cores by ≡ Some c → c.hurt ≡ false → c.straight ≡ true
    → (next_event image c.hart).at ≡ stop.Store address width value → Spares s by (over (stored address width value) s.committed)
    → Going image count (effect_on image s by c (Store address width value))
store_straight image count s by c address width value going at unhurt straight is spares =
    let hart = stepped (next_event image c.hart).now in
    let new = record c { hart = hart } in
    let was = going.kept.core by c at in
    let homefree = was.straight_homefree straight in
    let run = homefree_run image count s by c going at homefree unhurt in
    let committed = over (stored address width value) s.committed in
    let after = with_number run.after address width value in
    let holds = holds_stored image s.committed address width value run.after (store_within image c.hart address width value is)
    (straight_holds image s c run.after (was.straight_owns straight) run.holds) in
    let runs = comes_past_access image (start_of image s.homefree) c.hart hart going.shown.before run.after after refl run.runs
    (store_goes_on image c.hart address width value run.after is) refl in
    subst (Going image count) (sym (store_as image s by c address width value true straight)) (goes_on image count s by c new committed hart.done going.kept at refl spares
    (straight_kept image count s.committed committed s.homefree s.next_epoch by c hart straight was)
    (shown_straight image count s by c new committed after going at homefree straight runs holds))

-- ---- starts and restarts

pub start_goes_on : (image : LoadedImage) (count : ℕ) (s : FlatState) (by epoch : ℕ) → Going image count s → s.cores by ≡ None → by < count
    → epoch ≡ s.next_epoch → epoch < image.epochs → Going image count (effect_idle image s by (Start epoch))
start_goes_on image count s by epoch going idle there next within =
    let kept = going.kept in
    let new = begun image epoch in record {
      kept = record {
        started = omega (arith, next);
        homefree_started = omega (arith, kept.homefree_started);
        core = keeps_with image count s.committed s.homefree (s.next_epoch + 1) s.cores by (Some new)
            (λ c is. let same : new ≡ c = cc in
            subst (λ x. IsKeptCore image count s.committed s.homefree (s.next_epoch + 1) by x) same
            (begun_kept image count s.committed s.homefree (s.next_epoch + 1) by epoch there (omega (arith, next, kept.homefree_started)) (omega (arith, next))))
            (rest_kept image count s by s.committed (s.next_epoch + 1) kept (omega arith) (same_spares s by));
        apart = apart_with s.cores by (Some new)
            (λ c is k d other at same. let fresh : new ≡ c = cc in
            let number : epoch ≡ d.epoch = ap (λ (x : CoreState). x.epoch) fresh ∙ same in omega (arith, number, next, (kept.core k d at).below))
            kept.apart;
      };
      shown = shown_with image s.committed s.homefree s.published s.cores by new refl (λ c at. absurd cc) going.shown;
    }

pub restart_goes_on : (image : LoadedImage) (count : ℕ) (s : FlatState) (by : ℕ) (c : CoreState) → Going image count s → s.cores by ≡ Some c → c.hurt ≡ true
    → Going image count (effect_on image s by c Restart)
restart_goes_on image count s by c going at hurt =
    let was = going.kept.core by c at in
    let speculative : c.straight ≡ false = elim (cases_Bool c.straight) [
      | inl straight ↦ absurd (true≢false (sym hurt ∙ was.straight_unhurt straight))
      | inr is ↦ is
    ] in
    goes_on image count s by c (begun image c.epoch) s.committed s.published going.kept at refl (same_spares s by)
    (begun_kept image count s.committed s.homefree s.next_epoch by c.epoch was.there was.from was.below)
    (shown_with image s.committed s.homefree s.published s.cores by (begun image c.epoch) refl (speculated s by c at speculative) going.shown)

-- ---- hurts

data WasCore (epoch : ℕ) (core : Option CoreState) (c : CoreState) : Type 0 where
  was_core : (d : CoreState) → core ≡ Some d → c ≡ record d { hurt = d.hurt || (d.epoch == epoch) } → WasCore epoch core c

before_hurt : (epoch : ℕ) (core : Option CoreState) (c : CoreState) → hurt_at epoch core ≡ Some c → WasCore epoch core c
before_hurt epoch None c is = absurd cc
before_hurt epoch (Some d) c is = was_core d refl cc

hurt_kept : (image : LoadedImage) (count : ℕ) (committed : ℕ → ℕ) (homefree next_epoch k epoch : ℕ) (d : CoreState) → homefree < epoch
    → IsKeptCore image count committed homefree next_epoch k d
    → IsKeptCore image count committed homefree next_epoch k (record d { hurt = d.hurt || (d.epoch == epoch) })
hurt_kept image count committed homefree next_epoch k epoch d later was = record {
  there = was.there;
  from = was.from;
  below = was.below;
  straight_homefree = was.straight_homefree;
  straight_unhurt = λ straight. let at = was.straight_homefree straight in
      let other : d.epoch ≡ epoch → ⊥ = omega arith in rw (was.straight_unhurt straight) (ne_eqb d.epoch epoch other);
  straight_owns = was.straight_owns;
  straight_read = was.straight_read;
  within = was.within;
  reads_stand = λ unhurt. was.reads_stand (or_parts d.hurt _ unhurt).0;
  runs_alone = λ unhurt speculative memory has.
      let lead = was.runs_alone (or_parts d.hurt _ unhurt).0 speculative memory has in
      record { after = lead.after; runs = lead.runs; holds = lead.holds };
}

hurt_core_kept : (image : LoadedImage) (count : ℕ) (s : FlatState) (epoch : ℕ) → IsKept image count s → s.homefree < epoch → (k : ℕ) (c : CoreState)
    → WasCore epoch (s.cores k) c → IsKeptCore image count s.committed s.homefree s.next_epoch k c
hurt_core_kept image count s epoch kept later k c (was_core d at is) =
    rw is (hurt_kept image count s.committed s.homefree s.next_epoch k epoch d later (kept.core k d at))

hurt_apart : (s : FlatState) (epoch : ℕ) → ((j k : ℕ) (c d : CoreState) → s.cores j ≡ Some c → s.cores k ≡ Some d → c.epoch ≡ d.epoch → j ≡ k)
    → (j k : ℕ) (c d : CoreState) → WasCore epoch (s.cores j) c → WasCore epoch (s.cores k) d → c.epoch ≡ d.epoch → j ≡ k
hurt_apart s epoch apart j k c d (was_core c' at_j is_c) (was_core d' at_k is_d) same =
    apart j k c' d' at_j at_k (sym (ap (λ (x : CoreState). x.epoch) is_c) ∙ (same ∙ ap (λ (x : CoreState). x.epoch) is_d))

hurt_straight : (image : LoadedImage) (s : FlatState) (epoch : ℕ) (shown : Shown image s.committed s.homefree s.published s.cores) (k : ℕ) (c : CoreState)
    → WasCore epoch (s.cores k) c → c.straight ≡ true → (c.hart ≡ shown.hart) × (s.published ≡ c.hart.done)
hurt_straight image s epoch shown k c (was_core d at is) straight =
    rw is (shown.straight k d at (sym (ap (λ (x : CoreState). x.straight) is) ∙ straight))

-- an entry that hurts leaves each core running that ran
pub hurt_there : (epoch : ℕ) (core : Option CoreState) → is_some (hurt_at epoch core) ≡ is_some core
hurt_there epoch None = refl
hurt_there epoch (Some c) = refl

still_hurt : (epoch : ℕ) (core : Option CoreState) (d : CoreState) → core ≡ Some d → hurt_at epoch core ≡ Some (record d { hurt = d.hurt || (d.epoch == epoch) })
still_hurt epoch core d is = rw is refl

pub hurt_goes_on : (image : LoadedImage) (count : ℕ) (s : FlatState) (by : ℕ) (c : CoreState) (epoch : ℕ) → Going image count s → s.cores by ≡ Some c → c.epoch < epoch
    → Going image count (effect_on image s by c (Hurt epoch))
hurt_goes_on image count s by c epoch going at later =
    let kept = going.kept in
    let from : s.homefree < epoch = omega (arith, (kept.core by c at).from) in record {
      kept = record {
        started = kept.started;
        homefree_started = kept.homefree_started;
        core = λ k x is. hurt_core_kept image count s epoch kept from k x (before_hurt epoch (s.cores k) x is);
        apart = λ j k x y is_x is_y. hurt_apart s epoch kept.apart j k x y (before_hurt epoch (s.cores j) x is_x) (before_hurt epoch (s.cores k) y is_y);
      };
      shown = record {
        before = going.shown.before;
        memory = going.shown.memory;
        hart = going.shown.hart;
        done = going.shown.done;
        long = going.shown.long;
        runs = going.shown.runs;
        holds = going.shown.holds;
        straight = λ k x is. hurt_straight image s epoch going.shown k x (before_hurt epoch (s.cores k) x is);
        unpublished = λ none. going.shown.unpublished (λ k d at_k. none k _ (still_hurt epoch (s.cores k) d at_k));
      };
    }

-- ---- cancels

kept_by : (b : Bool) (d c : CoreState) → cond b None (Some d) ≡ Some c → Some d ≡ Some c
kept_by true d c is = absurd cc
kept_by false d c is = is

-- a core that still runs ran before
pub still_runs : (epoch : ℕ) (core : Option CoreState) (c : CoreState) → idle_at epoch core ≡ Some c → core ≡ Some c
still_runs epoch None c is = absurd cc
still_runs epoch (Some d) c is = kept_by (d.epoch == epoch) d c is

-- the core of another epoch runs on
pub runs_on : (epoch : ℕ) (core : Option CoreState) (d : CoreState) → core ≡ Some d → d.epoch ≢ epoch → idle_at epoch core ≡ Some d
runs_on epoch core d is other = ap (idle_at epoch) is ∙ ap (λ b. cond b None (Some d)) (ne_eqb d.epoch epoch other)

pub cancel_goes_on : (image : LoadedImage) (count : ℕ) (s : FlatState) (by : ℕ) (c : CoreState) (epoch : ℕ) → Going image count s → s.cores by ≡ Some c → c.epoch < epoch
    → Going image count (effect_on image s by c (Cancel epoch))
cancel_goes_on image count s by c epoch going at later =
    let kept = going.kept in
    let shown = going.shown in
    let from : s.homefree < epoch = omega (arith, (kept.core by c at).from) in record {
      kept = record {
        started = kept.started;
        homefree_started = kept.homefree_started;
        core = λ k x is. kept.core k x (still_runs epoch (s.cores k) x is);
        apart = λ j k x y is_x is_y. kept.apart j k x y (still_runs epoch (s.cores j) x is_x) (still_runs epoch (s.cores k) y is_y);
      };
      shown = record {
        before = shown.before;
        memory = shown.memory;
        hart = shown.hart;
        done = shown.done;
        long = shown.long;
        runs = shown.runs;
        holds = shown.holds;
        straight = λ k x is. shown.straight k x (still_runs epoch (s.cores k) x is);
        unpublished = λ none. shown.unpublished (λ k d at_k. elim (cases_Bool d.straight) [
          | inl straight ↦ let here = (kept.core k d at_k).straight_homefree straight in none k d (runs_on epoch (s.cores k) d at_k (omega (arith, here, from)))
          | inr speculates ↦ speculates
        ]);
      };
    }

-- ---- the homefree epoch's own

pub publish_goes_on : (image : LoadedImage) (count : ℕ) (s : FlatState) (by : ℕ) (c : CoreState) → Going image count s → s.cores by ≡ Some c → c.hurt ≡ false
    → c.epoch ≡ s.homefree → Spares s by (over c.own s.committed) → Going image count (effect_on image s by c Publish)
publish_goes_on image count s by c going at unhurt homefree spares =
    let new = record c { own = nothing; outside = nothing; straight = true } in
    let was = going.kept.core by c at in
    let run = homefree_run image count s by c going at homefree unhurt in
    goes_on image count s by c new (over c.own s.committed) c.hart.done going.kept at refl spares
    (record {
      there = was.there;
      from = was.from;
      below = was.below;
      straight_homefree = λ is. homefree;
      straight_unhurt = λ is. unhurt;
      straight_owns = λ is a. refl;
      straight_read = λ is a. refl;
      within = λ a byte is. absurd cc;
      reads_stand = λ same a byte is. absurd cc;
      runs_alone = λ same speculative. absurd (true≢false speculative);
    })
    (shown_straight image count s by c new (over c.own s.committed) run.after going at homefree refl run.runs run.holds)

-- the outcome of the homefree epoch, where it ends
homefree_ends : (image : LoadedImage) (s : FlatState) (c : CoreState) (before after : List ℕ) → (next_event image c.hart).at ≡ stop.Ended
    → after_steps image c.hart.done (start_of image s.homefree) before ≡ Runs c.hart after
    → epoch_outcome image s.homefree before ≡ Ends (next_event image c.hart).now after
homefree_ends image s c before after ends runs =
    outcome_there image s.homefree c.hart before after (Ends (next_event image c.hart).now after) runs (rw ends refl) tt

pub commit_goes_on : (image : LoadedImage) (count : ℕ) (s : FlatState) (by : ℕ) (c : CoreState) → Going image count s → s.cores by ≡ Some c → c.hurt ≡ false
    → c.epoch ≡ s.homefree → (next_event image c.hart).at ≡ stop.Ended → exits image (next_event image c.hart).now ≡ false → Spares s by (over c.own s.committed)
    → Going image count (effect_on image s by c Commit)
commit_goes_on image count s by c going at unhurt homefree ends goes_on spares =
    let kept = going.kept in
    let run = homefree_run image count s by c going at homefree unhurt in
    let outcome = homefree_ends image s c going.shown.before run.after ends run.runs in
    let straight = others_speculate image count s by c kept at homefree in record {
      kept = record {
        started = kept.started;
        homefree_started = omega (arith, homefree, (kept.core by c at).below);
        core = keeps_with image count (over c.own s.committed) (s.homefree + 1) s.next_epoch s.cores by None (λ x is. absurd cc)
            (λ k d other at_k.
            let was = kept.core k d at_k in
            let apart : d.epoch ≡ c.epoch → ⊥ = λ same. other (kept.apart k by d c at_k at same) in
            moves_on image count s.committed (over c.own s.committed) s.homefree (s.homefree + 1) s.next_epoch s.next_epoch k d
            (omega (arith, was.from, apart, homefree)) (λ is. absurd (straight k d other at_k is)) (omega arith) (spares k d at_k other) was);
        apart = apart_with s.cores by None (λ x is. absurd cc) kept.apart;
      };
      shown = record {
        before = run.after;
        memory = run.after;
        hart = start_of image (s.homefree + 1);
        done = first_epochs-ends image s.homefree (next_event image c.hart).now going.shown.before run.after going.shown.done (sym outcome) goes_on;
        long = run.holds.long;
        runs = start_runs image (s.homefree + 1) run.after;
        holds = run.holds;
        straight = λ k d at_k is. elim (at_core s.cores by None k d at_k) [
          | inl same ↦ absurd (none-some d same.1)
          | inr other ↦ absurd (straight k d other.0 other.1 is)
        ];
        unpublished = λ none. refl;
      };
    }

-- ---- the end

-- no core runs but this one
idle_but : (image : LoadedImage) (count : ℕ) (s : FlatState) (by k : ℕ) (core : Option CoreState) → IsKept image count s → s.cores k ≡ core → k ≢ by
    → other_runs count s by ≡ false → core ≡ None
idle_but image count s by k None kept at other alone = refl
idle_but image count s by k (Some d) kept at other alone =
    let here : (not (k == by) && is_some (s.cores k)) ≡ false = none_below count _ alone k (kept.core k d at).there in
    let runs : (not (k == by) && is_some (s.cores k)) ≡ true = rw (ne_eqb k by other, at) refl in
    absurd (true≢false (sym runs ∙ here))

-- where all epochs are done no core runs
pub idle_at_the_end : (image : LoadedImage) (count : ℕ) (s : FlatState) (k : ℕ) (core : Option CoreState) → IsKept image count s → s.homefree ≡ image.epochs → s.cores k ≡ core → core ≡ None
idle_at_the_end image count s k None kept all at = refl
idle_at_the_end image count s k (Some d) kept all at =
    let was = kept.core k d at in absurd (omega (arith, was.from, was.below, kept.started, all))

-- the commit of an epoch that exits
pub exit_published : (image : LoadedImage) (count : ℕ) (s : FlatState) (by : ℕ) (c : CoreState) → Going image count s → s.cores by ≡ Some c → c.hurt ≡ false
    → c.epoch ≡ s.homefree → (next_event image c.hart).at ≡ stop.Ended → exits image (next_event image c.hart).now ≡ true → IsPublished image (effect_on image s by c Commit)
exit_published image count s by c going at unhurt homefree ends exit =
    let run = homefree_run image count s by c going at homefree unhurt in
    let outcome = homefree_ends image s c going.shown.before run.after ends run.runs in record {
      memory = run.after;
      published = published_memory-exit image s.homefree run.after
          (ap (first_epochs image) (add-one s.homefree)
          ∙ first_epochs-exits image s.homefree (next_event image c.hart).now going.shown.before run.after going.shown.done (sym outcome) exit);
      holds = run.holds;
    }

pub exit_ends : (image : LoadedImage) (count : ℕ) (s : FlatState) (by : ℕ) (c : CoreState) (e : End) → Going image count s → s.cores by ≡ Some c → c.hurt ≡ false
    → c.epoch ≡ s.homefree → (next_event image c.hart).at ≡ stop.Ended → exits image (next_event image c.hart).now ≡ true → other_runs count s by ≡ false
    → Some (end.Exit s.homefree) ≡ Some e → EndsInOrder image (effect_on image s by c Commit) e
exit_ends image count s by c e going at unhurt homefree ends exit alone end_is =
    let run = homefree_run image count s by c going at homefree unhurt in
    let outcome = homefree_ends image s c going.shown.before run.after ends run.runs in
    let within : s.homefree < image.epochs = omega (arith, going.kept.started, (going.kept.core by c at).below, homefree) in
    let whole = sequential_result-exit image s.homefree (next_event image c.hart).now going.shown.before run.after within going.shown.done (sym outcome) exit in
    let same : end.Exit s.homefree ≡ e = cc in
    rw (← same) (record {
      end_is = sym (ap (λ (r : SequentialResult). r.end) whole);
      at_homefree = refl;
      idle = λ k. elim (cases_eq k by) [
        | inl e ↦ rw e (with_core_same s.cores by None)
        | inr other ↦ with_core_other s.cores by None k other ∙ idle_but image count s by k (s.cores k) going.kept refl other alone
      ];
      holds = rw whole run.holds;
    })

pub published_is : (image : LoadedImage) (count : ℕ) (s : FlatState) → Going image count s → IsPublished image s
published_is image count s going = record {
  memory = going.shown.memory;
  published = published_memory-is image s.homefree s.published going.shown.before going.shown.memory going.shown.hart going.shown.done going.shown.runs;
  holds = going.shown.holds;
}

pub fault_published : (image : LoadedImage) (count : ℕ) (s : FlatState) (by : ℕ) (c : CoreState) (cause pc : ℕ) → Going image count s → s.cores by ≡ Some c → c.hurt ≡ false
    → c.epoch ≡ s.homefree → IsPublished image (effect_on image s by c (Fault cause pc))
fault_published image count s by c cause pc going at unhurt homefree =
    let run = homefree_run image count s by c going at homefree unhurt in record {
      memory = run.after;
      published = published_memory-is image s.homefree _ going.shown.before run.after (next_event image c.hart).now going.shown.done
          (comes_to_event image (start_of image s.homefree) c.hart going.shown.before run.after refl run.runs);
      holds = run.holds;
    }

pub fault_ends : (image : LoadedImage) (count : ℕ) (s : FlatState) (by : ℕ) (c : CoreState) (cause pc : ℕ) (e : End) → Going image count s → s.cores by ≡ Some c → c.hurt ≡ false
    → c.epoch ≡ s.homefree → (next_event image c.hart).at ≡ stop.Fault cause pc → Some (end.Fault c.epoch cause pc) ≡ Some e
    → EndsInOrder image (effect_on image s by c (Fault cause pc)) e
fault_ends image count s by c cause pc e going at unhurt homefree is end_is =
    let run = homefree_run image count s by c going at homefree unhurt in
    let outcome : epoch_outcome image s.homefree going.shown.before ≡ Faults cause pc run.after =
    outcome_there image s.homefree c.hart going.shown.before run.after (Faults cause pc run.after) run.runs (rw is refl) tt in
    let within : s.homefree < image.epochs = omega (arith, going.kept.started, (going.kept.core by c at).below, homefree) in
    let whole = sequential_result-fault image s.homefree cause pc going.shown.before run.after within going.shown.done (sym outcome) in
    let same : end.Fault s.homefree cause pc ≡ e = cc in
    rw (← same) (record {
      end_is = sym (ap (λ (r : SequentialResult). r.end) whole);
      at_homefree = refl;
      idle = tt;
      holds = rw whole run.holds;
    })

ended_by : (image : LoadedImage) (s : FlatState) (memory : List ℕ) (b : Bool) (e : End) → (s.homefree == image.epochs) ≡ b
    → first_epochs image s.homefree ≡ record { end = end.Done s.homefree; bytes = memory } → Holds image s.committed memory → (s.homefree ≡ image.epochs → (k : ℕ) → s.cores k ≡ None)
    → cond b (Some (end.Done s.homefree)) None ≡ Some e → EndsInOrder image s e
ended_by image s memory true e last done holds idle is =
    let all : s.homefree ≡ image.epochs = eqb-true s.homefree image.epochs last in
    let whole = sequential_result-done image memory (rw all at done) in
    let same : end.Done s.homefree ≡ e = cc in
    rw (← same) (record {
      end_is = ap end.Done all ∙ sym (ap (λ (r : SequentialResult). r.end) whole);
      at_homefree = (all, all);
      idle = idle all;
      holds = rw whole holds;
    })
ended_by image s memory false e last done holds idle is = absurd cc

-- where all epochs are done, the loop has ended as the sequential one does
pub ends_done : (image : LoadedImage) (s : FlatState) (memory : List ℕ) (e : End)
    → first_epochs image s.homefree ≡ record { end = end.Done s.homefree; bytes = memory } → Holds image s.committed memory → (s.homefree ≡ image.epochs → (k : ℕ) → s.cores k ≡ None)
    → end_at image s.homefree ≡ Some e → EndsInOrder image s e
ends_done image s memory e done holds idle is = ended_by image s memory (s.homefree == image.epochs) e refl done holds idle is
