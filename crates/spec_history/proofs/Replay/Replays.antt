-- Proofs of the laws of replay.
use Rattle.std.proofs.Common.{◌≡◌, ℕ, ◌+◌, ◌==◌, ◌&&◌, not, nat_lt, Bool, true, false, cond, List, [], ◌∷◌, Option, Some, None, is_some, refl, sym, ap, subst, ◌∙◌, true≢false, arith, eqb-true, ltb-true}
use Rattle.std.proofs.lemmas.Bool.{and_parts, not-true}
use Rattle.rv32_exec.specs.declared.stop.Stop.TheVariants as stop
use Rattle.rv32_exec.specs.declared.sequential.End.{End}
use Rattle.rv32_exec.specs.declared.sequential.End.TheVariants as end
use Rattle.memory_bytes.specs.Bytes.{number_at}
use Rattle.rv32_image.specs.Image.{LoadedImage, IsImage}
use Rattle.rv32_exec.specs.Hart.{start_of}
use Rattle.rv32_exec.specs.NextEvent.{next_event}
use Rattle.rv32_exec.specs.Hart.{HartState}
use Rattle.rv32_exec.specs.Sequential.{Runs, exits, after_steps}
use Rattle.rv32_exec.proofs.Epochs.{first_epochs-none}
use Rattle.spec_history.specs.declared.entry.Entry.{Entry}
use Rattle.spec_history.specs.declared.entry.What.{What}
use Rattle.spec_history.specs.declared.entry.What.TheVariants.{Start, Load, Store, Hurt, Cancel, Restart, Publish, Commit, Fault}
use Rattle.spec_history.specs.declared.illegal.Illegal.{Illegal}
use Rattle.memory_bytes.specs.Maps.{over, stored}
use Rattle.spec_history.specs.FlatState.{CoreState, FlatState, end_at, first_state}
use Rattle.spec_history.specs.Effect.{by_core, effect, effect_on, effect_idle}
use Rattle.spec_history.specs.Refusal.{refusal_of, runs, runs_and, next_is, is_an_exit, other_runs}
use Rattle.spec_history.specs.Replay.{where_legal, replay_from, replay}
use Rattle.spec_history.specs.Laws.{Holds, IsKept, IsPublished, EndsInOrder}
use Rattle.spec_history.proofs.OneEntry.Legal.{and_false, IsLegalEntry, legal_entry, spared, that_load, that_store, the_end, that_fault}
use Rattle.spec_history.proofs.OneEntry.Going.{Going, Spares}
use Rattle.spec_history.proofs.OneEntry.Entries.{load_speculative, load_straight, store_speculative, store_straight, start_goes_on, restart_goes_on, hurt_goes_on, cancel_goes_on, publish_goes_on, commit_goes_on, exit_published, exit_ends, published_is, fault_published, fault_ends, idle_at_the_end, ends_done}

-- what holds of every state that a replay reaches
pub record Whole (image : LoadedImage) (count : ℕ) (s : FlatState) : Type 0 where
  pub published : IsPublished image s
  pub ends : (e : End) → s.end ≡ Some e → EndsInOrder image s e
  pub going : s.end ≡ None → Going image count s

-- ---- one entry

goes : (image : LoadedImage) (count : ℕ) (s : FlatState) → s.end ≡ None → Going image count s → Whole image count s
goes image count s none going = record {
  published = published_is image count s going;
  ends = λ e is. absurd cc;
  going = λ same. going;
}

pub effect-on : (image : LoadedImage) (s : FlatState) (by : ℕ) (what : What) (c : CoreState) → s.cores by ≡ Some c
    → effect image s (record { by = by; what = what }) ≡ effect_on image s by c what
unfolding effect
effect-on image s by what c at = ap (λ core. by_core core (effect_idle image s by what) (λ x. effect_on image s by x what)) at

pub effect-idle : (image : LoadedImage) (s : FlatState) (by : ℕ) (what : What) → s.cores by ≡ None
    → effect image s (record { by = by; what = what }) ≡ effect_idle image s by what
unfolding effect
effect-idle image s by what at = ap (λ core. by_core core (effect_idle image s by what) (λ x. effect_on image s by x what)) at

-- the others are spared
spares : (image : LoadedImage) (count : ℕ) (s : FlatState) (by : ℕ) (what : What) (c : CoreState) → IsLegalEntry image count s (record { by = by; what = what })
    → IsKept image count s → s.cores by ≡ Some c → Spares s by (effect_on image s by c what).committed
spares image count s by what c legal kept at k d at_k other unhurt a byte read =
    let was = kept.core k d at_k in
    sym (ap (λ (x : FlatState). x.committed a) (effect-on image s by what c at))
    ∙ spared image count s (record { by = by; what = what }) legal.spares k d at_k other was.there unhurt a byte read (was.within a byte read)

-- a core that runs and passes a test
pub record RunsAnd (core : Option CoreState) (c : CoreState) (test : CoreState → Bool) : Type 0 where
  pub unhurt : c.hurt ≡ false
  pub passes : test c ≡ true

-- so it is where the test of running and of passing says so
pub runs_so : (core : Option CoreState) (c : CoreState) (test : CoreState → Bool) → core ≡ Some c → runs_and core test ≡ true → RunsAnd core c test
runs_so core c test at is =
    let both = and_parts (not c.hurt) (test c) (sym (ap (λ o. runs_and o test) at) ∙ is) in record { unhurt = not-true c.hurt both.0; passes = both.1 }

pub on_core : (core : Option CoreState) (c : CoreState) (test : CoreState → Bool) → core ≡ Some c → by_core core false test ≡ true → test c ≡ true
on_core core c test at is = sym (ap (λ o. by_core o false test) at) ∙ is

abbrev Steps : LoadedImage → ℕ → FlatState → ℕ → What → Type 0
Steps image count s by what = IsLegalEntry image count s (record { by = by; what = what }) → Going image count s → Whole image count (effect image s (record { by = by; what = what }))

on : (image : LoadedImage) (count : ℕ) (s : FlatState) (by : ℕ) (what : What) (c : CoreState) → s.cores by ≡ Some c
    → Whole image count (effect_on image s by c what) → Whole image count (effect image s (record { by = by; what = what }))
on image count s by what c at whole = rw (effect-on image s by what c at) whole

straight_bytes : (b : Bool) (committed committed' : ℕ → ℕ) (a : ℕ) → b ≡ true → committed a ≡ cond b committed committed' a
straight_bytes true committed committed' a is = refl
straight_bytes false committed committed' a is = absurd cc

store_spares : (image : LoadedImage) (s : FlatState) (by : ℕ) (c : CoreState) (address width value : ℕ) → c.straight ≡ true
    → Spares s by (effect_on image s by c (Store address width value)).committed → Spares s by (over (stored address width value) s.committed)
store_spares image s by c address width value straight spares k d at other unhurt a byte read =
    straight_bytes c.straight _ _ a straight ∙ spares k d at other unhurt a byte read

after_load : (image : LoadedImage) (count : ℕ) (s : FlatState) (by address width value : ℕ) (c : CoreState) → s.cores by ≡ Some c → s.end ≡ None → Going image count s
    → c.hurt ≡ false → (signed : Bool) (rd : ℕ) → (next_event image c.hart).at ≡ stop.Load address width signed rd → number_at (over c.own s.committed) address width ≡ value
    → (b : Bool) → c.straight ≡ b → Whole image count (effect_on image s by c (Load address width value))
after_load image count s by address width value c at none going unhurt signed rd is number true straight =
    goes image count _ none (load_straight image count s by c address width signed rd value going at unhurt straight is number)
after_load image count s by address width value c at none going unhurt signed rd is number false straight =
    goes image count _ none (load_speculative image count s by c address width signed rd value going at unhurt straight is number)

after_store : (image : LoadedImage) (count : ℕ) (s : FlatState) (by address width value : ℕ) (c : CoreState) → s.cores by ≡ Some c → s.end ≡ None → Going image count s
    → c.hurt ≡ false → (next_event image c.hart).at ≡ stop.Store address width value → Spares s by (effect_on image s by c (Store address width value)).committed
    → (b : Bool) → c.straight ≡ b → Whole image count (effect_on image s by c (Store address width value))
after_store image count s by address width value c at none going unhurt is spares true straight =
    goes image count _ none
    (store_straight image count s by c address width value going at unhurt straight is (store_spares image s by c address width value straight spares))
after_store image count s by address width value c at none going unhurt is spares false straight =
    goes image count _ none (store_speculative image count s by c address width value going at unhurt straight is)

-- before an epoch has published anything
begins : (image : LoadedImage) (committed : ℕ → ℕ) (before memory : List ℕ) (from hart : HartState) → after_steps image 0 from before ≡ Runs hart memory
    → Holds image committed memory → Holds image committed before
unfolding after_steps
begins image committed before memory from hart runs holds = let same : memory ≡ before = cc in subst (Holds image committed) same holds

exited : (b : Bool) (epoch : ℕ) (other : Option End) → b ≡ true → cond b (Some (end.Exit epoch)) other ≡ None → ⊥
exited true epoch other is none = cc
exited false epoch other is none = cc

-- the loop is over where the last epoch commits, or one that exits
after_commit : (image : LoadedImage) (count : ℕ) (s : FlatState) (by : ℕ) (c : CoreState) → s.cores by ≡ Some c → Going image count s → c.hurt ≡ false → c.epoch ≡ s.homefree
    → (next_event image c.hart).at ≡ stop.Ended → Spares s by (over c.own s.committed) → (b : Bool) → exits image (next_event image c.hart).now ≡ b
    → (next_is image (s.cores by) (is_an_exit image) && other_runs count s by) ≡ false → Whole image count (effect_on image s by c Commit)
after_commit image count s by c at going unhurt homefree ends spares true exit cancelled = record {
  published = exit_published image count s by c going at unhurt homefree ends exit;
  ends = λ e is. exit_ends image count s by c e going at unhurt homefree ends exit
      (and_false (next_is image (s.cores by) (is_an_exit image)) (other_runs count s by) cancelled (ap (λ o. next_is image o (is_an_exit image)) at ∙ rw (ends, exit) refl))
      (sym (ap (λ b. cond b (Some (end.Exit s.homefree)) (end_at image (s.homefree + 1))) exit) ∙ is);
  going = λ none. absurd (exited (exits image (next_event image c.hart).now) s.homefree (end_at image (s.homefree + 1)) exit none);
}
after_commit image count s by c at going unhurt homefree ends spares false goes_on cancelled =
    let later = commit_goes_on image count s by c going at unhurt homefree ends goes_on spares in record {
      published = published_is image count _ later;
      ends = λ e is. ends_done image (effect_on image s by c Commit) later.shown.before e later.shown.done (begins image _ _ _ _ _ later.shown.runs later.shown.holds)
          (λ all k. idle_at_the_end image count (effect_on image s by c Commit) k ((effect_on image s by c Commit).cores k) later.kept all refl)
          (sym (ap (λ b. cond b (Some (end.Exit s.homefree)) (end_at image (s.homefree + 1))) goes_on) ∙ is);
      going = λ none. later;
    }

started : (image : LoadedImage) (count : ℕ) (s : FlatState) (by epoch : ℕ) (c : CoreState) → s.cores by ≡ Some c → IsLegalEntry image count s (record { by = by; what = Start epoch }) → ⊥
started image count s by epoch c at legal =
    let there = and_parts (nat_lt by count) _ legal.there in
    true≢false (sym there.1 ∙ ap (λ (o : Option CoreState). not (is_some o)) at)

pub not_running : (core : Option CoreState) (test : CoreState → Bool) → core ≡ None → runs_and core test ≡ true → ⊥
not_running core test at is = true≢false (sym is ∙ ap (λ o. runs_and o test) at)

step_on : (image : LoadedImage) (count : ℕ) (s : FlatState) (by : ℕ) (what : What) (c : CoreState) → s.cores by ≡ Some c → Steps image count s by what
step_on image count s by (Start epoch) c at legal going = absurd (started image count s by epoch c at legal)
step_on image count s by (Load address width value) c at legal going =
    let runs = runs_so (s.cores by) c (λ _. true) at legal.there in
    let next = that_load address width _ (on_core (s.cores by) c _ at legal.next) in
    let number = eqb-true _ _ (on_core (s.cores by) c _ at legal.value) in
    on image count s by _ c at (after_load image count s by address width value c at legal.going going runs.unhurt next.0 next.1 next.2 number c.straight refl)
step_on image count s by (Store address width value) c at legal going =
    let runs = runs_so (s.cores by) c (λ _. true) at legal.there in
    let next = that_store address width value _ (on_core (s.cores by) c _ at legal.next) in
    on image count s by _ c at (after_store image count s by address width value c at legal.going going runs.unhurt next (spares image count s by _ c legal going.kept at) c.straight refl)
step_on image count s by (Hurt epoch) c at legal going =
    let both = and_parts (runs_and (s.cores by) (λ x. nat_lt x.epoch epoch)) _ legal.there in
    let runs = runs_so (s.cores by) c (λ x. nat_lt x.epoch epoch) at both.0 in
    on image count s by _ c at (goes image count _ legal.going (hurt_goes_on image count s by c epoch going at (ltb-true _ _ runs.passes)))
step_on image count s by (Cancel epoch) c at legal going =
    let both = and_parts (runs_and (s.cores by) (λ x. nat_lt x.epoch epoch)) _ legal.there in
    let runs = runs_so (s.cores by) c (λ x. nat_lt x.epoch epoch) at both.0 in
    on image count s by _ c at (goes image count _ legal.going (cancel_goes_on image count s by c epoch going at (ltb-true _ _ runs.passes)))
step_on image count s by Restart c at legal going =
    on image count s by _ c at (goes image count _ legal.going (restart_goes_on image count s by c going at (on_core (s.cores by) c (λ x. x.hurt) at legal.there)))
step_on image count s by Publish c at legal going =
    let runs = runs_so (s.cores by) c (λ x. not x.straight) at legal.there in
    let homefree = eqb-true _ _ (on_core (s.cores by) c _ at legal.homefree) in
    on image count s by _ c at (goes image count _ legal.going (publish_goes_on image count s by c going at runs.unhurt homefree (spares image count s by _ c legal going.kept at)))
step_on image count s by Commit c at legal going =
    let runs = runs_so (s.cores by) c (λ _. true) at legal.there in
    let homefree = eqb-true _ _ (on_core (s.cores by) c _ at legal.homefree) in
    let ends = the_end _ (on_core (s.cores by) c _ at legal.next) in
    on image count s by _ c at (after_commit image count s by c at going runs.unhurt homefree ends (spares image count s by _ c legal going.kept at) (exits image (next_event image c.hart).now) refl legal.cancelled)
step_on image count s by (Fault cause pc) c at legal going =
    let runs = runs_so (s.cores by) c (λ _. true) at legal.there in
    let homefree = eqb-true _ _ (on_core (s.cores by) c _ at legal.homefree) in
    let faults = that_fault cause pc _ (on_core (s.cores by) c _ at legal.next) in
    on image count s by _ c at (record {
      published = fault_published image count s by c cause pc going at runs.unhurt homefree;
      ends = λ e is. fault_ends image count s by c cause pc e going at runs.unhurt homefree faults is;
      going = λ none. absurd cc;
    })

step_idle : (image : LoadedImage) (count : ℕ) (s : FlatState) (by : ℕ) (what : What) → s.cores by ≡ None → Steps image count s by what
step_idle image count s by (Start epoch) at legal going =
    let there = and_parts (nat_lt by count) _ legal.there in
    let next = and_parts (epoch == s.next_epoch) (nat_lt epoch image.epochs) legal.next in
    rw (effect-idle image s by (Start epoch) at)
    (goes image count _ legal.going (start_goes_on image count s by epoch going at (ltb-true _ _ there.0) (eqb-true _ _ next.0) (ltb-true _ _ next.1)))
step_idle image count s by (Load address width value) at legal going = absurd (not_running (s.cores by) _ at legal.there)
step_idle image count s by (Store address width value) at legal going = absurd (not_running (s.cores by) _ at legal.there)
step_idle image count s by (Hurt epoch) at legal going = absurd (not_running (s.cores by) _ at (and_parts (runs_and (s.cores by) (λ x. nat_lt x.epoch epoch)) _ legal.there).0)
step_idle image count s by (Cancel epoch) at legal going = absurd (not_running (s.cores by) _ at (and_parts (runs_and (s.cores by) (λ x. nat_lt x.epoch epoch)) _ legal.there).0)
step_idle image count s by Restart at legal going = absurd (true≢false (sym legal.there ∙ ap (λ o. by_core o false (λ x. x.hurt)) at))
step_idle image count s by Publish at legal going = absurd (not_running (s.cores by) _ at legal.there)
step_idle image count s by Commit at legal going = absurd (not_running (s.cores by) _ at legal.there)
step_idle image count s by (Fault cause pc) at legal going = absurd (not_running (s.cores by) _ at legal.there)

step_by : (image : LoadedImage) (count : ℕ) (s : FlatState) (by : ℕ) (what : What) (core : Option CoreState) → s.cores by ≡ core → Steps image count s by what
step_by image count s by what None at = step_idle image count s by what at
step_by image count s by what (Some c) at = step_on image count s by what c at

-- ---- all entries

pub one_entry : (image : LoadedImage) (count : ℕ) (s : FlatState) (entry : Entry) → refusal_of image count s entry ≡ None → Whole image count s → Whole image count (effect image s entry)
one_entry image count s entry is whole =
    let legal = legal_entry image count s entry is in
    step_by image count s entry.by entry.what (s.cores entry.by) refl legal (whole.going legal.going)

-- a state that is reached where nothing is refused is reached, and nothing is refused
pub legal_first : (refusal : Option Illegal) (o : Option FlatState) (t : FlatState) → where_legal refusal o ≡ Some t → (refusal ≡ None) × (o ≡ Some t)
legal_first None o t is = (refl, is)
legal_first (Some r) o t is = absurd cc

-- where the rest replays, the entry was legal
pub legal_by : {P : Type 0} → (image : LoadedImage) (count : ℕ) (s : FlatState) (entry : Entry) (entries : List Entry) (last : FlatState) (refusal : Option Illegal)
    → refusal_of image count s entry ≡ refusal → where_legal refusal (replay_from image count (effect image s entry) entries) ≡ Some last
    → (refusal_of image count s entry ≡ None → replay_from image count (effect image s entry) entries ≡ Some last → P) → P
legal_by image count s entry entries last None is replays later = later is replays
legal_by image count s entry entries last (Some refusal) is replays later = absurd cc

-- one entry that leads to a state is legal, and the state is its effect
pub one_legal : (image : LoadedImage) (count : ℕ) (s t : FlatState) (entry : Entry) → replay_from image count s (entry ∷ []) ≡ Some t
    → (refusal_of image count s entry ≡ None) × (effect image s entry ≡ t)
unfolding replay_from
one_legal image count s t entry replays =
    legal_by image count s entry [] t (refusal_of image count s entry) refl replays (λ legal rest. let same : effect image s entry ≡ t = cc in (legal, same))

pub all_entries : (image : LoadedImage) (count : ℕ) (entries : List Entry) (s last : FlatState) → Whole image count s → replay_from image count s entries ≡ Some last → Whole image count last
unfolding replay_from
all_entries image count [] s last whole replays = let same : s ≡ last = cc in subst (Whole image count) same whole
all_entries image count (entry ∷ entries) s last whole replays =
    legal_by image count s entry entries last (refusal_of image count s entry) refl replays
    (λ legal rest. all_entries image count entries (effect image s entry) last (one_entry image count s entry legal whole) rest)

-- ---- the first state

first_runs : (image : LoadedImage) → after_steps image 0 (start_of image 0) image.bytes ≡ Runs (start_of image 0) image.bytes
unfolding after_steps
first_runs image = refl

first_going : (image : LoadedImage) (count : ℕ) → IsImage image → Going image count (first_state image)
first_going image count is = record {
  kept = record {
    started = omega arith;
    homefree_started = omega arith;
    core = λ k c at. absurd cc;
    apart = λ j k c d at. absurd cc;
  };
  shown = record {
    before = image.bytes;
    memory = image.bytes;
    hart = start_of image 0;
    done = first_epochs-none image;
    long = is.byte_count;
    runs = first_runs image;
    holds = record { long = is.byte_count; bytes = λ a. refl };
    straight = λ k c at. absurd cc;
    unpublished = λ none. refl;
  };
}

pub first_whole : (image : LoadedImage) (count : ℕ) → IsImage image → Whole image count (first_state image)
first_whole image count is =
    let going = first_going image count is in record {
      published = published_is image count (first_state image) going;
      ends = λ e at. ends_done image (first_state image) image.bytes e (first_epochs-none image) (record { long = is.byte_count; bytes = λ a. refl }) (λ all k. refl) at;
      going = λ none. going;
    }

pub replayed : (image : LoadedImage) (count : ℕ) (entries : List Entry) (s : FlatState) → IsImage image → replay image count entries ≡ Some s → Whole image count s
unfolding replay
replayed image count entries s is replays = all_entries image count entries (first_state image) s (first_whole image count is) replays
