-- How many epochs run, and so how far apart they are: each that has started and not committed is run by a core of its own, until
-- one is cancelled.
use Rattle.std.proofs.Common.{◌≡◌, ℕ, ◌+◌, ◌<◌, ◌≤◌, is_some, nat_lt, Option, Some, None, refl, sym, ap, ◌∙◌, inl, inr, arith, ltb-true}
use Rattle.std.proofs.lemmas.Bool.{and_parts, cases_eq}
use Rattle.rv32_image.specs.Image.{LoadedImage}
use Rattle.spec_history.specs.declared.entry.What.{What}
use Rattle.spec_history.specs.declared.entry.What.TheVariants.{Start, Load, Store, Hurt, Cancel, Restart, Publish, Commit, Fault}
use Rattle.spec_history.specs.FlatState.{CoreState, FlatState, first_state}
use Rattle.spec_history.specs.Effect.{hurt_at, effect, effect_on, effect_idle, with_core}
use Rattle.spec_history.specs.Searches.{count_below}
use Rattle.spec_history.proofs.OneEntry.Keeping.{with_core_same, with_core_other}
use Rattle.spec_history.proofs.OneEntry.Legal.{IsLegalEntry}
use Rattle.spec_history.proofs.OneEntry.Going.{Going}
use Rattle.spec_history.proofs.Replay.Replays.{effect-on, effect-idle}
use Rattle.spec_history.proofs.OneEntry.Entries.{hurt_there}
use Rattle.spec_history.proofs.Searches.Tests.{count_same}
use Rattle.epoch_paths.proofs.Cores.{count_most, count_more}

-- ---- the epochs that run

abbrev pub running : ℕ → (ℕ → Option CoreState) → ℕ
running count cores = count_below count (λ k. is_some (cores k))

-- each epoch that has started and not committed is run
pub record AllRun (count : ℕ) (s : FlatState) : Type 0 where
  pub all : s.next_epoch ≤ s.homefree + running count s.cores

running_same : (count : ℕ) (cores cores' : ℕ → Option CoreState) → ((k : ℕ) → is_some (cores' k) ≡ is_some (cores k)) → running count cores' ≡ running count cores
running_same count cores cores' same = count_same count (λ k. is_some (cores' k)) (λ k. is_some (cores k)) (λ k below. same k)

still_there : (cores : ℕ → Option CoreState) (by : ℕ) (c new : CoreState) → cores by ≡ Some c → (k : ℕ) → is_some (with_core cores by (Some new) k) ≡ is_some (cores k)
still_there cores by c new at k = elim (cases_eq k by) [
  | inl e ↦ rw e (ap is_some (with_core_same cores by (Some new)) ∙ sym (ap is_some at))
  | inr other ↦ ap is_some (with_core_other cores by (Some new) k other)
]

keeps_running : (count : ℕ) (s : FlatState) (by : ℕ) (c new : CoreState) → s.cores by ≡ Some c → AllRun count s
    → s.next_epoch ≤ s.homefree + running count (with_core s.cores by (Some new))
keeps_running count s by c new at run =
    let same = running_same count s.cores (with_core s.cores by (Some new)) (still_there s.cores by c new at) in omega (arith, run.all, same)

-- no epoch is cancelled by this
abbrev pub CancelsNone : What → Type 0
CancelsNone (Cancel epoch) = ⊥
CancelsNone what = Unit {0}

commit_runs : (count : ℕ) (s : FlatState) (by : ℕ) (c : CoreState) → s.cores by ≡ Some c → by < count → AllRun count s
    → s.next_epoch ≤ s.homefree + 1 + running count (with_core s.cores by None)
commit_runs count s by c at there run =
    let less = count_more count by (λ k. is_some (with_core s.cores by None k)) (λ k. is_some (s.cores k)) there
    (λ k other. ap is_some (with_core_other s.cores by None k other)) (ap is_some (with_core_same s.cores by None)) (ap is_some at) in
    omega (arith, run.all, less)

all_run_on : (image : LoadedImage) (count : ℕ) (s : FlatState) (by : ℕ) (c : CoreState) (what : What) → s.cores by ≡ Some c → by < count → CancelsNone what
    → AllRun count s → AllRun count (effect_on image s by c what)
all_run_on image count s by c (Start epoch) at there none run = record { all = run.all }
all_run_on image count s by c (Load address width value) at there none run = record { all = keeps_running count s by c _ at run }
all_run_on image count s by c (Store address width value) at there none run = record { all = keeps_running count s by c _ at run }
all_run_on image count s by c (Hurt epoch) at there none run = record {
  all = (let same = running_same count s.cores (λ k. hurt_at epoch (s.cores k)) (λ k. hurt_there epoch (s.cores k)) in omega (arith, run.all, same));
}
all_run_on image count s by c (Cancel epoch) at there none run = absurd none
all_run_on image count s by c Restart at there none run = record { all = keeps_running count s by c _ at run }
all_run_on image count s by c Publish at there none run = record { all = keeps_running count s by c _ at run }
all_run_on image count s by c Commit at there none run = record { all = commit_runs count s by c at there run }
all_run_on image count s by c (Fault cause pc) at there none run = record { all = run.all }

start_runs : (count : ℕ) (s : FlatState) (by : ℕ) (new : CoreState) → s.cores by ≡ None → by < count → AllRun count s
    → s.next_epoch + 1 ≤ s.homefree + running count (with_core s.cores by (Some new))
start_runs count s by new at there run =
    let more = count_more count by (λ k. is_some (s.cores k)) (λ k. is_some (with_core s.cores by (Some new) k)) there
    (λ k other. sym (ap is_some (with_core_other s.cores by (Some new) k other))) (ap is_some at) (ap is_some (with_core_same s.cores by (Some new))) in
    omega (arith, run.all, more)

all_run_idle : (image : LoadedImage) (count : ℕ) (s : FlatState) (by : ℕ) (what : What) → s.cores by ≡ None → IsLegalEntry image count s (record { by = by; what = what })
    → AllRun count s → AllRun count (effect_idle image s by what)
all_run_idle image count s by (Start epoch) at legal run =
    let there = and_parts (nat_lt by count) _ legal.there in record { all = start_runs count s by _ at (ltb-true _ _ there.0) run }
all_run_idle image count s by (Load address width value) at legal run = record { all = run.all }
all_run_idle image count s by (Store address width value) at legal run = record { all = run.all }
all_run_idle image count s by (Hurt epoch) at legal run = record { all = run.all }
all_run_idle image count s by (Cancel epoch) at legal run = record { all = run.all }
all_run_idle image count s by Restart at legal run = record { all = run.all }
all_run_idle image count s by Publish at legal run = record { all = run.all }
all_run_idle image count s by Commit at legal run = record { all = run.all }
all_run_idle image count s by (Fault cause pc) at legal run = record { all = run.all }

-- ---- how far apart they are

-- the epochs that have started and not committed are no more than the cores
pub record IsInWindow (count : ℕ) (s : FlatState) : Type 0 where
  pub near : s.next_epoch ≤ s.homefree + count

-- so it is where no epoch starts
abbrev pub StartsNone : What → Type 0
StartsNone (Start epoch) = ⊥
StartsNone what = Unit {0}

near_on : (image : LoadedImage) (count : ℕ) (s : FlatState) (by : ℕ) (c : CoreState) (what : What) → IsInWindow count s → IsInWindow count (effect_on image s by c what)
near_on image count s by c (Start epoch) window = record { near = window.near }
near_on image count s by c (Load address width value) window = record { near = window.near }
near_on image count s by c (Store address width value) window = record { near = window.near }
near_on image count s by c (Hurt epoch) window = record { near = window.near }
near_on image count s by c (Cancel epoch) window = record { near = window.near }
near_on image count s by c Restart window = record { near = window.near }
near_on image count s by c Publish window = record { near = window.near }
near_on image count s by c Commit window = record { near = (let near = window.near in omega (arith, near)) }
near_on image count s by c (Fault cause pc) window = record { near = window.near }

near_idle : (image : LoadedImage) (count : ℕ) (s : FlatState) (by : ℕ) (what : What) → StartsNone what → IsInWindow count s → IsInWindow count (effect_idle image s by what)
near_idle image count s by (Start epoch) none window = absurd none
near_idle image count s by (Load address width value) none window = record { near = window.near }
near_idle image count s by (Store address width value) none window = record { near = window.near }
near_idle image count s by (Hurt epoch) none window = record { near = window.near }
near_idle image count s by (Cancel epoch) none window = record { near = window.near }
near_idle image count s by Restart none window = record { near = window.near }
near_idle image count s by Publish none window = record { near = window.near }
near_idle image count s by Commit none window = record { near = window.near }
near_idle image count s by (Fault cause pc) none window = record { near = window.near }

-- ---- one entry

all_run_by : (image : LoadedImage) (count : ℕ) (s : FlatState) (by : ℕ) (what : What) (core : Option CoreState) → s.cores by ≡ core
    → IsLegalEntry image count s (record { by = by; what = what }) → Going image count s → CancelsNone what → AllRun count s
    → AllRun count (effect image s (record { by = by; what = what }))
all_run_by image count s by what None at legal going none run = rw (effect-idle image s by what at) (all_run_idle image count s by what at legal run)
all_run_by image count s by what (Some c) at legal going none run =
    rw (effect-on image s by what c at) (all_run_on image count s by c what at (going.kept.core by c at).there none run)

pub all_run_still : (image : LoadedImage) (count : ℕ) (s : FlatState) (by : ℕ) (what : What) → IsLegalEntry image count s (record { by = by; what = what })
    → Going image count s → CancelsNone what → AllRun count s → AllRun count (effect image s (record { by = by; what = what }))
all_run_still image count s by what = all_run_by image count s by what (s.cores by) refl

near_by : (image : LoadedImage) (count : ℕ) (s : FlatState) (by : ℕ) (what : What) (core : Option CoreState) → s.cores by ≡ core
    → StartsNone what → IsInWindow count s → IsInWindow count (effect image s (record { by = by; what = what }))
near_by image count s by what None at none window = rw (effect-idle image s by what at) (near_idle image count s by what none window)
near_by image count s by what (Some c) at none window = rw (effect-on image s by what c at) (near_on image count s by c what window)

pub near_still : (image : LoadedImage) (count : ℕ) (s : FlatState) (by : ℕ) (what : What) → StartsNone what → IsInWindow count s
    → IsInWindow count (effect image s (record { by = by; what = what }))
near_still image count s by what = near_by image count s by what (s.cores by) refl

pub near_of : (count : ℕ) (s : FlatState) → AllRun count s → IsInWindow count s
near_of count s run = let most = count_most count (λ k. is_some (s.cores k)) in record { near = omega (arith, run.all, most) }

pub first_all_run : (image : LoadedImage) (count : ℕ) → AllRun count (first_state image)
first_all_run image count = record { all = omega arith }
