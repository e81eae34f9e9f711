-- An epoch's run stops once: it lasts for one number of instructions, and all that it executes comes before.
use Rattle.std.proofs.Common.{◌≡◌, ℕ, zero, suc, ◌+◌, ◌-◌, ◌≤◌, List, refl, sym, ap, ◌∙◌, inl, inr, arith}
use Rattle.std.proofs.lemmas.Bool.{cases_lt}
use Rattle.rv32_image.specs.Image.{LoadedImage}
use Rattle.rv32_exec.specs.Hart.{HartState, start_of}
use Rattle.rv32_exec.specs.Sequential.{Progress, Runs, Ends, Faults, after_steps, epoch_outcome, execute, go_on}
use Rattle.rv32_exec.specs.Laws.{HasStopped}
use Rattle.rv32_exec.proofs.LawsOfRuns.{after_steps-+, epoch_stops, no_step, one_step}
use Rattle.epoch_paths.specs.Paths.{StoresAt}
use Rattle.epoch_paths.specs.InOrder.{memory_before}
use Rattle.epoch_paths.specs.Lengths.{Lasts}
use Rattle.epoch_paths.proofs.Following.{stays}

-- what still runs has not come past a stop
pub before_stop : (image : LoadedImage) (n m : ℕ) (from h g : HartState) (memory memory' after : List ℕ) → after_steps image n from memory ≡ Runs h memory'
    → HasStopped (execute image h memory') → after_steps image m from memory ≡ Runs g after → m ≤ n
before_stop image n m from h g memory memory' after runs stops later = elim (cases_lt n m) [
  | inl less ↦
      (let sum : m ≡ n + suc (m - n - 1) = omega (arith, less) in
      let there = after_steps-+ image n (suc (m - n - 1)) from memory ∙ (ap (λ p. go_on p (after_steps image (suc (m - n - 1)))) runs ∙ one_step image (m - n - 1) h memory') in
      absurd (stays image (m - n - 1) (execute image h memory') g after stops (sym there ∙ (sym (ap (λ k. after_steps image k from memory) sum) ∙ later))))
  | inr most ↦ most
]

-- it lasts once
lasts_at_most : (image : LoadedImage) (epoch n m : ℕ) → Lasts image epoch n → Lasts image epoch m → m ≤ n
lasts_at_most image epoch n m first second =
    before_stop image n m (start_of image epoch) first.hart second.hart (memory_before image epoch) first.after second.after first.runs first.stops second.runs

pub lasts_once : (image : LoadedImage) (epoch n m : ℕ) → Lasts image epoch n → Lasts image epoch m → n ≡ m
lasts_once image epoch n m first second =
    let most = lasts_at_most image epoch n m first second in let least = lasts_at_most image epoch m n second first in omega (arith, most, least)

-- a store is within it
pub before_end : (image : LoadedImage) (epoch length stored a : ℕ) → Lasts image epoch length → StoresAt image epoch (memory_before image epoch) stored a → stored ≤ length
before_end image epoch length stored a lasts there =
    before_stop image length stored (start_of image epoch) lasts.hart there.hart (memory_before image epoch) lasts.after there.after lasts.runs lasts.stops there.runs

-- it stops within the limit
stopped_at_limit : (image : LoadedImage) (epoch : ℕ) (memory : List ℕ) → HasStopped (after_steps image (image.limit + 1) (start_of image epoch) memory)
unfolding epoch_outcome
stopped_at_limit image epoch memory = epoch_stops image epoch memory

-- ---- each epoch lasts

-- where it stops, if it does within so many instructions
record Stopped (image : LoadedImage) (from : HartState) (memory : List ℕ) : Type 0 where
  pub count : ℕ
  pub hart : HartState
  pub after : List ℕ
  pub runs : after_steps image count from memory ≡ Runs hart after
  pub stops : HasStopped (execute image hart after)

stopped_by : (image : LoadedImage) (n : ℕ) (from : HartState) (memory : List ℕ) (p : Progress) → execute image from memory ≡ p → HasStopped (go_on p (after_steps image n))
    → ((h : HartState) (m : List ℕ) → HasStopped (after_steps image n h m) → Stopped image h m) → Stopped image from memory
stopped_by image n from memory (Runs h m) is stopped later =
    let one = later h m stopped in record {
      count = suc one.count;
      hart = one.hart;
      after = one.after;
      runs = one_step image one.count from memory ∙ (ap (λ p. go_on p (after_steps image one.count)) is ∙ one.runs);
      stops = one.stops;
    }
stopped_by image n from memory (Ends h m) is stopped later =
    record { count = 0; hart = from; after = memory; runs = no_step image from memory; stops = rw is tt }
stopped_by image n from memory (Faults cause pc m) is stopped later =
    record { count = 0; hart = from; after = memory; runs = no_step image from memory; stops = rw is tt }

stopped_in : (image : LoadedImage) (n : ℕ) (from : HartState) (memory : List ℕ) → HasStopped (after_steps image n from memory) → Stopped image from memory
stopped_in image zero from memory stopped = absurd (rw (no_step image from memory) at stopped)
stopped_in image (suc n) from memory stopped =
    stopped_by image n from memory (execute image from memory) refl (rw (one_step image n from memory) at stopped) (λ h m later. stopped_in image n h m later)

pub lasts_some : (image : LoadedImage) (epoch : ℕ) → (length : ℕ) × Lasts image epoch length
lasts_some image epoch =
    let one = stopped_in image (image.limit + 1) (start_of image epoch) (memory_before image epoch) (stopped_at_limit image epoch (memory_before image epoch)) in
    (one.count, record { hart = one.hart; after = one.after; runs = one.runs; stops = one.stops })
