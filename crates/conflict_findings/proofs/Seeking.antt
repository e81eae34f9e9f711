-- What a look back over the entries tells, and what the code makes of it.
use Rattle.std.proofs.Common.{◌≡◌, ℕ, suc, ◌||◌, Bool, true, false, List, length, Option, Some, None, option_and_then, option_map, if◌then◌else◌, refl, sym, ap, ◌∙◌}
use Rattle.rv32_image.specs.Image.{LoadedImage}
use Rattle.spec_history.specs.declared.entry.Entry.{Entry}
use Rattle.spec_history.specs.FlatState.{CoreState, FlatState}
use Rattle.spec_history.specs.Refusal.{has}
use Rattle.conflicts.specs.declared.explanation.Runner.{Runner}
use Rattle.spec_history.specs.Conflict.{entry_is}
use Rattle.conflicts.specs.Attempts.{attempt_number, core_at, core_does, is_begin}
use Rattle.conflict_findings.specs.declared.ended.Ended.{Ended}
use Rattle.conflict_findings.specs.declared.ended.Ending.TheVariants.{Cancelled}
use Rattle.conflict_findings.specs.declared.ended.Running.{Running}
use Rattle.conflict_findings.specs.Ends.{cancelled, done_by, ended_as, is_faulted, runner_in, running_in}
use Rattle.conflict_findings.specs.Violated.{AreMarked, is_violated, is_violation}

-- ---- going back

pub nothing_before : (entries : List Entry) (core epoch : ℕ) → is_violated entries core epoch 0 ≡ false
unfolding is_violated
nothing_before entries core epoch = refl

pub begun_there : (entries : List Entry) (core epoch place : ℕ) → core_does entries core place is_begin ≡ true → is_violated entries core epoch (suc place) ≡ false
unfolding is_violated
begun_there entries core epoch place begins = rw begins refl

pub violated_there : (entries : List Entry) (core epoch place : ℕ) → core_does entries core place is_begin ≡ false → entry_is entries place (is_violation epoch) ≡ true
    → is_violated entries core epoch (suc place) ≡ true
unfolding is_violated
violated_there entries core epoch place begins violates = rw (begins, violates) refl

pub not_there : (entries : List Entry) (core epoch place : ℕ) → core_does entries core place is_begin ≡ false → entry_is entries place (is_violation epoch) ≡ false
    → is_violated entries core epoch (suc place) ≡ is_violated entries core epoch place
unfolding is_violated
not_there entries core epoch place begins violates = rw (begins, violates) refl

-- ---- a core is hurt where the entries say so

hurt_by : (entries : List Entry) (place core : ℕ) (o : Option CoreState) (runner : Runner) (cores : ℕ → Option CoreState) → cores core ≡ o
    → option_map (λ (c : CoreState). record { core = core; epoch = c.epoch }) o ≡ Some runner → AreMarked entries place cores
    → has o (λ c. c.hurt) ≡ is_violated entries runner.core runner.epoch place
hurt_by entries place core None runner cores at is marked = absurd cc
hurt_by entries place core (Some c) runner cores at is marked =
    let same : record { core = core; epoch = c.epoch } ≡ runner = cc in
    marked core c at ∙ ap (λ (r : Runner). is_violated entries r.core r.epoch place) same

pick : (b hurt : Bool) (found : Option Ended) → b ≡ hurt → (if b then None else found) ≡ (if hurt then None else found)
pick b hurt found is = ap (λ x. if x then None else found) is

pub cancelled_is : (image : LoadedImage) (count : ℕ) (s : FlatState) (entries : List Entry) (place by epoch core : ℕ) (runner : Runner) (hurt : Bool) → Some core ≡ core_at count s epoch
    → Some runner ≡ runner_in s core → hurt ≡ is_violated entries runner.core runner.epoch place → AreMarked entries place s.cores
    → (if hurt then None else ended_as image entries s place Cancelled by core) ≡ cancelled image count entries s place by epoch
cancelled_is image count s entries place by epoch core runner hurt found runs is marked =
    sym (ap (option_and_then (λ k. if has (s.cores k) (λ c. c.hurt) then None else ended_as image entries s place Cancelled by k)) (sym found)
    ∙ pick (has (s.cores core) (λ c. c.hurt)) hurt (ended_as image entries s place Cancelled by core) (hurt_by entries place core (s.cores core) runner s.cores refl (sym runs) marked ∙ sym is))

-- the attempt of a core that goes on
abbrev open_as : List Entry → Runner → ℕ → ℕ → Running
open_as entries runner core n = record { runner = runner; attempt = attempt_number entries core (length entries); done = n }

running_by : (image : LoadedImage) (s : FlatState) (entries : List Entry) (place core : ℕ) (o : Option CoreState) (runner : Runner) (hurt faulted : Bool) → s.cores core ≡ o
    → option_map (λ (c : CoreState). record { core = core; epoch = c.epoch }) o ≡ Some runner → is_violated entries runner.core runner.epoch place ≡ hurt → is_faulted s.end runner.epoch ≡ faulted
    → AreMarked entries place s.cores
    → option_and_then {U = Running} (λ (c : CoreState). if c.hurt || is_faulted s.end c.epoch then None else Some (record { runner = record { core = core; epoch = c.epoch }; attempt = attempt_number entries core (length entries); done = done_by image c })) o
    ≡ (if hurt || faulted then None else option_map (open_as entries runner core) (option_map (done_by image) o))
running_by image s entries place core None runner hurt faulted at is is_hurt is_over marked = absurd cc
running_by image s entries place core (Some c) runner hurt faulted at is is_hurt is_over marked =
    let same : record { core = core; epoch = c.epoch } ≡ runner = cc in
    let first : c.hurt ≡ hurt = marked core c at ∙ (ap (λ (r : Runner). is_violated entries r.core r.epoch place) same ∙ is_hurt) in
    let second : is_faulted s.end c.epoch ≡ faulted = ap (λ (r : Runner). is_faulted s.end r.epoch) same ∙ is_over in
    rw (first, second) (ap (λ (r : Runner). if hurt || faulted then None else Some (open_as entries r core (done_by image c))) same)

-- the attempt of a core that runs
pub running_is : (image : LoadedImage) (s : FlatState) (entries : List Entry) (place core : ℕ) (runner : Runner) (hurt faulted : Bool) (done : Option ℕ) → Some runner ≡ runner_in s core
    → hurt ≡ is_violated entries runner.core runner.epoch place → faulted ≡ is_faulted s.end runner.epoch → AreMarked entries place s.cores → done ≡ option_map (done_by image) (s.cores core)
    → (if hurt || faulted then None else option_map (open_as entries runner core) done) ≡ running_in image entries s core
running_is image s entries place core runner hurt faulted n runs is_hurt is_over marked executed =
    ap (λ (d : Option ℕ). if hurt || faulted then None else option_map (open_as entries runner core) d) executed
    ∙ sym (running_by image s entries place core (s.cores core) runner hurt faulted refl (sym runs) (sym is_hurt) (sym is_over) marked)

-- it is violated, or it has faulted
pub ended_so : (image : LoadedImage) (s : FlatState) (entries : List Entry) (place core : ℕ) (runner : Runner) (hurt faulted : Bool) → Some runner ≡ runner_in s core
    → hurt ≡ is_violated entries runner.core runner.epoch place → faulted ≡ is_faulted s.end runner.epoch → AreMarked entries place s.cores → (hurt || faulted) ≡ true
    → None ≡ running_in image entries s core
ended_so image s entries place core runner hurt faulted runs is_hurt is_over marked either =
    sym (ap (λ b. if b then None else option_map (open_as entries runner core) (option_map (done_by image) (s.cores core))) either)
    ∙ running_is image s entries place core runner hurt faulted (option_map (done_by image) (s.cores core)) runs is_hurt is_over marked refl

pub goes_on : (image : LoadedImage) (s : FlatState) (entries : List Entry) (place core n : ℕ) (runner : Runner) (hurt faulted : Bool) → Some runner ≡ runner_in s core
    → hurt ≡ is_violated entries runner.core runner.epoch place → faulted ≡ is_faulted s.end runner.epoch → AreMarked entries place s.cores → (hurt || faulted) ≡ false
    → Some n ≡ option_map (done_by image) (s.cores core) → Some (open_as entries runner core n) ≡ running_in image entries s core
goes_on image s entries place core n runner hurt faulted runs is_hurt is_over marked neither executed =
    sym (ap (λ b. if b then None else option_map (open_as entries runner core) (Some n)) neither)
    ∙ running_is image s entries place core runner hurt faulted (Some n) runs is_hurt is_over marked executed
