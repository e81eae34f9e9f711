-- What is kept of a run at even speed so far: in which steps its epochs began, executed and committed, and what that says of a timing.
use Rattle.std.proofs.Common.{◌≡◌, ◌⊎◌, ℕ, ◌+◌, ◌<◌, ◌≤◌, true, false, is_some, Option, Some, None}
use Rattle.rv32_image.specs.Image.{LoadedImage}
use Rattle.spec_history.specs.FlatState.{CoreState, FlatState}
use Rattle.spec_history.specs.Laws.{HasBytes}
use Rattle.epoch_paths.specs.Paths.{ReadsOutside, StoresAt}
use Rattle.epoch_paths.specs.InOrder.{memory_before}
use Rattle.epoch_paths.specs.Flow.{DependsAt}
use Rattle.epoch_paths.specs.Lengths.{Lasts}
use Rattle.epoch_paths.specs.Kept.{IsAt}
use Rattle.limits.specs.declared.limit.Waits.{Waits}
use Rattle.limits.specs.declared.limit.Waits.TheVariants.{Store}
use Rattle.limits.specs.Limits.{Timing, awaited}

-- the steps so far; when each byte was committed last; from when on each core may go on; and which epoch each core began last
pub record Marks : Type 0 where
  pub timing : Timing
  pub shown : ℕ → ℕ
  pub from : ℕ → ℕ
  pub last : ℕ → Option ℕ

-- ---- an epoch that has committed

pub record IsDone (image : LoadedImage) (waits : Waits) (now : ℕ) (m : Marks) (d : ℕ) : Type 0 where
  pub length : ℕ
  pub lasts : Lasts image d length
  pub first : m.timing.begin d < m.timing.at d 0
  pub next : (place : ℕ) → place < length → m.timing.at d place < m.timing.at d (place + 1)
  pub ends : m.timing.at d length ≤ m.timing.commit d
  pub by : m.timing.commit d ≤ now
  pub ready : (place byte earlier stored : ℕ) → DependsAt image d place byte earlier stored → awaited waits m.timing earlier stored ≤ m.timing.at d place
  -- its stores have been committed since
  pub stored : (a stored : ℕ) → StoresAt image d (memory_before image d) stored a → awaited waits m.timing d stored ≤ m.shown a

-- ---- a core that runs an epoch, and isn't hurt

-- this step is not before what the epoch needs of this byte
abbrev pub IsAfterAll : LoadedImage → Waits → Timing → ℕ → ℕ → ℕ → Type 0
IsAfterAll image waits t epoch a step = (d stored : ℕ) → d < epoch → StoresAt image d (memory_before image d) stored a → awaited waits t d stored ≤ step

-- it is on the path of its epoch
pub record IsPath (image : LoadedImage) (waits : Waits) (m : Marks) (c : CoreState) : Type 0 where
  pub own : ℕ → Option ℕ
  pub at : IsAt image c.epoch (memory_before image c.epoch) c.hart own
  pub own_is : c.straight ≡ false → own ≡ c.own
  -- once it has published, its stores have been committed since
  pub written : c.straight ≡ true → (a place : ℕ) → place < c.hart.done → StoresAt image c.epoch (memory_before image c.epoch) place a
      → m.timing.at c.epoch place ≤ m.shown a
  -- before that, no byte that it has read from outside has been committed since
  pub guarded : c.straight ≡ false → (a : ℕ) (reads : ReadsOutside image c.epoch (memory_before image c.epoch) a) → reads.step < c.hart.done
      → (is_some (c.outside a) ≡ true) × (m.shown a ≤ m.timing.at c.epoch reads.step)
  pub after : c.straight ≡ true → (a : ℕ) (reads : ReadsOutside image c.epoch (memory_before image c.epoch) a) → reads.step < c.hart.done
      → IsAfterAll image waits m.timing c.epoch a (m.timing.at c.epoch reads.step)

pub record IsUnder (image : LoadedImage) (waits : Waits) (m : Marks) (k : ℕ) (c : CoreState) : Type 0 where
  pub begun : m.timing.begin c.epoch < m.from k
  pub steps : (place : ℕ) → place < c.hart.done → m.timing.at c.epoch place < m.from k
  pub first : 0 < c.hart.done → m.timing.begin c.epoch < m.timing.at c.epoch 0
  pub next : (place : ℕ) → place + 1 < c.hart.done → m.timing.at c.epoch place < m.timing.at c.epoch (place + 1)
  -- if what it has read is what the run in order has there
  pub path : HasBytes image c.outside (memory_before image c.epoch) → IsPath image waits m c

pub record IsOn (image : LoadedImage) (waits : Waits) (m : Marks) (k : ℕ) (c : CoreState) : Type 0 where
  pub last : m.last k ≡ Some c.epoch
  pub under : c.hurt ≡ false → IsUnder image waits m k c
  pub kind : c.straight ≡ true → waits ≡ Store

-- ---- the whole run

-- the epoch has committed before, or a core began it last
abbrev pub IsOwned : ℕ → ℕ → ℕ → Marks → ℕ → Type 0
IsOwned cores now homefree m d = ((d < homefree) × (m.timing.commit d < now)) ⊎ ((k : ℕ) × (k < cores) × (m.last k ≡ Some d))

pub record IsTimed (image : LoadedImage) (waits : Waits) (cores now homefree next_epoch : ℕ) (running : ℕ → Option CoreState) (m : Marks) : Type 0 where
  pub past : (a : ℕ) → m.shown a ≤ now
  pub done : (d : ℕ) → d < homefree → IsDone image waits now m d
  pub in_order : (d : ℕ) → d + 1 < homefree → m.timing.commit d ≤ m.timing.commit (d + 1)
  pub begins : (d : ℕ) → d + cores < next_epoch → (d < homefree) × (m.timing.commit d < m.timing.begin (d + cores))
  pub begun : (d : ℕ) → m.timing.begin d ≤ now
  pub owned : (d : ℕ) → d < next_epoch → IsOwned cores now homefree m d
  pub core : (k : ℕ) (c : CoreState) → running k ≡ Some c → IsOn image waits m k c
  pub idle : (k : ℕ) → running k ≡ None → (d : ℕ) → m.last k ≡ Some d → (d < homefree) × (m.timing.commit d < m.from k)

-- in a state of the flat machine
abbrev pub IsTimedIn : LoadedImage → Waits → ℕ → ℕ → FlatState → Marks → Type 0
IsTimedIn image waits cores now s m = IsTimed image waits cores now s.homefree s.next_epoch s.cores m
