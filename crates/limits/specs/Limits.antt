-- In how few steps so many cores can run the loop, where a load that depends on an earlier epoch waits only for what it needs.
-- A core takes an instruction a step, without latency, and a step each to begin and to commit, as in a run at even speed.
-- Source: the limits that dependences alone set are those of Lam and Wilson, "Limits of Control Flow on Parallelism", ISCA 1992; over
-- speculative threads, of Oplinger, Heine and Lam, "In Search of Speculative Thread-Level Parallelism", PACT 1999.
use Rattle.std.specs.Prelude.{◌≡◌, ℕ, zero, suc, ◌+◌, ◌<◌, ◌≤◌}
use Rattle.rv32_image.specs.Image.{LoadedImage}
use Rattle.epoch_paths.specs.Flow.{DependsAt}
use Rattle.epoch_paths.specs.InOrder.{AreAll}
use Rattle.epoch_paths.specs.Lengths.{Lasts}
use Rattle.limits.specs.declared.limit.Waits.{Waits}
use Rattle.limits.specs.declared.limit.Waits.TheVariants.{Commit, Store}

-- in which step each epoch begins, executes the instruction at each place or comes to its end after the last of them, and commits;
-- a place is how many instructions it has executed before
pub record Timing : Type 0 where
  pub begin : ℕ → ℕ
  pub at : ℕ → ℕ → ℕ
  pub commit : ℕ → ℕ

-- the step that a load waits for that depends on this store of this epoch
abbrev pub awaited : Waits → Timing → ℕ → ℕ → ℕ
awaited Store t earlier stored = t.at earlier stored
awaited Commit t earlier stored = t.commit earlier

-- so many cores can run so many epochs in these steps
pub record IsTiming (image : LoadedImage) (waits : Waits) (cores epochs : ℕ) (t : Timing) : Type 0 where
  -- a core begins its next epoch after one has committed
  pub begins : (epoch : ℕ) → epoch + cores < epochs → t.commit epoch < t.begin (epoch + cores)
  -- it takes a step at least for each instruction, and comes to the end after them
  pub first : (epoch : ℕ) → epoch < epochs → t.begin epoch < t.at epoch 0
  pub next : (epoch place length : ℕ) → epoch < epochs → Lasts image epoch length → place < length → t.at epoch place < t.at epoch (place + 1)
  -- a load isn't before what it waits for
  pub ready : (epoch place byte earlier stored : ℕ) → DependsAt image epoch place byte earlier stored → awaited waits t earlier stored ≤ t.at epoch place
  -- an epoch commits where it is at its end, and not before the one before it
  pub ends : (epoch length : ℕ) → epoch < epochs → Lasts image epoch length → t.at epoch length ≤ t.commit epoch
  pub in_order : (epoch : ℕ) → epoch + 1 < epochs → t.commit epoch ≤ t.commit (epoch + 1)

-- the steps up to the commit of the last epoch, from step 0 on; one where there is none
abbrev pub steps_of : ℕ → Timing → ℕ
steps_of zero t = 1
steps_of (suc last) t = t.commit last + 1

-- so many cores can run the epochs that run in order in so many steps, and in no fewer
pub record IsLimit (image : LoadedImage) (waits : Waits) (cores steps : ℕ) : Type 0 where
  pub epochs : ℕ
  pub all : AreAll image epochs
  pub timing : Timing
  pub is : IsTiming image waits cores epochs timing
  pub steps_are : steps_of epochs timing ≡ steps
  pub least : (t : Timing) → IsTiming image waits cores epochs t → steps ≤ steps_of epochs t
