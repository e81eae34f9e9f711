-- States of a plain history without a violation, and what a turn of a core that runs an epoch makes of them.
-- Source: this project.
use Rattle.std.specs.Prelude.{◌≡◌, ◌≢◌, ℕ, ◌+◌, ◌<◌, true, false, None, Some, is_some}
use Rattle.rv32_image.specs.Image.{LoadedImage}
use Rattle.spec_history.specs.FlatState.{CoreState, FlatState}
use Rattle.homefree.specs.declared.answer.Answer.{Answer}
use Rattle.homefree.specs.declared.answer.Answer.TheVariants.{Go, Again, Left, Over, Stopped}
use Rattle.epoch_paths.specs.Paths.{ReadsOutside, Stores}
use Rattle.epoch_paths.specs.InOrder.{IsInOrder, memory_before}

-- the loop goes on, and no core is hurt or has published
pub record IsQuiet (s : FlatState) : Type 0 where
  pub going : s.end ≡ None
  pub unhurt : (k : ℕ) (c : CoreState) → s.cores k ≡ Some c → c.hurt ≡ false
  pub speculates : (k : ℕ) (c : CoreState) → s.cores k ≡ Some c → c.straight ≡ false

-- the core runs this epoch
pub record RunsEpoch (s : FlatState) (k epoch : ℕ) : Type 0 where
  pub core : CoreState
  pub runs : s.cores k ≡ Some core
  pub is : core.epoch ≡ epoch

-- it has read each of the bytes that its epoch reads from outside over the memory which so many epochs leave
abbrev pub HasReadAll : LoadedImage → FlatState → ℕ → ℕ → ℕ → Type 0
HasReadAll image s k epoch before =
    (c : CoreState) (a : ℕ) → s.cores k ≡ Some c → ReadsOutside image epoch (memory_before image before) a → is_some (c.outside a) ≡ true

-- each other core is as it was
abbrev pub AreOthers : FlatState → FlatState → ℕ → Type 0
AreOthers s t core = (k : ℕ) → k ≢ core → t.cores k ≡ s.cores k

-- ---- a turn of a core that is idle

-- it has started the next epoch
pub record Starts (s t : FlatState) (core : ℕ) : Type 0 where
  pub quiet : IsQuiet t
  pub homefree : t.homefree ≡ s.homefree
  pub next : t.next_epoch ≡ s.next_epoch + 1
  pub runs : RunsEpoch t core s.next_epoch
  pub others : AreOthers s t core

-- ---- turns of a core that runs an epoch

-- it goes on with it
pub record GoesOn (s t : FlatState) (core epoch : ℕ) : Type 0 where
  pub quiet : IsQuiet t
  pub homefree : t.homefree ≡ s.homefree
  pub next : t.next_epoch ≡ s.next_epoch
  pub runs : RunsEpoch t core epoch
  pub others : AreOthers s t core

-- the epoch isn't the homefree one, and has come to its end
pub record IsAtEnd (image : LoadedImage) (s t : FlatState) (core epoch : ℕ) : Type 0 where
  pub on : GoesOn s t core epoch
  pub later : epoch ≢ s.homefree
  pub read : HasReadAll image t core epoch s.homefree

-- no other core has read a byte that the epoch stores in order
abbrev pub PassesOver : LoadedImage → FlatState → ℕ → ℕ → Type 0
PassesOver image s core epoch =
    (k : ℕ) (c : CoreState) (a : ℕ) → k ≢ core → s.cores k ≡ Some c → Stores image epoch (memory_before image epoch) a → is_some (c.outside a) ≡ false

-- it has committed
pub record HasCommitted (image : LoadedImage) (s t : FlatState) (core epoch : ℕ) : Type 0 where
  pub quiet : IsQuiet t
  pub is_homefree : epoch ≡ s.homefree
  pub homefree : t.homefree ≡ s.homefree + 1
  pub next : t.next_epoch ≡ s.next_epoch
  pub idle : t.cores core ≡ None
  pub others : AreOthers s t core
  pub passes : PassesOver image s core epoch

-- it has ended the loop: no later one runs in order
pub record HasEnded (image : LoadedImage) (s : FlatState) (core epoch : ℕ) : Type 0 where
  pub is_homefree : epoch ≡ s.homefree
  pub last : (d : ℕ) → epoch < d → d < image.epochs → IsInOrder image d → ⊥
  pub passes : PassesOver image s core epoch

-- what it comes to, by the answer
abbrev pub ComesTo : LoadedImage → FlatState → FlatState → ℕ → ℕ → Answer → Type 0
ComesTo image s t core epoch (Go hart) = GoesOn s t core epoch
ComesTo image s t core epoch (Again cause) = IsAtEnd image s t core epoch
ComesTo image s t core epoch Left = HasCommitted image s t core epoch
ComesTo image s t core epoch (Over end) = HasEnded image s core epoch
ComesTo image s t core epoch (Stopped cause) = ⊥
