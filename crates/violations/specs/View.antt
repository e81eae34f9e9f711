-- What contracts see of a store of speculative epochs: sets of bytes and maps, where a cached store has states, marks and
-- messages.
-- Source: epochs, the homefree one, and violation are those of Steffan, Colohan, Zhai and Mowry, "A Scalable Approach to
-- Thread-Level Speculation", ISCA 2000; what a core sees, owns and guards is this project's.
use Rattle.std.specs.Prelude.{◌≡◌, ◌≢◌, ℕ, ◌+◌, ◌*◌, ◌/◌, ◌%◌, ◌^◌, ◌<◌, ◌≤◌, ◌&&◌, Bool, true, false, List, length, slice_index, Option, Some, None, nat_le, nat_lt}
use Rattle.memory_bytes.specs.Bytes.{IsWidth}
use Rattle.rv32_image.specs.declared.machine.Machine.{Machine}
use Rattle.rv32_image.specs.Places.{place}
use Rattle.violations.specs.declared.attempt.Attempt.{Attempt}
use Rattle.violations.specs.declared.step.WaitCause.{WaitCause}

-- what a store is made for, and never changes: so many cores, bytes of memory, bytes of code, which lies from address 0 on, and
-- the machine that runs the image
pub record Shape : Type 0 where
  pub cores : ℕ
  pub size : ℕ
  pub code : ℕ
  pub machine : Machine

-- the line in which a byte lies, by the place of its first byte
abbrev pub line_of : Shape → ℕ → ℕ
line_of shape a = shape.machine.line_length * (place shape.machine shape.size a / shape.machine.line_length)

pub record StoreView : Type 0 where
  pub shape : Shape
  -- caches on a bus guard whole lines and tell of a store at once: eager detection of conflicts, in the words of Moore et al.,
  -- "LogTM: Log-based Transactional Memory", HPCA 2006. Other stores guard bytes and tell of them at the publish
  pub cached : Bool
  -- the committed byte at each address
  pub committed : ℕ → ℕ
  -- what each core runs
  pub attempt : ℕ → Option Attempt
  -- the byte that each core sees at each address
  pub sees : ℕ → ℕ → ℕ
  -- the bytes that a core keeps for itself: those that its attempt has stored
  pub own : ℕ → ℕ → Bool
  -- the bytes whose change violates it: those that its attempt has loaded from outside its own, and beside them none but bytes
  -- of their lines, over caches
  pub guarded : ℕ → ℕ → Bool

-- why a speculative load or store of a core waits, by its address and width; none where it is done
pub record Waits : Type 0 where
  pub load : ℕ → ℕ → ℕ → Option WaitCause
  pub store : ℕ → ℕ → ℕ → Option WaitCause

-- each is done
abbrev pub never_waits : Waits
never_waits = record { load = λ core address width. None; store = λ core address width. None }

-- each waits, for this cause
abbrev pub always_waits : WaitCause → Waits
always_waits cause = record { load = λ core address width. Some cause; store = λ core address width. Some cause }

abbrev pub attempt_of : ℕ → Bool → Attempt
attempt_of epoch straight = record { epoch = epoch; straight = straight }

abbrev pub epoch_of : Option Attempt → ℕ
epoch_of None = 0
epoch_of (Some attempt) = attempt.epoch

-- it owns nothing, guards nothing and sees what is committed
pub record IsClear (v : StoreView) (core : ℕ) : Type 0 where
  pub own : (a : ℕ) → v.own core a ≡ false
  pub guarded : (a : ℕ) → v.guarded core a ≡ false
  pub sees : (a : ℕ) → v.sees core a ≡ v.committed a

-- what every store keeps
pub record IsSettled (v : StoreView) : Type 0 where
  pub there : (k : ℕ) (x : Attempt) → v.attempt k ≡ Some x → k < v.shape.cores
  -- no two attempts are of one epoch
  pub apart : (j k : ℕ) (x y : Attempt) → v.attempt j ≡ Some x → v.attempt k ≡ Some y → x.epoch ≡ y.epoch → j ≡ k
  -- the epoch of a straight attempt is below all others
  pub straight_first : (j k : ℕ) (x y : Attempt) → v.attempt j ≡ Some x → x.straight ≡ true → v.attempt k ≡ Some y → k ≢ j → x.epoch < y.epoch
  pub idle : (k : ℕ) → v.attempt k ≡ None → IsClear v k
  pub straight : (k : ℕ) (x : Attempt) → v.attempt k ≡ Some x → x.straight ≡ true → IsClear v k
  -- caches guard whole lines
  pub whole_lines : v.cached ≡ true → (k a b : ℕ) → line_of v.shape a ≡ line_of v.shape b → v.guarded k a ≡ true → v.guarded k b ≡ true

-- these are all bytes of committed memory, from address 0 on
pub record IsCommitted (v : StoreView) (bytes : List ℕ) : Type 0 where
  pub long : length bytes ≡ v.shape.size
  pub byte : (a : ℕ) → a < v.shape.size → slice_index bytes a ≡ v.committed a

-- ---- conditions of calls

-- the address is one of those that an access names
abbrev pub is_accessed : ℕ → ℕ → ℕ → Bool
is_accessed address width a = nat_le address a && nat_lt a (address + width)

-- a load is aligned and lies in memory
pub record IsLoad (shape : Shape) (address width : ℕ) : Type 0 where
  pub wide : IsWidth width
  pub aligned : address % width ≡ 0
  pub within : address + width ≤ shape.size

-- a store too; it lies outside the code, and its value has its low bytes alone
pub record IsStore (shape : Shape) (address width value : ℕ) : Type 0 where
  pub load : IsLoad shape address width
  pub outside_code : shape.code ≤ address
  pub low_bytes : value < 256 ^ width

-- the core runs an epoch, and is straight or is not
pub record Runs (v : StoreView) (core : ℕ) (straight : Bool) : Type 0 where
  pub epoch : ℕ
  pub is : v.attempt core ≡ Some (attempt_of epoch straight)

-- the core may begin the epoch: it runs none, nobody runs this one, and no straight attempt is of a later one
pub record MayBegin (v : StoreView) (core epoch : ℕ) : Type 0 where
  pub there : core < v.shape.cores
  pub idle : v.attempt core ≡ None
  pub new : (k : ℕ) (x : Attempt) → v.attempt k ≡ Some x → x.epoch ≢ epoch
  pub after_straight : (k : ℕ) (x : Attempt) → v.attempt k ≡ Some x → x.straight ≡ true → x.epoch < epoch

-- the core may publish: it is not straight, and no attempt is of an earlier epoch
pub record MayPublish (v : StoreView) (core : ℕ) : Type 0 where
  pub epoch : ℕ
  pub is : v.attempt core ≡ Some (attempt_of epoch false)
  pub first : (k : ℕ) (x : Attempt) → v.attempt k ≡ Some x → epoch ≤ x.epoch
