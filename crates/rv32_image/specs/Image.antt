-- The loaded image: what a run of the loop starts from. Its limits are this project's.
use Rattle.std.specs.Prelude.{◌≡◌, ℕ, ◌%◌, ◌≤◌, Bool, List, length, slice_index}
use Rattle.rv32_image.specs.declared.machine.Machine.{Machine}
use Rattle.rv32_image.specs.declared.version.Version.{Version}
use Rattle.rv32_image.specs.Machine.{IsMachineFor}
use Rattle.rv32_image.specs.Version.{IsSize}

-- the loop as it was loaded
pub record LoadedImage : Type 0 where
  pub version : Version
  -- the machine that runs it: that of the version, or one that was asked for
  pub machine : Machine
  -- an epoch may exit the loop: one that ends with x10 (a0) other than 0 is the last
  pub exit : Bool
  -- bytes of memory
  pub size : ℕ
  -- bytes of code, which lies from address 0 on
  pub code : ℕ
  -- how many epochs the loop has
  pub epochs : ℕ
  -- how many instructions an epoch may execute
  pub limit : ℕ
  -- the integer registers at an epoch's start, x0 first, but for those that the start sets
  pub registers : List ℕ
  -- memory, from address 0 on
  pub bytes : List ℕ

-- the image is within the limits
pub record IsImage (image : LoadedImage) : Type 0 where
  pub size_allowed : IsSize image.version image.size
  pub machine_allowed : IsMachineFor image.size image.machine
  -- so, in either version
  pub size_least : 16 ≤ image.size
  pub size_most : image.size ≤ 1048576
  pub size_lines : image.size % 16 ≡ 0
  pub code_least : 4 ≤ image.code
  pub code_most : image.code ≤ image.size
  pub code_words : image.code % 4 ≡ 0
  pub epochs_most : image.epochs ≤ 65535
  pub limit_least : 1 ≤ image.limit
  pub limit_most : image.limit ≤ 1000000
  pub register_count : length image.registers ≡ 32
  pub x0 : slice_index image.registers 0 ≡ 0
  pub x1 : slice_index image.registers 1 ≡ 0
  pub x10 : slice_index image.registers 10 ≡ 0
  pub byte_count : length image.bytes ≡ image.size
