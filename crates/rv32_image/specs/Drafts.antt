-- What the reader of the image text keeps of its draft.
use Rattle.std.specs.Prelude.{◌≡◌, ℕ, ◌%◌, ◌≤◌, Some, None, length, slice_index}
use Rattle.rv32_image.specs.Version.{IsSize}
use Rattle.rv32_image.specs.ImageText.{Draft, version_in}

pub record IsDraft (d : Draft) : Type 0 where
  pub size_settled : d.version ≡ None → d.size ≡ None
  pub size_allowed : (n : ℕ) → d.size ≡ Some n → IsSize (version_in d) n
  pub size_least : (n : ℕ) → d.size ≡ Some n → 16 ≤ n
  pub size_most : (n : ℕ) → d.size ≡ Some n → n ≤ 1048576
  pub size_lines : (n : ℕ) → d.size ≡ Some n → n % 16 ≡ 0
  pub byte_count : (n : ℕ) → d.size ≡ Some n → length d.bytes ≡ n
  pub memory_most : length d.bytes ≤ 1048576
  pub epochs_most : (n : ℕ) → d.epochs ≡ Some n → n ≤ 65535
  pub limit_least : (n : ℕ) → d.limit ≡ Some n → 1 ≤ n
  pub limit_most : (n : ℕ) → d.limit ≡ Some n → n ≤ 1000000
  pub code_least : (n : ℕ) → d.code ≡ Some n → 4 ≤ n
  pub code_most : (n : ℕ) → d.code ≡ Some n → n ≤ length d.bytes
  pub code_words : (n : ℕ) → d.code ≡ Some n → n % 4 ≡ 0
  pub code_needs_size : d.size ≡ None → d.code ≡ None
  pub register_count : length d.registers ≡ 32
  pub given_count : length d.given ≡ 32
  pub x0 : slice_index d.registers 0 ≡ 0
  pub x1 : slice_index d.registers 1 ≡ 0
  pub x10 : slice_index d.registers 10 ≡ 0
