-- Memory as bytes, and the numbers that lie in it, little endian: the least significant byte has the lowest address.
-- Source: RISC-V Unprivileged ISA, "Memory" and RV32I, "Load and Store Instructions".
use Rattle.std.specs.Prelude.{◌≡◌, ◌⊎◌, ℕ, zero, suc, ◌+◌, ◌*◌, ◌/◌, ◌%◌, ◌^◌, List, slice_set}

-- how many bytes an access may have
abbrev pub IsWidth : ℕ → Type 0
IsWidth width = (width ≡ 1) ⊎ (width ≡ 2) ⊎ (width ≡ 4)

-- byte i of a number, the least significant first
abbrev pub byte_of : ℕ → ℕ → ℕ
byte_of value i = value / 2 ^ (8 * i) % 256

-- the number in the `width` bytes from this address on, in a memory that has this byte at each address
unfoldable pub number_at : (ℕ → ℕ) → ℕ → ℕ → ℕ
number_at memory address zero = 0
number_at memory address (suc width) = memory address + 256 * number_at memory (address + 1) width

-- the memory with the low `width` bytes of the value put from this address on
unfoldable pub with_number : List ℕ → ℕ → ℕ → ℕ → List ℕ
with_number memory address zero value = memory
with_number memory address (suc width) value =
    slice_set (with_number memory address width value) (address + width) (byte_of value width)
