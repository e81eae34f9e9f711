-- The causes of faults, as they are printed. Source: this project.
use Rattle.std.specs.Prelude.{ℕ}

-- the word is no instruction of RV32I
abbrev pub illegal_word : ℕ
illegal_word = 1

-- the word is ECALL or EBREAK
abbrev pub system_instruction : ℕ
system_instruction = 2

-- the pc is outside the code
abbrev pub fetch_outside_code : ℕ
fetch_outside_code = 3

-- the target of a jump or of a taken branch is no multiple of 4
abbrev pub misaligned_target : ℕ
misaligned_target = 4

-- the address of a load or a store is no multiple of its width
abbrev pub misaligned_data : ℕ
misaligned_data = 5

-- a load outside memory
abbrev pub load_outside_memory : ℕ
load_outside_memory = 6

-- a store outside memory or into the code
abbrev pub store_outside_data : ℕ
store_outside_data = 7

-- the epoch has executed as many instructions as its limit allows
abbrev pub instruction_limit : ℕ
instruction_limit = 8
