-- The fields of an instruction word.
-- Source: RISC-V Unprivileged ISA, RV32I, "Base Instruction Formats" and "Immediate Encoding Variants".
use Rattle.std.specs.Prelude.{ℕ, ◌+◌, ◌-◌, ◌*◌, ◌/◌, ◌%◌, ◌^◌, nat_lt, if◌then◌else◌}

-- the bits from high down to low, as a number
abbrev pub bits : ℕ → ℕ → ℕ → ℕ
bits word high low = word / 2 ^ low % 2 ^ (high + 1 - low)

-- the number of 32 bits that is congruent to n, read as a signed number of this many bits
abbrev pub sign_extended : ℕ → ℕ → ℕ
sign_extended width n = if nat_lt n (2 ^ (width - 1)) then n else n + (2 ^ 32 - 2 ^ width)

abbrev pub opcode : ℕ → ℕ
opcode word = bits word 6 0

abbrev pub rd : ℕ → ℕ
rd word = bits word 11 7

abbrev pub funct3 : ℕ → ℕ
funct3 word = bits word 14 12

abbrev pub rs1 : ℕ → ℕ
rs1 word = bits word 19 15

abbrev pub rs2 : ℕ → ℕ
rs2 word = bits word 24 20

abbrev pub funct7 : ℕ → ℕ
funct7 word = bits word 31 25

-- the amount of SLLI, SRLI and SRAI
abbrev pub shamt : ℕ → ℕ
shamt word = bits word 24 20

abbrev pub i_immediate : ℕ → ℕ
i_immediate word = sign_extended 12 (bits word 31 20)

abbrev pub s_immediate : ℕ → ℕ
s_immediate word = sign_extended 12 (bits word 31 25 * 2 ^ 5 + bits word 11 7)

abbrev pub b_immediate : ℕ → ℕ
b_immediate word =
    sign_extended 13 (bits word 31 31 * 2 ^ 12 + bits word 7 7 * 2 ^ 11 + bits word 30 25 * 2 ^ 5 + bits word 11 8 * 2)

abbrev pub u_immediate : ℕ → ℕ
u_immediate word = bits word 31 12 * 2 ^ 12

abbrev pub j_immediate : ℕ → ℕ
j_immediate word =
    sign_extended 21 (bits word 31 31 * 2 ^ 20 + bits word 19 12 * 2 ^ 12 + bits word 20 20 * 2 ^ 11 + bits word 30 21 * 2)
