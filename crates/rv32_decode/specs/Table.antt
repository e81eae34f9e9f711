-- The table of RV32I: which words are which instruction.
-- Source: RISC-V Unprivileged ISA, "RV32/64G Instruction Set Listings", table "RV32I Base Instruction Set".
use Rattle.std.specs.Prelude.{ℕ, Bool, true, ◌==◌, ◌&&◌, ◌||◌, Option, Some, None, Result, Ok, Err, List, [], ◌∷◌, if◌then◌else◌}
use Rattle.rv32_decode.specs.declared.instr.Instr.{Instr}
use Rattle.rv32_decode.specs.declared.instr.Instr.TheVariants.{Lui, Auipc, Jal, Jalr, Beq, Bne, Blt, Bge, Bltu, Bgeu, Lb, Lh, Lw, Lbu, Lhu, Sb, Sh, Sw, Addi, Slti, Sltiu, Xori, Ori, Andi, Slli, Srli, Srai, Add, Sub, Sll, Slt, Sltu, Xor, Srl, Sra, Or, And, Fence}
use Rattle.rv32_decode.specs.declared.refused.Refused.{Refused}
use Rattle.rv32_decode.specs.declared.refused.Refused.TheVariants.{Illegal, System}
use Rattle.rv32_decode.specs.Word.{opcode, rd, funct3, rs1, rs2, funct7, shamt, i_immediate, s_immediate, b_immediate, u_immediate, j_immediate}

-- a row of the table: the bits that are fixed, and what a word with these bits means
pub record Row : Type 0 where
  pub funct7 : Option ℕ
  pub funct3 : Option ℕ
  pub opcode : ℕ
  pub meaning : ℕ → Instr

-- The formats: a row of each has a word's fields in the order in which the instruction lists them.
abbrev pub u : ℕ → (ℕ → ℕ → Instr) → Row
u code instr = record { funct7 = None; funct3 = None; opcode = code; meaning = λ w. instr (rd w) (u_immediate w) }

abbrev pub j : ℕ → (ℕ → ℕ → Instr) → Row
j code instr = record { funct7 = None; funct3 = None; opcode = code; meaning = λ w. instr (rd w) (j_immediate w) }

abbrev pub i : ℕ → ℕ → (ℕ → ℕ → ℕ → Instr) → Row
i f3 code instr = record { funct7 = None; funct3 = Some f3; opcode = code; meaning = λ w. instr (rd w) (rs1 w) (i_immediate w) }

abbrev pub s : ℕ → ℕ → (ℕ → ℕ → ℕ → Instr) → Row
s f3 code instr = record { funct7 = None; funct3 = Some f3; opcode = code; meaning = λ w. instr (rs1 w) (rs2 w) (s_immediate w) }

abbrev pub b : ℕ → ℕ → (ℕ → ℕ → ℕ → Instr) → Row
b f3 code instr = record { funct7 = None; funct3 = Some f3; opcode = code; meaning = λ w. instr (rs1 w) (rs2 w) (b_immediate w) }

abbrev pub r : ℕ → ℕ → ℕ → (ℕ → ℕ → ℕ → Instr) → Row
r f7 f3 code instr = record { funct7 = Some f7; funct3 = Some f3; opcode = code; meaning = λ w. instr (rd w) (rs1 w) (rs2 w) }

-- a shift by an immediate: the I format with funct7 fixed and the amount in the place of rs2
abbrev pub shift : ℕ → ℕ → ℕ → (ℕ → ℕ → ℕ → Instr) → Row
shift f7 f3 code instr = record { funct7 = Some f7; funct3 = Some f3; opcode = code; meaning = λ w. instr (rd w) (rs1 w) (shamt w) }

-- FENCE, whatever its other bits are
abbrev pub fence : ℕ → ℕ → Instr → Row
fence f3 code instr = record { funct7 = None; funct3 = Some f3; opcode = code; meaning = λ w. instr }

abbrev pub table : List Row
table =
    u 0b0110111 Lui
    ∷ u 0b0010111 Auipc
    ∷ j 0b1101111 Jal
    ∷ i 0b000 0b1100111 Jalr
    ∷ b 0b000 0b1100011 Beq
    ∷ b 0b001 0b1100011 Bne
    ∷ b 0b100 0b1100011 Blt
    ∷ b 0b101 0b1100011 Bge
    ∷ b 0b110 0b1100011 Bltu
    ∷ b 0b111 0b1100011 Bgeu
    ∷ i 0b000 0b0000011 Lb
    ∷ i 0b001 0b0000011 Lh
    ∷ i 0b010 0b0000011 Lw
    ∷ i 0b100 0b0000011 Lbu
    ∷ i 0b101 0b0000011 Lhu
    ∷ s 0b000 0b0100011 Sb
    ∷ s 0b001 0b0100011 Sh
    ∷ s 0b010 0b0100011 Sw
    ∷ i 0b000 0b0010011 Addi
    ∷ i 0b010 0b0010011 Slti
    ∷ i 0b011 0b0010011 Sltiu
    ∷ i 0b100 0b0010011 Xori
    ∷ i 0b110 0b0010011 Ori
    ∷ i 0b111 0b0010011 Andi
    ∷ shift 0b0000000 0b001 0b0010011 Slli
    ∷ shift 0b0000000 0b101 0b0010011 Srli
    ∷ shift 0b0100000 0b101 0b0010011 Srai
    ∷ r 0b0000000 0b000 0b0110011 Add
    ∷ r 0b0100000 0b000 0b0110011 Sub
    ∷ r 0b0000000 0b001 0b0110011 Sll
    ∷ r 0b0000000 0b010 0b0110011 Slt
    ∷ r 0b0000000 0b011 0b0110011 Sltu
    ∷ r 0b0000000 0b100 0b0110011 Xor
    ∷ r 0b0000000 0b101 0b0110011 Srl
    ∷ r 0b0100000 0b101 0b0110011 Sra
    ∷ r 0b0000000 0b110 0b0110011 Or
    ∷ r 0b0000000 0b111 0b0110011 And
    ∷ fence 0b000 0b0001111 Fence
    ∷ []

-- a field that the row fixes has this value
abbrev pub is_fixed : Option ℕ → ℕ → Bool
is_fixed None field = true
is_fixed (Some value) field = field == value

-- the word has the fixed bits of the row
abbrev pub fits_row : Row → ℕ → Bool
fits_row row word = opcode word == row.opcode && is_fixed row.funct3 (funct3 word) && is_fixed row.funct7 (funct7 word)

-- the meaning by the row that the word fits: it fits one at most, which the law `rows_exclude_one_another` says
abbrev pub in_rows : List Row → ℕ → Result Instr Refused
in_rows [] word = Err Illegal
in_rows (row ∷ rows) word = if fits_row row word then Ok (row.meaning word) else in_rows rows word

-- ECALL and EBREAK
abbrev pub is_system : ℕ → Bool
is_system word = word == 0x00000073 || word == 0x00100073

-- what a word of 32 bits means
unfoldable pub meaning_of : ℕ → Result Instr Refused
meaning_of word = if is_system word then Err System else in_rows table word
