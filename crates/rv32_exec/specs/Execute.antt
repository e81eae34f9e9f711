-- What one instruction does.
-- Source: RISC-V Unprivileged ISA, chapter "RV32I Base Integer Instruction Set", by its sections. Ends, limits
-- and the numbers of faults are this project's.
use Rattle.std.specs.Prelude.{◌≡◌, ◌<◌, ◌≤◌, ℕ, ◌+◌, ◌-◌, ◌*◌, ◌/◌, ◌%◌, ◌^◌, Bool, true, false, not, ◌==◌, ◌||◌, nat_lt, nat_le, Result, Ok, Err, slice_index, if◌then◌else◌, bit_and, bit_or, bit_xor, int_lt}
use Rattle.std.specs.Int.{w32, cast_signed, cast_unsigned, int_shr}
use Rattle.rv32_decode.specs.Word.{sign_extended}
use Rattle.rv32_decode.specs.Table.{meaning_of}
use Rattle.rv32_decode.specs.declared.instr.Instr.{Instr}
use Rattle.rv32_decode.specs.declared.instr.Instr.TheVariants.{Lui, Auipc, Jal, Jalr, Beq, Bne, Blt, Bge, Bltu, Bgeu, Lb, Lh, Lw, Lbu, Lhu, Sb, Sh, Sw, Addi, Slti, Sltiu, Xori, Ori, Andi, Slli, Srli, Srai, Add, Sub, Sll, Slt, Sltu, Xor, Srl, Sra, Or, And, Fence}
use Rattle.rv32_decode.specs.declared.refused.Refused.{Refused}
use Rattle.rv32_decode.specs.declared.refused.Refused.TheVariants.{Illegal, System}
use Rattle.rv32_exec.specs.Faults.{illegal_word, system_instruction, fetch_outside_code, misaligned_target, misaligned_data, load_outside_memory, store_outside_data, instruction_limit}
use Rattle.rv32_exec.specs.declared.stop.Stop.{Stop}
use Rattle.rv32_exec.specs.declared.stop.Stop.TheVariants.{Load, Store, Ended, Fault}
use Rattle.memory_bytes.specs.Bytes.{IsWidth, number_at}
use Rattle.rv32_image.specs.Image.{LoadedImage}
use Rattle.rv32_exec.specs.Hart.{HartState, epoch_end, with_register, stepped, wrote}

-- What happens at a hart before any data is accessed: the instruction is executed, or the hart stops at an
-- access to data, at the epoch's end, or at a fault.
pub data Effect : Type 0 where
  Executes : HartState → Effect
  Stops : Stop → Effect

-- 32-bit arithmetic
abbrev pub add : ℕ → ℕ → ℕ
add a b = (a + b) % 2 ^ 32

abbrev pub subtract : ℕ → ℕ → ℕ
subtract a b = (a + (2 ^ 32 - b)) % 2 ^ 32

abbrev pub is_less_signed : ℕ → ℕ → Bool
is_less_signed a b = int_lt (cast_signed w32 a) (cast_signed w32 b)

abbrev pub bit : Bool → ℕ
bit b = if b then 1 else 0

-- shifts use the low five bits of the amount
abbrev pub shift_left : ℕ → ℕ → ℕ
shift_left a amount = (a * 2 ^ (amount % 32)) % 2 ^ 32

abbrev pub shift_right : ℕ → ℕ → ℕ
shift_right a amount = a / 2 ^ (amount % 32)

-- the sign bit fills the places that become free
abbrev pub shift_right_arithmetic : ℕ → ℕ → ℕ
shift_right_arithmetic a amount = cast_unsigned w32 (int_shr (cast_signed w32 a) (amount % 32))

-- "Unconditional Jumps": the link is written, unless the target is misaligned
abbrev pub jump : HartState → ℕ → ℕ → Effect
jump h rd target =
    if target % 4 == 0 then Executes (record { x = with_register h.x rd (add h.pc 4); pc = target; done = h.done + 1 })
    else Stops (Fault misaligned_target h.pc)

-- "Conditional Branches": only a branch that is taken can be misaligned
abbrev pub branch : HartState → Bool → ℕ → Effect
branch h taken offset =
    if not taken then Executes (stepped h)
    else if add h.pc offset % 4 == 0 then Executes (record { x = h.x; pc = add h.pc offset; done = h.done + 1 })
    else Stops (Fault misaligned_target h.pc)

-- "Load and Store Instructions": an address is a multiple of its access's width, in this profile
abbrev pub load : LoadedImage → HartState → ℕ → Bool → ℕ → ℕ → Effect
load image h width signed rd address =
    if not (address % width == 0) then Stops (Fault misaligned_data h.pc)
    else if nat_lt image.size (address + width) then Stops (Fault load_outside_memory h.pc)
    else Stops (Load address width signed rd)

-- the low `width` bytes of the value are stored, outside the code
abbrev pub store : LoadedImage → HartState → ℕ → ℕ → ℕ → Effect
store image h width address value =
    if not (address % width == 0) then Stops (Fault misaligned_data h.pc)
    else if nat_lt image.size (address + width) || nat_lt address image.code then Stops (Fault store_outside_data h.pc)
    else Stops (Store address width (value % 256 ^ width))

-- the instruction, at a hart that is to execute it; `x r` is what register r holds. In the order of the decoder's table.
unfoldable pub instruction_effect : LoadedImage → HartState → (ℕ → ℕ) → Instr → Effect
-- "Integer Register-Immediate Instructions"
instruction_effect image h x (Lui rd imm) = Executes (wrote h rd imm)
instruction_effect image h x (Auipc rd imm) = Executes (wrote h rd (add h.pc imm))
-- "Unconditional Jumps"; JALR clears the lowest bit of its target
instruction_effect image h x (Jal rd offset) = jump h rd (add h.pc offset)
instruction_effect image h x (Jalr rd rs1 imm) = jump h rd (add (x rs1) imm / 2 * 2)
-- "Conditional Branches"
instruction_effect image h x (Beq rs1 rs2 offset) = branch h (x rs1 == x rs2) offset
instruction_effect image h x (Bne rs1 rs2 offset) = branch h (not (x rs1 == x rs2)) offset
instruction_effect image h x (Blt rs1 rs2 offset) = branch h (is_less_signed (x rs1) (x rs2)) offset
instruction_effect image h x (Bge rs1 rs2 offset) = branch h (not (is_less_signed (x rs1) (x rs2))) offset
instruction_effect image h x (Bltu rs1 rs2 offset) = branch h (nat_lt (x rs1) (x rs2)) offset
instruction_effect image h x (Bgeu rs1 rs2 offset) = branch h (not (nat_lt (x rs1) (x rs2))) offset
-- "Load and Store Instructions"
instruction_effect image h x (Lb rd rs1 imm) = load image h 1 true rd (add (x rs1) imm)
instruction_effect image h x (Lh rd rs1 imm) = load image h 2 true rd (add (x rs1) imm)
instruction_effect image h x (Lw rd rs1 imm) = load image h 4 false rd (add (x rs1) imm)
instruction_effect image h x (Lbu rd rs1 imm) = load image h 1 false rd (add (x rs1) imm)
instruction_effect image h x (Lhu rd rs1 imm) = load image h 2 false rd (add (x rs1) imm)
instruction_effect image h x (Sb rs1 rs2 imm) = store image h 1 (add (x rs1) imm) (x rs2)
instruction_effect image h x (Sh rs1 rs2 imm) = store image h 2 (add (x rs1) imm) (x rs2)
instruction_effect image h x (Sw rs1 rs2 imm) = store image h 4 (add (x rs1) imm) (x rs2)
-- "Integer Register-Immediate Instructions"
instruction_effect image h x (Addi rd rs1 imm) = Executes (wrote h rd (add (x rs1) imm))
instruction_effect image h x (Slti rd rs1 imm) = Executes (wrote h rd (bit (is_less_signed (x rs1) imm)))
instruction_effect image h x (Sltiu rd rs1 imm) = Executes (wrote h rd (bit (nat_lt (x rs1) imm)))
instruction_effect image h x (Xori rd rs1 imm) = Executes (wrote h rd (bit_xor (x rs1) imm))
instruction_effect image h x (Ori rd rs1 imm) = Executes (wrote h rd (bit_or (x rs1) imm))
instruction_effect image h x (Andi rd rs1 imm) = Executes (wrote h rd (bit_and (x rs1) imm))
instruction_effect image h x (Slli rd rs1 amount) = Executes (wrote h rd (shift_left (x rs1) amount))
instruction_effect image h x (Srli rd rs1 amount) = Executes (wrote h rd (shift_right (x rs1) amount))
instruction_effect image h x (Srai rd rs1 amount) = Executes (wrote h rd (shift_right_arithmetic (x rs1) amount))
-- "Integer Register-Register Operations"
instruction_effect image h x (Add rd rs1 rs2) = Executes (wrote h rd (add (x rs1) (x rs2)))
instruction_effect image h x (Sub rd rs1 rs2) = Executes (wrote h rd (subtract (x rs1) (x rs2)))
instruction_effect image h x (Sll rd rs1 rs2) = Executes (wrote h rd (shift_left (x rs1) (x rs2)))
instruction_effect image h x (Slt rd rs1 rs2) = Executes (wrote h rd (bit (is_less_signed (x rs1) (x rs2))))
instruction_effect image h x (Sltu rd rs1 rs2) = Executes (wrote h rd (bit (nat_lt (x rs1) (x rs2))))
instruction_effect image h x (Xor rd rs1 rs2) = Executes (wrote h rd (bit_xor (x rs1) (x rs2)))
instruction_effect image h x (Srl rd rs1 rs2) = Executes (wrote h rd (shift_right (x rs1) (x rs2)))
instruction_effect image h x (Sra rd rs1 rs2) = Executes (wrote h rd (shift_right_arithmetic (x rs1) (x rs2)))
instruction_effect image h x (Or rd rs1 rs2) = Executes (wrote h rd (bit_or (x rs1) (x rs2)))
instruction_effect image h x (And rd rs1 rs2) = Executes (wrote h rd (bit_and (x rs1) (x rs2)))
-- "Memory Ordering Instructions"
instruction_effect image h x Fence = Executes (stepped h)

abbrev pub word_effect : LoadedImage → HartState → Result Instr Refused → Effect
word_effect image h (Ok instr) = instruction_effect image h (λ r. slice_index h.x r) instr
word_effect image h (Err Illegal) = Stops (Fault illegal_word h.pc)
word_effect image h (Err System) = Stops (Fault system_instruction h.pc)

-- what happens at a hart: the end address, the limit, the fetch and the word are looked at in this order
unfoldable pub hart_effect : LoadedImage → HartState → Effect
hart_effect image h =
    if h.pc == epoch_end then Stops Ended
    else if nat_le image.limit h.done then Stops (Fault instruction_limit h.pc)
    else if nat_le image.code h.pc then Stops (Fault fetch_outside_code h.pc)
    else word_effect image h (meaning_of (number_at (λ a. slice_index image.bytes a) h.pc 4))

-- the value that a load writes, from the number that its bytes are
abbrev pub extended : ℕ → Bool → ℕ → ℕ
extended width signed number = if signed then sign_extended (8 * width) number else number

-- the hart after the load at which it stopped, from that number
abbrev pub after_load : HartState → ℕ → Bool → ℕ → ℕ → HartState
after_load h width signed rd number = wrote h rd (extended width signed number)

-- a value for each of the two effects
abbrev pub match_effect : {A : Type 0} → Effect → (HartState → A) → (Stop → A) → A
match_effect (Executes after) executes stops = executes after
match_effect (Stops at) executes stops = stops at

-- what is known of an access at which a hart is stopped
pub record IsAccess (image : LoadedImage) (h : HartState) (address width : ℕ) : Type 0 where
  pub wide : IsWidth width
  pub aligned : address % width ≡ 0
  pub within : address + width ≤ image.size
  pub room : h.done < image.limit

-- and of a store besides
pub record IsStore (image : LoadedImage) (h : HartState) (address width value : ℕ) : Type 0 where
  pub access : IsAccess image h address width
  pub outside_code : image.code ≤ address
  pub low_bytes : value < 256 ^ width

-- what is known of a stop
abbrev pub IsStopOf : LoadedImage → HartState → Stop → Type 0
IsStopOf image h (Load address width signed rd) = IsAccess image h address width
IsStopOf image h (Store address width value) = IsStore image h address width value
IsStopOf image h Ended = Unit {0}
IsStopOf image h (Fault cause pc) = Unit {0}
