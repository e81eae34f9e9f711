-- A hart: the state of one epoch's execution, memory aside.
-- Source: RISC-V Unprivileged ISA, "Programmers' Model for Base Integer ISA"; the start and the end of an
-- epoch are this project's.
use Rattle.std.specs.Prelude.{◌≡◌, ℕ, ◌+◌, ◌%◌, ◌^◌, List, length, slice_index, slice_set, ◌==◌, if◌then◌else◌}
use Rattle.rv32_image.specs.Image.{LoadedImage}

-- the address that ends an epoch: a jump there is the epoch's return
abbrev pub epoch_end : ℕ
epoch_end = 0xfffffffc

pub record HartState : Type 0 where
  -- the integer registers, x0 first
  pub x : List ℕ
  -- the address of the next instruction
  pub pc : ℕ
  -- how many instructions of its epoch it has executed
  pub done : ℕ

-- there are 32 registers, and x0 is 0
pub record AreRegisters (x : List ℕ) : Type 0 where
  pub register_count : length x ≡ 32
  pub x0 : slice_index x 0 ≡ 0

-- pc is a multiple of 4, there are 32 registers, and x0 is 0
pub record IsHart (h : HartState) : Type 0 where
  pub aligned : h.pc % 4 ≡ 0
  pub register_count : length h.x ≡ 32
  pub x0 : slice_index h.x 0 ≡ 0

-- the hart at the start of an epoch: pc 0, x10 (a0) the epoch's number, x1 (ra) epoch_end, else as the image says
abbrev pub start_of : LoadedImage → ℕ → HartState
start_of image epoch = record {
  x = slice_set (slice_set image.registers 10 epoch) 1 epoch_end;
  pc = 0;
  done = 0;
}

-- the registers after a write: x0 keeps none
abbrev pub with_register : List ℕ → ℕ → ℕ → List ℕ
with_register x rd value = if rd == 0 then x else slice_set x rd value

-- the hart after an instruction that goes on to the next one
abbrev pub stepped : HartState → HartState
stepped h = record { x = h.x; pc = (h.pc + 4) % 2 ^ 32; done = h.done + 1 }

-- the hart after an instruction that writes a register and goes on to the next one
abbrev pub wrote : HartState → ℕ → ℕ → HartState
wrote h rd value = record { x = with_register h.x rd value; pc = (h.pc + 4) % 2 ^ 32; done = h.done + 1 }
