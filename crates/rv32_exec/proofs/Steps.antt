-- An instruction that is executed is counted, and none is executed at the limit.
use Rattle.std.proofs.Common.{◌≡◌, ℕ, ◌+◌, ◌%◌, ◌<◌, Bool, true, false, cond, not, ◌==◌, ◌||◌, nat_lt, nat_le, Result, Ok, Err, slice_index, refl, arith}
use Rattle.std.proofs.lemmas.Bool.Decides.{nat_tests}
use Rattle.rv32_decode.specs.declared.instr.Instr.{Instr}
use Rattle.rv32_decode.specs.declared.instr.Instr.TheVariants.{Jal, Jalr, Beq, Bne, Blt, Bge, Bltu, Bgeu, Lb, Lh, Lw, Lbu, Lhu, Sb, Sh, Sw}
use Rattle.rv32_decode.specs.declared.refused.Refused.{Refused}
use Rattle.rv32_decode.specs.declared.refused.Refused.TheVariants.{Illegal, System}
use Rattle.rv32_decode.specs.Table.{meaning_of}
use Rattle.rv32_exec.specs.Hart.{epoch_end}
use Rattle.rv32_exec.specs.declared.stop.Stop.{Stop}
use Rattle.rv32_exec.specs.declared.stop.Stop.TheVariants.{Ended, Fault}
use Rattle.rv32_exec.specs.Faults.{fetch_outside_code, instruction_limit}
use Rattle.memory_bytes.specs.Bytes.{number_at}
use Rattle.rv32_image.specs.Image.{LoadedImage}
use Rattle.rv32_exec.specs.Hart.{HartState}
use Rattle.rv32_exec.specs.Execute.{Effect, Executes, Stops, jump, branch, load, store, instruction_effect, word_effect, hart_effect}

-- where the effect is that an instruction is executed, it is counted
abbrev pub Counts : HartState → Effect → Type 0
Counts h (Executes after) = after.done ≡ h.done + 1
Counts h (Stops at) = Unit {0}

record IsCounted (h : HartState) (e : Effect) : Type 0 where
  pub counts : Counts h e

executed : (h after : HartState) → after.done ≡ h.done + 1 → IsCounted h (Executes after)
executed h after e = record { counts = e }

stopped : (h : HartState) (at : Stop) → IsCounted h (Stops at)
stopped h at = record { counts = tt }

either : (h : HartState) (b : Bool) (e f : Effect) → IsCounted h e → IsCounted h f → IsCounted h (cond b e f)
either h true e f c d = c
either h false e f c d = d

jump_counts : (h : HartState) (rd target : ℕ) → IsCounted h (jump h rd target)
jump_counts h rd target = either h _ _ _ (executed h _ refl) (stopped h _)

branch_counts : (h : HartState) (taken : Bool) (offset : ℕ) → IsCounted h (branch h taken offset)
branch_counts h taken offset = either h (not taken) _ _ (executed h _ refl) (either h _ _ _ (executed h _ refl) (stopped h _))

load_counts : (image : LoadedImage) (h : HartState) (width : ℕ) (signed : Bool) (rd address : ℕ) → IsCounted h (load image h width signed rd address)
load_counts image h width signed rd address =
    either h (not (address % width == 0)) _ _ (stopped h _) (either h (nat_lt image.size (address + width)) _ _ (stopped h _) (stopped h _))

store_counts : (image : LoadedImage) (h : HartState) (width address value : ℕ) → IsCounted h (store image h width address value)
store_counts image h width address value =
    either h (not (address % width == 0)) _ _ (stopped h _) (either h (nat_lt image.size (address + width) || nat_lt address image.code) _ _ (stopped h _) (stopped h _))

instruction_counts : (image : LoadedImage) (h : HartState) (x : ℕ → ℕ) (instr : Instr) → IsCounted h (instruction_effect image h x instr)
unfolding instruction_effect
instruction_counts image h x (Jal rd offset) = jump_counts h rd _
instruction_counts image h x (Jalr rd rs1 imm) = jump_counts h rd _
instruction_counts image h x (Beq rs1 rs2 offset) = branch_counts h _ offset
instruction_counts image h x (Bne rs1 rs2 offset) = branch_counts h _ offset
instruction_counts image h x (Blt rs1 rs2 offset) = branch_counts h _ offset
instruction_counts image h x (Bge rs1 rs2 offset) = branch_counts h _ offset
instruction_counts image h x (Bltu rs1 rs2 offset) = branch_counts h _ offset
instruction_counts image h x (Bgeu rs1 rs2 offset) = branch_counts h _ offset
instruction_counts image h x (Lb rd rs1 imm) = load_counts image h _ _ rd _
instruction_counts image h x (Lh rd rs1 imm) = load_counts image h _ _ rd _
instruction_counts image h x (Lw rd rs1 imm) = load_counts image h _ _ rd _
instruction_counts image h x (Lbu rd rs1 imm) = load_counts image h _ _ rd _
instruction_counts image h x (Lhu rd rs1 imm) = load_counts image h _ _ rd _
instruction_counts image h x (Sb rs1 rs2 imm) = store_counts image h _ _ _
instruction_counts image h x (Sh rs1 rs2 imm) = store_counts image h _ _ _
instruction_counts image h x (Sw rs1 rs2 imm) = store_counts image h _ _ _
instruction_counts image h x instr = executed h _ refl

word_counts : (image : LoadedImage) (h : HartState) (means : Result Instr Refused) → IsCounted h (word_effect image h means)
word_counts image h (Ok instr) = instruction_counts image h _ instr
word_counts image h (Err Illegal) = stopped h _
word_counts image h (Err System) = stopped h _

effect_counts : (image : LoadedImage) (h : HartState) → IsCounted h (hart_effect image h)
unfolding hart_effect
effect_counts image h =
    let fetched = word_counts image h (meaning_of (number_at (λ a. slice_index image.bytes a) h.pc 4)) in
    let inside = either h (nat_le image.code h.pc) (Stops (Fault fetch_outside_code h.pc)) _ (stopped h _) fetched in
    let below = either h (nat_le image.limit h.done) (Stops (Fault instruction_limit h.pc)) _ (stopped h _) inside in
    either h (h.pc == epoch_end) (Stops Ended) _ (stopped h _) below

-- an instruction that is executed is counted
pub executes_counts : (image : LoadedImage) (h after : HartState) → hart_effect image h ≡ Executes after → after.done ≡ h.done + 1
executes_counts image h after is = (rw is at (effect_counts image h)).counts

-- an instruction is executed below the limit alone
below : (image : LoadedImage) (h after : HartState) (b : Bool) (e : Effect) (at : Stop)
    → nat_le image.limit h.done ≡ b → cond b (Stops at) e ≡ Executes after → h.done < image.limit
below image h after true e at le is = absurd cc
below image h after false e at le is = grind (arith, nat_tests)

not_at_end : (b : Bool) (at : Stop) (e : Effect) (after : HartState) → cond b (Stops at) e ≡ Executes after → e ≡ Executes after
not_at_end true at e after is = cc
not_at_end false at e after is = is

pub executes_below : (image : LoadedImage) (h after : HartState) → hart_effect image h ≡ Executes after → h.done < image.limit
unfolding hart_effect
executes_below image h after is = below image h after (nat_le image.limit h.done) _ _ refl (not_at_end _ _ _ after is)
