-- An access at which a hart stops is aligned, and in memory.
use Rattle.std.proofs.Common.{◌≡◌, ℕ, zero, suc, ◌+◌, ◌%◌, ◌^◌, ◌<◌, Bool, true, false, cond, not, ◌==◌, ◌||◌, nat_lt, nat_le, Result, Ok, Err, slice_index, inl, inr, refl, arith}
use Rattle.std.proofs.lemmas.Bool.Decides.{nat_tests}
use Rattle.rv32_decode.specs.declared.instr.Instr.{Instr}
use Rattle.rv32_decode.specs.declared.instr.Instr.TheVariants.{Jal, Jalr, Beq, Bne, Blt, Bge, Bltu, Bgeu, Lb, Lh, Lw, Lbu, Lhu, Sb, Sh, Sw}
use Rattle.rv32_decode.specs.declared.refused.Refused.{Refused}
use Rattle.rv32_decode.specs.declared.refused.Refused.TheVariants.{Illegal, System}
use Rattle.rv32_decode.specs.Table.{meaning_of}
use Rattle.rv32_exec.specs.Hart.{epoch_end}
use Rattle.rv32_exec.specs.declared.stop.Stop.{Stop}
use Rattle.rv32_exec.specs.declared.stop.Stop.TheVariants.{Load, Store, Ended, Fault}
use Rattle.rv32_exec.specs.Faults.{misaligned_data, fetch_outside_code, instruction_limit, load_outside_memory, store_outside_data}
use Rattle.memory_bytes.specs.Bytes.{number_at}
use Rattle.rv32_image.specs.Image.{LoadedImage}
use Rattle.rv32_exec.specs.Hart.{HartState}
use Rattle.rv32_exec.specs.Execute.{Effect, Executes, Stops, jump, branch, load, store, instruction_effect, word_effect, hart_effect, IsStopOf}
use Rattle.memory_bytes.specs.Bytes.{IsWidth}
use Rattle.rv32_exec.specs.NextEvent.{Event, event_within, next_event}
use Rattle.rv32_exec.proofs.Runs.{event_within_executes, event_within_stops}

abbrev StopsWell : LoadedImage → HartState → Effect → Type 0
StopsWell image h (Executes after) = Unit {0}
StopsWell image h (Stops at) = IsStopOf image h at

record IsSound (image : LoadedImage) (h : HartState) (e : Effect) : Type 0 where
  pub stops : StopsWell image h e

executed : (image : LoadedImage) (h after : HartState) → IsSound image h (Executes after)
executed image h after = record { stops = tt }

faulted : (image : LoadedImage) (h : HartState) (cause pc : ℕ) → IsSound image h (Stops (Fault cause pc))
faulted image h cause pc = record { stops = tt }

either : (image : LoadedImage) (h : HartState) (b : Bool) (e f : Effect) → IsSound image h e → IsSound image h f → IsSound image h (cond b e f)
either image h true e f c d = c
either image h false e f c d = d

jump_sound : (image : LoadedImage) (h : HartState) (rd target : ℕ) → IsSound image h (jump h rd target)
jump_sound image h rd target = either image h _ _ _ (executed image h _) (faulted image h _ _)

branch_sound : (image : LoadedImage) (h : HartState) (taken : Bool) (offset : ℕ) → IsSound image h (branch h taken offset)
branch_sound image h taken offset = either image h (not taken) _ _ (executed image h _) (either image h _ _ _ (executed image h _) (faulted image h _ _))

-- ---- accesses

load_by : (image : LoadedImage) (h : HartState) (width : ℕ) (signed : Bool) (rd address : ℕ) (aligned outside : Bool) → h.done < image.limit → IsWidth width
    → (address % width == 0) ≡ aligned → nat_lt image.size (address + width) ≡ outside
    → IsSound image h (cond (not aligned) (Stops (Fault misaligned_data h.pc)) (cond outside (Stops (Fault load_outside_memory h.pc)) (Stops (Load address width signed rd))))
load_by image h width signed rd address false outside room wide aligned is = faulted image h _ _
load_by image h width signed rd address true true room wide aligned is = faulted image h _ _
load_by image h width signed rd address true false room wide aligned is =
    record { stops = record { wide = wide; aligned = grind (arith, nat_tests); within = grind (arith, nat_tests); room = room } }

load_sound : (image : LoadedImage) (h : HartState) (width : ℕ) (signed : Bool) (rd address : ℕ) → h.done < image.limit → IsWidth width
    → IsSound image h (load image h width signed rd address)
load_sound image h width signed rd address room wide =
    load_by image h width signed rd address (address % width == 0) (nat_lt image.size (address + width)) room wide refl refl

store_by : (image : LoadedImage) (h : HartState) (width address value : ℕ) (aligned outside code : Bool) → h.done < image.limit → IsWidth width → value < 256 ^ width
    → (address % width == 0) ≡ aligned → nat_lt image.size (address + width) ≡ outside → nat_lt address image.code ≡ code
    → IsSound image h (cond (not aligned) (Stops (Fault misaligned_data h.pc)) (cond (outside || code) (Stops (Fault store_outside_data h.pc)) (Stops (Store address width value))))
store_by image h width address value false outside code room wide low aligned is above = faulted image h _ _
store_by image h width address value true true code room wide low aligned is above = faulted image h _ _
store_by image h width address value true false true room wide low aligned is above = faulted image h _ _
store_by image h width address value true false false room wide low aligned is above = record {
  stops = record {
    access = record { wide = wide; aligned = grind (arith, nat_tests); within = grind (arith, nat_tests); room = room };
    outside_code = grind (arith, nat_tests);
    low_bytes = low;
  };
}

store_sound : (image : LoadedImage) (h : HartState) (width address value : ℕ) → h.done < image.limit → IsWidth width → value % 256 ^ width < 256 ^ width
    → IsSound image h (store image h width address value)
store_sound image h width address value room wide low =
    store_by image h width address (value % 256 ^ width) (address % width == 0) (nat_lt image.size (address + width)) (nat_lt address image.code) room wide low refl refl refl

byte : IsWidth 1
byte = inl refl

half : IsWidth 2
half = inr (inl refl)

word : IsWidth 4
word = inr (inr refl)

-- ---- instructions

instruction_sound : (image : LoadedImage) (h : HartState) (x : ℕ → ℕ) (instr : Instr) → h.done < image.limit → IsSound image h (instruction_effect image h x instr)
unfolding instruction_effect
instruction_sound image h x (Jal rd offset) room = jump_sound image h rd _
instruction_sound image h x (Jalr rd rs1 imm) room = jump_sound image h rd _
instruction_sound image h x (Beq rs1 rs2 offset) room = branch_sound image h _ offset
instruction_sound image h x (Bne rs1 rs2 offset) room = branch_sound image h _ offset
instruction_sound image h x (Blt rs1 rs2 offset) room = branch_sound image h _ offset
instruction_sound image h x (Bge rs1 rs2 offset) room = branch_sound image h _ offset
instruction_sound image h x (Bltu rs1 rs2 offset) room = branch_sound image h _ offset
instruction_sound image h x (Bgeu rs1 rs2 offset) room = branch_sound image h _ offset
instruction_sound image h x (Lb rd rs1 imm) room = load_sound image h _ _ rd _ room byte
instruction_sound image h x (Lh rd rs1 imm) room = load_sound image h _ _ rd _ room half
instruction_sound image h x (Lw rd rs1 imm) room = load_sound image h _ _ rd _ room word
instruction_sound image h x (Lbu rd rs1 imm) room = load_sound image h _ _ rd _ room byte
instruction_sound image h x (Lhu rd rs1 imm) room = load_sound image h _ _ rd _ room half
instruction_sound image h x (Sb rs1 rs2 imm) room = store_sound image h _ _ _ room byte (omega arith)
instruction_sound image h x (Sh rs1 rs2 imm) room = store_sound image h _ _ _ room half (omega arith)
instruction_sound image h x (Sw rs1 rs2 imm) room = store_sound image h _ _ _ room word (omega arith)
instruction_sound image h x instr room = executed image h _

word_sound : (image : LoadedImage) (h : HartState) (means : Result Instr Refused) → h.done < image.limit → IsSound image h (word_effect image h means)
word_sound image h (Ok instr) room = instruction_sound image h _ instr room
word_sound image h (Err Illegal) room = faulted image h _ _
word_sound image h (Err System) room = faulted image h _ _

fetched_by : (image : LoadedImage) (h : HartState) (over : Bool) (fetched : Effect) → nat_le image.limit h.done ≡ over
    → (h.done < image.limit → IsSound image h fetched) → IsSound image h (cond over (Stops (Fault instruction_limit h.pc)) fetched)
fetched_by image h true fetched is sound = faulted image h _ _
fetched_by image h false fetched is sound = sound (grind (arith, nat_tests))

ended : (image : LoadedImage) (h : HartState) → IsSound image h (Stops Ended)
ended image h = record { stops = tt }

inside_code : (image : LoadedImage) (h : HartState) → h.done < image.limit
    → IsSound image h (cond (nat_le image.code h.pc) (Stops (Fault fetch_outside_code h.pc)) (word_effect image h (meaning_of (number_at (λ a. slice_index image.bytes a) h.pc 4))))
inside_code image h room = either image h (nat_le image.code h.pc) _ _ (faulted image h _ _) (word_sound image h _ room)

effect_sound : (image : LoadedImage) (h : HartState) → IsSound image h (hart_effect image h)
unfolding hart_effect
effect_sound image h =
    either image h (h.pc == epoch_end) (Stops Ended) _ (ended image h) (fetched_by image h (nat_le image.limit h.done) _ refl (inside_code image h))

-- ---- the next event

abbrev AtStop : LoadedImage → Event → Type 0
AtStop image event = IsStopOf image event.now event.at

event_by : (image : LoadedImage) (n : ℕ) (h : HartState) (e : Effect) → hart_effect image h ≡ e
    → ((after : HartState) → AtStop image (event_within image n after)) → AtStop image (event_within image (suc n) h)
event_by image n h (Executes after) is later = rw (event_within_executes image n h after is) (later after)
event_by image n h (Stops at) is later = rw (event_within_stops image n h at is) ((rw is at (effect_sound image h)).stops)

first_event : (image : LoadedImage) (h : HartState) → AtStop image (event_within image 0 h)
unfolding event_within
first_event image h = tt

stop_within : (image : LoadedImage) (n : ℕ) (h : HartState) → AtStop image (event_within image n h)
stop_within image zero h = first_event image h
stop_within image (suc n) h = event_by image n h (hart_effect image h) refl (λ after. stop_within image n after)

pub stop_of_event : (image : LoadedImage) (h : HartState) → IsStopOf image (next_event image h).now (next_event image h).at
unfolding next_event
stop_of_event image h = stop_within image _ h

-- what is known of a stop, by the effect
pub stop_of_effect : (image : LoadedImage) (h : HartState) (at : Stop) → hart_effect image h ≡ Stops at → IsStopOf image h at
stop_of_effect image h at is = (rw is at (effect_sound image h)).stops
